-- `image::put_fresh_rows` meets its contract: to store the rows from a line on into what is there is to store them all into what was.
use mathlib.Core.Path.{◌≡◌}
use Prim.Native.Nat.{◌+◌, ◌*◌}
use lib.ListN.{drop}
use Rattle.sets.specs.Sets.{mask_bytes}
use Rattle.evidence.specs.Rows.{row_bytes, put_rows}
use Rattle.rules.specs.Describe.{fresh_rows}
use Rattle.node.specs.Layout.{header_size}
use Rattle.node.proofs.image.put_fresh_rows.Given as goal

abbrev pub invariant-loop-line : goal.invariant-loop-line
invariant-loop-line l =
    put_rows mask_bytes l.b (header_size + l.line * row_bytes) (fresh_rows (drop l.line l.serials))
    ≡ put_rows mask_bytes l.initial.b header_size (fresh_rows l.serials)
