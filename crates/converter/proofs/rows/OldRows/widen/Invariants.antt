-- `rows::OldRows::widen` meets its contract: to store the rows from row k on into what is there is to store them all into what was.
use mathlib.Core.Path.{◌≡◌}
use Prim.Native.Nat.{◌+◌, ◌*◌}
use lib.ListN.{drop}
use Rattle.sets.specs.Sets.{mask_bytes}
use Rattle.evidence.specs.Rows.{row_bytes, put_rows}
use Rattle.node.specs.Layout.{header_size}
use Rattle.converter.proofs.rows.OldRows.widen.Given as goal

abbrev pub invariant-loop-k : goal.invariant-loop-k
invariant-loop-k l =
    put_rows mask_bytes l.b (header_size + l.k * row_bytes) (drop l.k l.self) ≡ put_rows mask_bytes l.initial.b header_size l.self
