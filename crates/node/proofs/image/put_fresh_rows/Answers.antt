-- `image::put_fresh_rows` meets its contract: to store the rows from a line on into what is there is to store them all into what was.
use mathlib.Core.Path.{◌≡◌, refl, sym, ◌∙◌}
use mathlib.Core.List.{List}
use Prim.Native.Nat.{ℕ, ◌+◌, ◌*◌, ◌≤◌, ◌<◌}
use native.Mathlib.Numerals.{add-one}
use native.Mathlib.Omega.{arith}
use lib.ListN.{length, get_or, drop, drop_of_length-le}
use lib.Seq.{drop-cons}
use Rattle.sets.specs.Sets.{mask_bytes}
use Rattle.sets.specs.Ticks.{empty}
use Rattle.evidence.specs.Rows.{row_bytes, row_with, put_row_bytes, put_rows}
use Rattle.rules.specs.Describe.{fresh_rows}
use Rattle.node.specs.Layout.{header_size}
use Rattle.node.proofs.image.put_fresh_rows.Goals as goal

-- the rows from line k on, in their places
abbrev rest : List ℕ → List ℕ → ℕ → List ℕ
rest b serials k = put_rows mask_bytes b (header_size + k * row_bytes) (fresh_rows (drop k serials))

-- the row on line k stored: its serial, and two empty sets
abbrev stored : List ℕ → List ℕ → ℕ → List ℕ
stored b serials k = put_row_bytes mask_bytes b (header_size + k * row_bytes) (row_with (get_or serials k 0) empty empty)

-- one turn: with the row on line k stored, the lines behind it are what is left to store
store_step : (b serials : List ℕ) (k : ℕ) → k < length serials → rest (stored b serials k) serials (k + 1) ≡ rest b serials k
unfolding put_rows fresh_rows
store_step b serials k p =
    let at : header_size + (k + 1) * row_bytes ≡ header_size + k * row_bytes + row_bytes = omega arith in
    rw (drop-cons serials k 0 p, at, add-one k)

-- past the last line nothing is left to store
store-end : (b serials : List ℕ) (k : ℕ) → length serials ≤ k → rest b serials k ≡ b
unfolding put_rows fresh_rows
store-end b serials k p = rw (drop_of_length-le serials p)

pub loop-line-init : goal.loop-line-init
loop-line-init c = refl

pub loop-line-preserved : goal.loop-line-preserved
loop-line-preserved c =
    let l = c.loop-line in
    rw (c.put_row.ensures, c.none-in-loop-line.ensures, c.none.ensures, c.number-serial.ensures)
    (store_step l.b c.args.serials.now l.line (omega arith) ∙ l.invariant)

pub returns : goal.returns
returns c =
    let l = c.loop-line in
    sym (store-end l.b c.args.serials.now l.line (omega arith)) ∙ l.invariant
