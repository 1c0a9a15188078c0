-- `rows::OldRows::widen` meets its contract: to store the rows from row k on into what is there is to store them all into what was.
use mathlib.Core.Path.{◌≡◌, sym, ◌∙◌}
use mathlib.Core.List.{List}
use Prim.Native.Nat.{ℕ, ◌+◌, ◌*◌, ◌≤◌, ◌<◌}
use native.Mathlib.Omega.{arith}
use lib.ListN.{length, get_or, drop}
use Rattle.sets.specs.Sets.{mask_bytes}
use Rattle.evidence.specs.Rows.{Row, row_bytes, set_of, put_row_bytes, put_rows}
use Rattle.node.specs.Layout.{header_size}
use Rattle.evidence.specs.Rows.{no_row}
use Rattle.evidence.proofs.Lists.{row_and_rest, none_left}
use Rattle.converter.proofs.rows.OldRows.widen.Goals as goal

-- the rows from row k on, in their places
abbrev rest : List ℕ → List Row → ℕ → List ℕ
rest b rows k = put_rows mask_bytes b (header_size + k * row_bytes) (drop k rows)

-- row k stored
abbrev stored : List ℕ → Row → ℕ → List ℕ
stored b row k = put_row_bytes mask_bytes b (header_size + k * row_bytes) row

-- one turn: with row k stored, the rows behind it are what is left to store
store_step :
    (b : List ℕ) (rows : List Row) (k : ℕ) → k < length rows →
    rest (stored b (get_or rows k no_row) k) rows (k + 1) ≡ rest b rows k
unfolding put_rows
store_step b rows k p =
    let at : header_size + (k + 1) * row_bytes ≡ header_size + k * row_bytes + row_bytes = omega arith in
    rw (row_and_rest rows k p, at)

-- past the last row nothing is left to store
store_end : (b : List ℕ) (rows : List Row) (k : ℕ) → length rows ≤ k → rest b rows k ≡ b
unfolding put_rows
store_end b rows k p = rw (none_left rows k p)

pub loop-k-preserved : goal.loop-k-preserved
unfolding set_of
loop-k-preserved c =
    let l = c.loop-k in
    rw (c.put_row.ensures, c.set-echo.ensures.set, c.set-init.ensures.set, c.serial.ensures)
    (store_step l.b c.args.self.now l.k (omega (arith, c.len-k-end.ensures)) ∙ l.invariant)

pub returns : goal.returns
returns c =
    let l = c.loop-k in
    sym (store_end l.b c.args.self.now l.k (omega (arith, c.len-k-end.ensures))) ∙ l.invariant
