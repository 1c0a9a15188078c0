-- `Column::number` meets its contract: a line of the column lies inside the bytes.
use mathlib.Core.Path.{sym, ap, ◌∙◌}
use mathlib.Core.List.{List}
use Prim.Native.Nat.{ℕ, ◌+◌, ◌*◌, ◌≤◌}
use native.Mathlib.Omega.{arith}
use lib.ListN.{length, get_or}
use Rattle.fields.proofs.Words.{length_words, get_d_words}
use Rattle.forms.proofs.Columns.{line_inside}
use Rattle.forms.proofs.column.Column.number.Goals.{After-way_told-1}
use Rattle.forms.proofs.column.Column.number.Goals as goal

-- the line lies inside
line : (c : After-way_told-1) → let a = c.self.inside in a.from + c.args.line * a.stride + 4 ≤ length a.bytes.now
line c =
    let a = c.self.inside in
    line_inside a.lines a.stride a.bytes.now a.from c.self.invariant.1 c.args.line (rw (← c.self.view_is) at c.requires) c.self.invariant.0

pub overflow_mul-line : goal.overflow_mul-line
overflow_mul-line c = omega (arith, line (goal.at.overflow_mul-line c).After-way_told-1)

pub overflow_add-self-inside : goal.overflow_add-self-inside
overflow_add-self-inside c = omega (arith, line (goal.at.overflow_add-self-inside c).After-way_told-1)

pub word-requires : goal.word-requires
word-requires c = line (goal.at.word-requires c).After-way_told-1

pub returns : goal.returns
returns c =
    let a = c.self.inside in
    let whole = ap (λ (l : List ℕ). length l) c.self.view_is in
    let size = length_words a.lines a.stride a.bytes.now a.from in
    c.word.ensures
    ∙ sym (get_d_words a.lines a.stride a.bytes.now a.from c.args.line (omega (arith, whole, size)))
    ∙ ap (λ (l : List ℕ). get_or l c.args.line 0) c.self.view_is
