-- `Column::before` meets its contract: fewer lines lie inside the bytes too.
use mathlib.Core.Path.{sym, ap, ◌∙◌}
use mathlib.Core.List.{List}
use Prim.Native.Nat.{ℕ}
use native.Mathlib.Omega.{arith}
use lib.ListN.{length, take}
use Rattle.fields.proofs.Words.{length_words}
use Rattle.forms.proofs.Columns.{lines_inside, take_words}
use Rattle.forms.proofs.column.Column.before.Goals as goal

pub invariant_of-result : goal.invariant_of-result
invariant_of-result c =
    let a = c.self.inside in
    let few = rw (← c.self.view_is) at c.requires in
    (c.self.invariant.0, lines_inside a.lines a.stride a.bytes.now a.from c.self.invariant.1 c.args.line few)

pub returns : goal.returns
returns c =
    let a = c.self.inside in
    let whole = ap (λ (l : List ℕ). length l) c.self.view_is in
    let size = length_words a.lines a.stride a.bytes.now a.from in
    sym (take_words a.lines a.stride a.bytes.now a.from c.args.line (omega (arith, whole, size)))
    ∙ ap (take c.args.line) c.self.view_is
