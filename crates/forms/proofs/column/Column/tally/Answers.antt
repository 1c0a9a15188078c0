-- `Column::tally` meets its contract: what is counted is what stands in the lines passed, and each of these has marked its bucket, so
-- that a line whose bucket is not marked has no twin before it.
use mathlib.Core.Path.{◌≡◌, refl, sym, ap, subst, ◌∙◌}
use mathlib.Core.List.{List}
use Prim.Native.Nat.{ℕ, ◌+◌, ◌*◌, ◌≤◌, ◌<◌}
use native.Mathlib.Omega.{arith}
use Rattle.std.proofs.lemmas.List.{length-take}
use borrow.Author.Tests.{ltb-false}
use lib.ListN.{length, length-set, set, get_or, take}
use Rattle.forms.specs.Column.{most_column, count, twins}
use Rattle.forms.specs.Tally.{bucket_of}
use Rattle.forms.proofs.Columns.{count_more, twins_more, met_more, passed_le, Met, met_none}
use Rattle.forms.proofs.column.Column.tally.Goals.{After-number-here, Joined-marked, then-marked, else-marked}
use Rattle.forms.proofs.column.Column.tally.Goals as goal

pub loop-line-init : goal.loop-line-init
unfolding count twins
loop-line-init c = (refl, refl, refl, ap length c.none-met.ensures, met_none _)

-- the numbers so far are small
small : (c : After-number-here) → let l = c.loop-line in (l.zeros ≤ l.line) × (l.same ≤ l.line) × (l.twins ≤ l.line * most_column)
small c =
    let a = c.args in
    let l = c.loop-line in
    let zero = passed_le a.self.now l.line (omega arith) 0 most_column c.requires in
    let same = passed_le a.self.now l.line (omega arith) a.x most_column c.requires in
    (omega (arith, zero.0), omega (arith, same.0), omega (arith, zero.1))

pub overflow_add-zeros : goal.overflow_add-zeros
overflow_add-zeros c = omega (arith, small (goal.at.overflow_add-zeros c).After-number-here)

pub overflow_add-same : goal.overflow_add-same
overflow_add-same c = omega (arith, small (goal.at.overflow_add-same c).After-number-here)

pub overflow_add-twins : goal.overflow_add-twins
overflow_add-twins c =
    omega (
      arith,
      small (goal.at.overflow_add-twins c).After-number-here,
      c.count-twins.ensures.1,
      ap length c.before-then-marked.ensures,
      length-take {A = ℕ},
    )

-- the line in hand adds its twins among those passed: they are counted, or its bucket is new and there are none
summed : (c : Joined-marked) →
    let l = c.loop-line in
    c.if-marked.twins ≡ l.twins + count c.number-here.result (take l.line c.args.self.now)
summed c =
    let l = c.loop-line in
    let marked = ap (λ (k : ℕ). get_or l.met k 0) c.bucket-k.ensures.0 in
    elim c.if-marked.branch [
      | then-marked w ↦
          omega (arith, w.count-twins.ensures.0, ap (count c.number-here.result) w.before-then-marked.ensures, w.twins-is)
      | else-marked w ↦
          let new = ltb-false 0 _ (sym c.has-marked.ensures ∙ w.if-marked.false) in
          omega (arith, l.invariant.4 c.number-here.result (omega (arith, marked, new)), w.twins-is)
    ]

pub loop-line-preserved : goal.loop-line-preserved
loop-line-preserved c =
    let a = c.args in
    let l = c.loop-line in
    let here = c.number-here in
    let p : l.line < length a.self.now = omega arith in
    let sum = summed (goal.at.loop-line-preserved c).Joined-marked in (
      omega (arith, count_more a.self.now l.line p 0, rw here.ensures at c.one_if_same-zeros.ensures.0),
      omega (arith, count_more a.self.now l.line p a.x, rw here.ensures at c.one_if_same-same.ensures.0),
      omega (arith, twins_more a.self.now l.line p, rw here.ensures at sum),
      ap length c.mark.ensures ∙ length-set l.met c.bucket-k.result 1 ∙ l.invariant.3,
      subst
          (λ (m : List ℕ). Met m (take (l.line + 1) a.self.now))
          (ap (λ (k : ℕ). set l.met k 1) (sym (c.bucket-k.ensures.0 ∙ ap bucket_of here.ensures)) ∙ sym c.mark.ensures)
          (met_more a.self.now l.line p l.met l.invariant.3 l.invariant.4),
    )
