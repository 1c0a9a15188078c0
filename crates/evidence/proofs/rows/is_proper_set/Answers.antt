-- `rows::is_proper_set` meets its contract, by the test on the top.
use mathlib.Core.Path.{sym, ap, ◌∙◌}
use mathlib.Core.Bool.{Bool, ◌&&◌}
use borrow.Author.Tests.{le-leb, lt-leb}
use Rattle.evidence.specs.Rows.{proper_set}
use Rattle.sets.specs.Sets.{held_by}
use Rattle.sets.specs.Ticks.{proper}
use Rattle.evidence.proofs.rows.is_proper_set.Goals as goal

pub returns-then-s-last : goal.returns-then-s-last
unfolding proper_set
returns-then-s-last c =
    let a = c.args in
    let low = le-leb a.s.top a.last c.if-s-last.true in
    c.is_proper.ensures ∙ sym (ap (λ (t : Bool). t && proper a.w (held_by a.s)) low)

pub returns-else-s-last : goal.returns-else-s-last
unfolding proper_set
returns-else-s-last c =
    let a = c.args in
    sym (ap (λ (t : Bool). t && proper a.w (held_by a.s)) (lt-leb a.s.top a.last c.if-s-last.false))
