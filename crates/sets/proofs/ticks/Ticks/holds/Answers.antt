-- `Ticks::holds` meets its contract: above the top, in the window, or below it.
use mathlib.Core.Path.{◌≡◌, sym, ap, ◌∙◌}
use Prim.Native.Nat.{ℕ, ◌-◌}
use native.Mathlib.Omega.{arith}
use borrow.Author.Tests.{le-ltb}
use lib.Dec.{eqb}
use Rattle.sets.specs.Sets.{held_by}
use Rattle.sets.proofs.Members.{holds_at, holds_above, holds_below}
use Rattle.sets.proofs.ticks.Ticks.holds.Goals as goal

-- where it is held or not, so is the answer
asked : {x y : ℕ} → x ≡ y → eqb y 1 ≡ eqb x 1
asked e = sym (ap (λ (x : ℕ). eqb x 1) e)

pub returns-then-self-t : goal.returns-then-self-t
returns-then-self-t c =
    let a = c.args in
    asked (holds_above a.w (held_by a.self) a.t c.if-self-t.true)

pub returns-then-d-w : goal.returns-then-d-w
returns-then-d-w c =
    let a = c.args in
    c.bit.ensures ∙ asked (holds_at a.w (held_by a.self) a.t (a.self.top - a.t) (omega arith) (omega arith))

pub returns-else-d-w : goal.returns-else-d-w
returns-else-d-w c =
    let a = c.args in
    le-ltb (a.self.top - a.t) a.w (omega arith) ∙ asked (holds_below a.w (held_by a.self) a.t (omega arith))
