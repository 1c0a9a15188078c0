-- `Ticks::is_proper` meets its contract, by the cases of the test.
use mathlib.Core.Path.{◌≡◌, sym, ap, ◌∙◌}
use Prim.Native.Nat.{ℕ, ◌+◌, ◌%◌, ◌^◌, min}
use native.Mathlib.Omega.{arith}
use borrow.Author.Tests.{eqb-true, eqb-false}
use lib.Dec.{ltb, eqb}
use mathlib.Core.Bool.{true}
use Rattle.sets.specs.Ticks.{Held, proper}
use Rattle.sets.specs.Sets.{mask_by, held_by}
use Rattle.sets.proofs.Members.{proper_empty, proper_even, proper_odd}
use Rattle.sets.proofs.ticks.Ticks.is_proper.Goals as goal

-- bit 0 is set, and no bit from bit k on
odd : (w k : ℕ) (s : Held) → eqb (s.mask % 2) 1 ≡ true → k ≡ min w (s.top + 1) → ltb s.mask (2 ^ k) ≡ proper w s
odd w k s e reach = ap (λ (k : ℕ). ltb s.mask (2 ^ k)) reach ∙ sym (proper_odd w s (eqb-true (s.mask % 2) 1 e))

pub returns-then-self-w : goal.returns-then-self-w
returns-then-self-w c =
    let a = c.args in
    c.is_below.ensures ∙ odd a.w (a.self.top + 1) (held_by a.self) (sym c.is_odd.ensures ∙ c.if-is_odd.true) (omega arith)

pub returns-else-self-w : goal.returns-else-self-w
returns-else-self-w c =
    let a = c.args in
    c.is_below-else-self-w.ensures ∙ odd a.w a.w (held_by a.self) (sym c.is_odd.ensures ∙ c.if-is_odd.true) (omega arith)

pub returns-then-is_empty : goal.returns-then-is_empty
returns-then-is_empty c =
    let a = c.args in
    let none = eqb-true (mask_by a.self.mask) 0 (sym c.is_empty.ensures ∙ c.if-is_empty.true) in
    sym (proper_empty a.w (held_by a.self) none)

pub returns-else-is_empty : goal.returns-else-is_empty
returns-else-is_empty c =
    let a = c.args in
    let even = eqb-false (mask_by a.self.mask % 2) 1 (sym c.is_odd.ensures ∙ c.if-is_odd.false) in
    let some = eqb-false (mask_by a.self.mask) 0 (sym c.is_empty.ensures ∙ c.if-is_empty.false) in
    c.if-is_empty.false ∙ sym (proper_even a.w (held_by a.self) some even)
