-- `rows::OldRows::is_at_rest` meets its contract: no rule fires where none can. R1 and R2 are asked as one.
use mathlib.Core.Path.{◌≡◌, refl}
use mathlib.Core.Bool.{Bool, true, false, cond, not, ◌||◌}
use Prim.Native.Nat.{ℕ, zero, suc}
use native.Mathlib.Omega.{arith}
use borrow.Author.Tests.{lt-ltb}
use lib.Dec.{ltb}
use Rattle.rules.specs.Describe.{window, last_tick}
use Rattle.rules.specs.Rules.{can_r3, jump_to, wake_at, or_jump, or_wake, at_rest}
use Rattle.rules.specs.Steps.{may_echo}
use Rattle.rules.specs.declared.node.Rule.TheVariants.{Echo, Tick}
use Rattle.rules.proofs.Firing.{first_rule_lem}
use Rattle.converter.proofs.rows.OldRows.is_at_rest.Goals.{Joined-can_jump, then-can_echo, else-can_echo, then-can_tick, else-can_tick}
use Rattle.converter.proofs.rows.OldRows.is_at_rest.Goals.{then-can_jump, else-can_jump}
use Rattle.converter.proofs.rows.OldRows.is_at_rest.Goals as goal

-- whether a rule fires, by what each asks
fires : (echo tick : Bool) (l x : ℕ) →
    not (((echo || tick) || ltb 0 l) || ltb 0 x) ≡ at_rest (cond echo Echo (cond tick Tick (or_jump l (or_wake x))))
fires true tick l x = refl
fires false true l x = refl
fires false false (suc l) x = rw (lt-ltb 0 (suc l) (omega arith)) refl
fires false false zero (suc x) = rw (lt-ltb 0 (suc x) (omega arith)) refl
fires false false zero zero = refl

-- which the code asks one after the other
asked : (c : Joined-can_jump) →
    let p = c.args.node in
    let rows = c.args.self.now in
    c.if-can_jump.result
    ≡ (((may_echo p rows || can_r3 window last_tick p rows) || ltb 0 (jump_to window p rows)) || ltb 0 (wake_at window p rows))
asked c =
    let p = c.args.node in
    let rows = c.args.self.now in
    let first : c.if-can_echo.value ≡ (may_echo p rows || can_r3 window last_tick p rows) =
    elim c.if-can_echo.branch [
      | then-can_echo w ↦ rw (w.value-is, ← c.can_echo.ensures, w.if-can_echo.true) refl
      | else-can_echo w ↦ rw (w.value-is, ← c.can_echo.ensures, w.if-can_echo.false) w.can_tick.ensures
    ] in
    let second : c.if-can_tick.value ≡ ((may_echo p rows || can_r3 window last_tick p rows) || ltb 0 (jump_to window p rows)) =
    elim c.if-can_tick.branch [
      | then-can_tick w ↦ rw (w.value-is, ← first, w.if-can_tick.true) refl
      | else-can_tick w ↦ rw (w.value-is, ← first, w.if-can_tick.false) w.can_jump.ensures
    ] in
    elim c.if-can_jump.branch [
      | then-can_jump w ↦ rw (w.result-is, ← second, w.if-can_jump.true) refl
      | else-can_jump w ↦ rw (w.result-is, ← second, w.if-can_jump.false) w.can_wake.ensures
    ]

pub returns : goal.returns
returns c =
    let p = c.args.node in
    let rows = c.args.self.now in
    rw (asked c, first_rule_lem)
    (fires (may_echo p rows) (can_r3 window last_tick p rows) (jump_to window p rows) (wake_at window p rows))
