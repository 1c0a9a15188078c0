-- `Node::jump_near` meets its contract: no tick above k + 1 but j, j - 1 and j - 2 is held by f + 1, so the first of them that is, from j
-- down, is the greatest.
use mathlib.Core.Path.{◌≡◌, refl, sym, ◌∙◌, subst}
use mathlib.Core.Bool.{false≢true}
use Prim.Native.Nat.{ℕ, suc, ◌-◌, ◌≤◌}
use native.Mathlib.Decide.{ℕ_discrete}
use native.Mathlib.Omega.{arith}
use borrow.Author.Tests.{leb-true, le-leb}
use lib.Dec.{lit<}
use Rattle.fields.specs.Kind.{ECHO}
use Rattle.evidence.specs.Holders.{holders}
use Rattle.evidence.proofs.Greatest.{greatest_none, greatest_is}
use Rattle.rules.specs.Describe.{window, last_tick}
use Rattle.rules.specs.Rules.{jump_to}
use Rattle.rules.proofs.AfterFrame.{calm}
use Rattle.rules.proofs.node.Node.jump_near.Goals as goal

pub loop-back-init : goal.loop-back-init
loop-back-init c =
    record {
      below = λ t q r. omega (arith, (calm window last_tick c.requires.1 (lit< tt) t (omega arith) (omega arith)).0);
      above = omega arith;
    }

pub returns-then-l-next : goal.returns-then-l-next
returns-then-l-next c =
    let a = c.args in
    let none : jump_to window a.self a.rows.now ≡ 0 =
    greatest_none window ECHO _ _ _ (λ t q r s. omega (arith, c.loop-back.invariant.below t (omega arith) (omega arith))) in
    rw none refl

pub returns-then-is_held : goal.returns-then-is_held
returns-then-is_held c =
    let a = c.args in
    let l = a.j - c.loop-back.back in
    let held = leb-true c.enough-enough.result (holders window ECHO l a.rows.now) (sym c.is_held.ensures ∙ c.if-is_held.true) in
    let greatest : jump_to window a.self a.rows.now ≡ suc l =
    greatest_is window ECHO _ _ _ l (omega arith) (omega (arith, held)) (omega arith)
    (λ t q r s. omega (arith, c.loop-back.invariant.below t (omega arith) (omega arith))) in
    rw greatest refl

pub loop-back-preserved : goal.loop-back-preserved
loop-back-preserved c =
    let a = c.args in
    let l = a.j - c.loop-back.back in
    record {
      below = λ t q r.
          elim (ℕ_discrete t l) [
            | yes e ↦
                let held = subst (λ (u : ℕ). c.enough-enough.result ≤ holders window ECHO u a.rows.now) e r in
                absurd (false≢true (sym c.if-is_held.false ∙ c.is_held.ensures ∙ le-leb _ _ held))
            | no n ↦ omega (arith, c.loop-back.invariant.below t q r)
          ];
      above = omega (arith, c.loop-back.invariant.above);
    }

pub returns : goal.returns
returns c =
    let a = c.args in
    let none : jump_to window a.self a.rows.now ≡ 0 =
    greatest_none window ECHO _ _ _
    (λ t q r s.
    omega (arith, c.loop-back.invariant.below t (omega arith) (omega arith), calm window last_tick c.requires.1 (lit< tt) t q r)) in
    rw none refl
