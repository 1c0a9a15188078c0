-- `Node::rule_after_init` meets its contract: R1 and R5 at j alone can be new, and one question tells either.
use mathlib.Core.Path.{◌≡◌, refl, sym, ◌∙◌}
use mathlib.Core.Bool.{Bool, true, false, cond}
use Prim.Native.Nat.{ℕ, suc}
use borrow.Author.Tests.{eq-eqb, ne_eqb}
use lib.Dec.{lit<}
use Rattle.rules.specs.Describe.{window, last_tick}
use Rattle.rules.specs.Rules.{or_wake, first_rule}
use Rattle.rules.specs.declared.node.Rule.TheVariants.{Rest, Wake}
use Rattle.rules.proofs.AfterFrame.{init_awaited, init_not_awaited}
use Rattle.rules.proofs.node.Node.rule_after_init.Goals.{After-is_held, then-awaits_init, else-awaits_init+then-self-eq0}
use Rattle.rules.proofs.node.Node.rule_after_init.Goals as goal

wakes : (j : ℕ) (held : Bool) → or_wake (cond held (suc j) 0) ≡ cond held (Wake j) Rest
wakes j true = refl
wakes j false = refl

-- the rule chosen fires where (init, j) is held by enough
first : (c : After-is_held) →
    let a = c.args in
    first_rule window last_tick a.rows.now a.self ≡ cond c.is_held.result c.if-awaits_init.rule Rest
first c =
    let a = c.args in
    elim c.if-awaits_init.branch [
      | then-awaits_init w ↦
          rw (w.rule-is, c.is_held.ensures, c.enough.ensures)
          (init_awaited window last_tick c.requires.1 (lit< tt) (sym c.awaits_init.ensures ∙ w.if-awaits_init.true))
      | else-awaits_init+then-self-eq0 w ↦
          let woken = init_not_awaited window last_tick c.requires.1 (lit< tt) (sym c.awaits_init.ensures ∙ w.if-awaits_init.false) in
          rw (w.rule-is, woken, eq-eqb a.self.mode 0 w.if-self-eq0.true, ← c.enough.ensures, ← c.is_held.ensures)
          (wakes a.j c.is_held.result)
    ]

pub returns-then-is_held : goal.returns-then-is_held
returns-then-is_held c = rw (first (goal.at.returns-then-is_held c).After-is_held, c.if-is_held.true) refl

pub returns-else-is_held : goal.returns-else-is_held
returns-else-is_held c = rw (first (goal.at.returns-else-is_held c).After-is_held, c.if-is_held.false) refl

pub returns-else-self-eq0 : goal.returns-else-self-eq0
returns-else-self-eq0 c =
    let woken = init_not_awaited window last_tick c.requires.1 (lit< tt) (sym c.awaits_init.ensures ∙ c.if-awaits_init.false) in
    rw (woken, ne_eqb c.args.self.mode 0 c.if-self-eq0.false) refl
