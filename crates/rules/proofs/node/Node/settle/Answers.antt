-- `Node::settle` meets its contract: what is said so far with what settling says from here on is what settling says from the start.
use borrow.Author.Rules.{rules}
use mathlib.Core.Path.{◌≡◌, sym, ap, ◌∙◌, subst}
use Prim.Native.Nat.{ℕ, ◌+◌, ◌-◌}
use native.Mathlib.Omega.{arith}
use lib.ListN.{length}
use Rattle.rules.specs.Describe.{window, last_tick, most_firings}
use Rattle.rules.specs.Rules.{first_rule, fired, said}
use Rattle.rules.specs.Steps.{CanFire}
use Rattle.rules.proofs.Firing.{can_fire, rest_true, Same, same_trans, fired_same, settle_none, settle_rest}
use Rattle.rules.proofs.Settlings.{from, ended, fires}
use Rattle.rules.proofs.node.Node.settle.Goals.{In-loop-fired, After-fire-node, After-say-records, After-rule-rule}
use Rattle.rules.proofs.node.Node.settle.Goals as goal

pub returns-then-is_at_rest : goal.returns-then-is_at_rest
returns-then-is_at_rest c =
    let a = c.args in
    let l = c.loop-fired in
    let rows = a.rows.now in
    let rests = rest_true l.rule (sym c.is_at_rest.ensures ∙ c.if-is_at_rest.true) in
    ended l.invariant (settle_rest window last_tick rows (most_firings - l.fired) l.node (sym l.invariant.first ∙ rests))

-- the rule of a turn can fire
can : (c : In-loop-fired) → CanFire last_tick c.loop-fired.node c.loop-fired.rule
can c =
    let a = c.args in
    let l = c.loop-fired in
    subst (CanFire last_tick l.node) (sym l.invariant.first)
    (can_fire window last_tick a.rows.now l.node)

-- by search, which meets it for any rule: that the rule said is the first one shows in `counted`
pub say-records-requires : goal.say-records-requires
say-records-requires c =
    let turn = (goal.at.say-records-requires c).In-loop-fired in
    search (rules, can turn)

pub fire-node-requires : goal.fire-node-requires
fire-node-requires c = can (goal.at.fire-node-requires c).In-loop-fired

-- who the node is stays as it was at the start
stays : (c : After-fire-node) →
    let l = c.loop-fired in
    Same (fired l.node l.rule) c.args.self
stays c =
    let l = c.loop-fired in
    same_trans (fired_same l.node l.rule) l.invariant.same

pub rule-rule-requires : goal.rule-rule-requires
rule-rule-requires c = rw c.fire-node.ensures (omega (arith, stays c))

-- the count goes up by what the rule says
counted : (c : After-say-records) →
    let l = c.loop-fired in
    c.say-records.result ≡ l.records + length (said l.node l.rule)
counted c = omega arith

-- the next rule is the first that can fire, over the rows as they were at the start
next : (c : After-rule-rule) →
    let a = c.args in
    let l = c.loop-fired in
    Same (fired l.node l.rule) a.self
    → c.rule-rule.result ≡ first_rule window last_tick a.rows.now (fired l.node l.rule)
next c same =
    rw c.fire-node.ensures at c.rule-rule.ensures

pub loop-fired-preserved : goal.loop-fired-preserved
loop-fired-preserved c =
    let at = goal.at.loop-fired-preserved c in
    let l = c.loop-fired in
    rw (c.fire-node.ensures, counted at.After-say-records, c.say-records.ensures.bytes)
    (fires l.invariant _ (omega (arith, c.loop-fired-test.true)) (sym c.is_at_rest.ensures ∙ c.if-is_at_rest.false)
    c.rule-rule.result (next c (stays at.After-fire-node)))

pub returns : goal.returns
returns c =
    let a = c.args in
    let l = c.loop-fired in
    let all : l.fired ≡ most_firings = omega arith in
    let none : most_firings - l.fired ≡ 0 = omega arith in
    rw all at (ended l.invariant (ap (λ (n : ℕ). from a.rows.now n l.node) none ∙ settle_none window last_tick a.rows.now l.node))
