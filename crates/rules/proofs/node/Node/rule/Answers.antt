-- `Node::rule` meets its contract: the rules are tried in their order, R1 and R2 as one. Each `refl` is written out because a refusal
-- then shows where the two sides differ. Assumes nothing.
use mathlib.Core.Path.{refl}
use Rattle.rules.specs.Rules.{first_rule}
use Rattle.rules.proofs.node.Node.rule.Goals.{then-can_echo-via-then-can_echo, then-can_echo-via-else-can_echo+then-can_echo-2}
use Rattle.rules.proofs.node.Node.rule.Goals as goal

pub returns-then-can_echo : goal.returns-then-can_echo
unfolding first_rule
returns-then-can_echo c =
    elim c.then-can_echo.branch [
      | then-can_echo-via-then-can_echo w ↦ rw (← c.can_echo.ensures, w.if-can_echo.true) refl
      | then-can_echo-via-else-can_echo+then-can_echo-2 w ↦
          let echoes = w.can_echo-else-can_echo.ensures in
          rw (← c.can_echo.ensures, w.if-can_echo.false, ← echoes, w.if-can_echo-2.true) refl
    ]

pub returns-then-can_tick : goal.returns-then-can_tick
unfolding first_rule
returns-then-can_tick c =
    let echoes = c.can_echo-else-can_echo.ensures in
    rw (← c.can_echo.ensures, c.if-can_echo.false, ← echoes, c.if-can_echo-2.false, ← c.can_tick.ensures, c.if-can_tick.true) refl

pub returns : goal.returns
unfolding first_rule
returns c =
    let echoes = c.can_echo-else-can_echo.ensures in
    rw (← c.can_echo.ensures, c.if-can_echo.false, ← echoes, c.if-can_echo-2.false, ← c.can_tick.ensures, c.if-can_tick.false)
    c.jump_or_wake.ensures
