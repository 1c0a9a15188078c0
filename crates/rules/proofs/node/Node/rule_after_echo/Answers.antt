-- `Node::rule_after_echo` meets its contract: an echo below k changes nothing, and after any other R2, R3 and R4 alone can be new. Each
-- `refl` is written out because a refusal then shows where the two sides differ. Assumes nothing.
use mathlib.Core.Path.{refl}
use native.Mathlib.Omega.{arith}
use lib.Dec.{lit<}
use Rattle.rules.specs.Describe.{window, last_tick}
use Rattle.rules.proofs.AfterFrame.{echo_first, echo_late}
use Rattle.rules.proofs.node.Node.rule_after_echo.Goals as goal

pub returns-then-j-self : goal.returns-then-j-self
returns-then-j-self c = rw (echo_late window last_tick c.requires.1 (lit< tt) (omega (arith, c.if-j-self.true))) refl

pub returns-then-can_echo : goal.returns-then-can_echo
returns-then-can_echo c = rw (echo_first window last_tick c.requires.1, ← c.can_echo.ensures, c.if-can_echo.true) refl

pub returns-then-can_tick : goal.returns-then-can_tick
returns-then-can_tick c =
    rw (echo_first window last_tick c.requires.1, ← c.can_echo.ensures, c.if-can_echo.false, ← c.can_tick.ensures, c.if-can_tick.true)
    refl

pub returns-else-can_tick : goal.returns-else-can_tick
returns-else-can_tick c =
    rw (echo_first window last_tick c.requires.1, ← c.can_echo.ensures, c.if-can_echo.false, ← c.can_tick.ensures, c.if-can_tick.false)
    c.jump_near.ensures
