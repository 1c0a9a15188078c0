-- `Node::settle` meets its contract: what is said so far with what settling says from here on is what settling says from the start.
use Prim.Native.Nat.{◌-◌}
use Rattle.rules.specs.Describe.{most_firings}
use Rattle.rules.proofs.Settlings.{Settling}
use Rattle.rules.proofs.node.Node.settle.Given as goal

abbrev pub invariant-loop-fired : goal.invariant-loop-fired
invariant-loop-fired l = Settling l.rows l.start l.initial.out l.initial.node l.out l.node l.records l.fired (most_firings - l.fired) l.rule
