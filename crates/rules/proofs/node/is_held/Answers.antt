-- `node::is_held` meets its contract: yes or no, told early, is the full count's.
use mathlib.Core.Path.{sym}
use Rattle.evidence.proofs.Earliest.{full_told}
use Rattle.rules.specs.Describe.{window}
use Rattle.rules.proofs.node.is_held.Goals as goal

pub returns : goal.returns
returns c = let a = c.args in sym (full_told window a.kind a.t a.m a.rows.now c.decide.ensures)
