-- A step has at least its head.
use Rattle.std.proofs.Common.{length}
use Rattle.trial.proofs.take_all.Given as goal

abbrev pub decreases-loop-rest : goal.decreases-loop-rest
decreases-loop-rest g l = length l.rest
