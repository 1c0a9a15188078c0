-- A case has at least one byte.
use Rattle.std.proofs.Common.{length}
use Rattle.edges.proofs.run_all.Given as goal

abbrev pub decreases-loop-rest : goal.decreases-loop-rest
decreases-loop-rest g l = length l.rest
