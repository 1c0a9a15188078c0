use Rattle.text.proofs.Decimals.{Made}
use Rattle.text.proofs.decimal.digits.Given as goal

abbrev pub invariant-loop-rest : goal.invariant-loop-rest
invariant-loop-rest l = Made l.n l.text l.k l.rest

abbrev pub decreases-loop-rest : goal.decreases-loop-rest
decreases-loop-rest l = l.rest
