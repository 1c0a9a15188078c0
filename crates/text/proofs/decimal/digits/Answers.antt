use Rattle.std.proofs.Common.{arith}
use Rattle.text.proofs.Decimals.{made_more, made_all}
use Rattle.text.proofs.decimal.digits.Goals as goal

pub loop-rest-preserved : goal.loop-rest-preserved
loop-rest-preserved c =
    let l = c.loop-rest in
    (made_more c.args.n l.text l.k l.rest l.invariant (omega arith)).1

pub returns-clause-made : goal.returns-clause-made
returns-clause-made c =
    let l = c.loop-rest in
    made_all c.args.n l.text l.k l.rest l.invariant (omega arith)
