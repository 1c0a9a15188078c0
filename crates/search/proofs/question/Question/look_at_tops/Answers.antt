-- `Question::look_at_tops` of tops.rt meets its contract: what is counted so far and the tops among the rows left make up all, and so
-- does the greatest of the tops below.
use Prim.Native.Nat.{◌≤◌, ◌<◌}
use native.Mathlib.Omega.{arith}
use lib.ListN.{length}
use Rattle.search.specs.Tops.{covers}
use Rattle.search.proofs.Reaches.{look_below, look_here, look_above, many_end, next_end}
use Rattle.search.proofs.question.Question.look_at_tops.Goals.{then-y-x, else-y-x+then-y-end, else-y-x+else-y-end}
use Rattle.search.proofs.question.Question.look_at_tops.Goals as goal

pub loop-k-preserved : goal.loop-k-preserved
loop-k-preserved c =
    let a = c.args in
    let ask = c.args.self.now in
    let rows = ask.rows.now in
    let l = c.loop-k in
    let some : l.k < length rows = omega (arith, c.len-k-end.ensures) in
    elim c.if-y-x.branch [
      | then-y-x w ↦ omega (arith, look_below ask.kind rows l.k some a.x ask.w (omega arith))
      | else-y-x+then-y-end w ↦ omega (arith, look_here ask.kind rows l.k some a.x ask.w (omega arith) (omega arith))
      | else-y-x+else-y-end w ↦ omega (arith, look_above ask.kind rows l.k some a.x ask.w (omega arith))
    ]

pub returns : goal.returns
returns c =
    let a = c.args in
    let ask = c.args.self.now in
    let l = c.loop-k in
    let none : length ask.rows.now ≤ l.k = omega (arith, c.len-k-end.ensures) in
    record {
      here = omega (arith, l.invariant.0, many_end ask.kind ask.rows.now l.k none (covers ask.w a.x));
      next = omega (arith, l.invariant.1, next_end ask.kind ask.rows.now l.k none a.x);
    }
