-- `Node::answer` meets its contract: two tests find another serial that asks, and each that fails leaves no answer.
use borrow.Author.Tests.{eq-eqb, ne_eqb}
use Rattle.rules.specs.Delivery.{answer}
use Rattle.rules.proofs.Records.{sent_none, sent_one}
use Rattle.rules.proofs.node.Node.answer.Goals.{else-asks_answer-via-then-asks_answer+else-port-self, else-asks_answer-via-else-asks_answer}
use Rattle.rules.proofs.node.Node.answer.Goals as goal

pub returns-then-port-self : goal.returns-then-port-self
unfolding answer
returns-then-port-self c =
    let a = c.args in
    rw (← c.asks_answer.ensures, c.if-asks_answer.true, ne_eqb a.port a.self.own c.if-port-self.true) (sent_one c.put_answer.ensures)

pub returns : goal.returns
unfolding answer
returns c =
    let a = c.args in
    elim c.else-asks_answer.branch [
      | else-asks_answer-via-then-asks_answer+else-port-self w ↦
          rw (← c.asks_answer.ensures, w.if-asks_answer.true, eq-eqb a.port a.self.own w.if-port-self.false) sent_none
      | else-asks_answer-via-else-asks_answer w ↦ rw (← c.asks_answer.ensures, w.if-asks_answer.false) sent_none
    ]
