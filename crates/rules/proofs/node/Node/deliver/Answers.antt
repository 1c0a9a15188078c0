-- `Node::deliver` meets its contract: the rows that the rules look at are the credited ones, of a node that was at rest before, and what is
-- said goes behind the answer.
use mathlib.Core.Path.{◌≡◌, refl, ap, ◌∙◌}
use mathlib.Core.List.{List}
use Prim.Native.Nat.{ℕ, ◌+◌}
use native.Mathlib.Omega.{arith}
use lib.ListN.{length}
use Rattle.forms.specs.declared.frame.Frame.{Frame}
use Rattle.sets.specs.Sets.{mask_bytes, mask_bits}
use Rattle.evidence.specs.Rows.{put_rows, credit}
use Rattle.evidence.proofs.Encoded.{credit_read_back}
use Rattle.evidence.proofs.Layouts.{length_rows}
use Rattle.rules.specs.Delivery.{State, answer, credited, settled, delivered}
use Rattle.rules.specs.Describe.{window, last_tick}
use Rattle.rules.specs.Steps.{rows_from, state_from, RowsOf, SentAs, SettledAs, DeliveredAs}
use Rattle.rules.specs.declared.node.Next.{Next}
use Rattle.rules.proofs.Records.{sent_then}
use Rattle.rules.proofs.node.Node.deliver.Goals.{After-credit_row, After-new-rows, After-answer-start}
use Rattle.rules.proofs.node.Node.deliver.Goals as goal

-- the bytes that the credit left: the frame stands in the port's row
stored : (c : After-credit_row) →
    let a = c.args in
    let rows = credit window a.port a.frame.kind a.frame.tick (rows_from a.self a.b.now a.i) in
    c.credit_row.new.b ≡ put_rows mask_bytes a.b.now a.i rows
stored c = c.credit_row.ensures

-- the rows that the credit left
kept : (c : After-new-rows) →
    let a = c.args in
    c.new-rows.result ≡ credit window a.port a.frame.kind a.frame.tick (rows_from a.self a.b.now a.i)
kept c =
    let a = c.args in
    rw (c.new-rows.ensures, c.credit_row.ensures)
    (credit_read_back mask_bytes mask_bits window refl (omega arith) (omega arith) a.port a.frame.kind a.frame.tick
    a.self.lines a.b.now a.i (λ k. (c.slice_known-1.given k).fits)
    (omega (arith, c.well_formed.1.1.1.1.0)) c.requires.rows.inside)

-- as many as the node's lines
own : (c : After-new-rows) → RowsOf c.args.self c.new-rows.result
own c =
    let a = c.args in
    record {
      lines = ap length c.new-rows.ensures ∙ length_rows mask_bytes a.self.lines c.credit_row.new.b a.i;
      fewer = c.requires.rows.fewer;
    }

-- they are those that the frame left, of a node that was at rest
pub rule_after-first-requires : goal.rule_after-first-requires
rule_after-first-requires c =
    let made = (goal.at.rule_after-first-requires c).After-new-rows in
    let a = c.args in (
      own made,
      record {
        before = rows_from a.self a.b.now a.i;
        rest = c.requires.rest;
        port = a.port;
        kind = a.frame.kind;
        which = refl;
        after = kept made;
      },
    )

pub settle-requires : goal.settle-requires
settle-requires c =
    let made = (goal.at.settle-requires c).After-new-rows in
    record {
      rows = own made;
      space = omega arith;
      answers = c.answer-start.ensures.few;
      first = c.rule_after-first.ensures;
    }

-- the count of answers is the delivery's
answered : (c : After-answer-start) →
    let a = c.args in
    c.answer-start.result ≡ 0 + length (answer a.self a.port a.frame)
answered c = omega arith

-- a credit, an answer and settling are a delivery
delivers : (s : State) (port : ℕ) (frame : Frame) {b : List ℕ} {i : ℕ} {out mid after image : List ℕ} {start : ℕ} {r : Next}
    → image ≡ put_rows mask_bytes b i (credited window s port frame)
    → SentAs 1 (answer s.node port frame) 0 out start mid
    → SettledAs (settled window last_tick s port frame) start mid r after
    → DeliveredAs (delivered window last_tick s port frame) b i out r image after
unfolding delivered
delivers s port frame rows first h =
    let all = sent_then first h.sent in
    record {
      node = h.node;
      rows = rows;
      records = omega (arith, all.records);
      few = omega (arith, all.few);
      bytes = all.bytes;
      fired = h.fired;
      allowed = h.allowed;
    }

pub returns : goal.returns
unfolding settled
returns c =
    let at = goal.at.returns c in
    let made = at.After-new-rows in
    let a = c.args in
    let sent = c.answer-start.ensures in
    delivers (state_from a.self a.b.now a.i) a.port a.frame (stored at.After-credit_row)
    (record { records = answered at.After-answer-start; few = sent.few; bytes = sent.bytes })
    (rw (kept made) at c.settle.ensures)
