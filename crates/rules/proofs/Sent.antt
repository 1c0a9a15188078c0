-- What settling and a delivery send: at most one record for each firing and one answer, and none with a tick above k afterwards.
-- Assumes nothing.
use mathlib.Core.Path.{◌≡◌, ap}
use mathlib.Core.List.{List}
use Prim.Native.Nat.{ℕ, ◌+◌, ◌≤◌, ◌<◌}
use native.Mathlib.Omega.{arith}
use lib.ListN.{length, length-append}
use lib.Dec.{ltb}
use Rattle.fields.specs.Kind.{ECHO}
use Rattle.forms.specs.declared.frame.Frame.{Frame}
use Rattle.evidence.specs.Rows.{Row}
use Rattle.evidence.proofs.Growth.{AllKept, credit_kept}
use Rattle.rules.specs.Clock.{InOrder, Below}
use Rattle.rules.specs.Delivery.{State, answer, credited, settled, delivered}
use Rattle.rules.specs.Describe.{most_firings}
use Rattle.rules.specs.Record.{broadcast}
use Rattle.rules.specs.Rules.{first_rule, woken, fired, said, settle}
use Rattle.rules.specs.declared.node.Node.{Node}
use Rattle.rules.specs.declared.node.Rule.{Rule}
use Rattle.rules.specs.declared.node.Rule.TheVariants.{Rest, Echo, Tick, Jump, Wake}
use Rattle.rules.proofs.Answering.{answered, answer_own, delivered_every}
use Rattle.rules.proofs.Clock.{fire_ordered, settle_ordered}
use Rattle.rules.proofs.Every.{every_map}
use Rattle.rules.proofs.Firing.{told, one_or_none, said_few, settle_induction, settle_every}

-- ---- how many

-- a record for each firing at most
settle_few : (w last : ℕ) (rows : List Row) (c : ℕ) (p : Node) → let s = settle w last rows c p in length s.records ≤ s.firings
settle_few w last rows =
    settle_induction w last rows (λ c p s. length s.records ≤ s.firings) (λ p. omega arith) (λ c p e. omega arith)
    (λ c p e ih.
    let rule = first_rule w last rows p in
    omega (arith, said_few p rule, length-append (said p rule) (settle w last rows c (fired p rule)).records))

module _ (w last : ℕ) (s : State) (port : ℕ) (frame : Frame) where
  -- and what is answered
  sent_few : let d = delivered w last s port frame in length d.records ≤ d.firings + length (answer s.node port frame)
  unfolding delivered settled
  sent_few =
      omega (
        arith,
        length-append (answer s.node port frame) (settle w last (credited w s port frame) most_firings s.node).records,
        settle_few w last (credited w s port frame) most_firings s.node,
      )

  pub delivered_few : let d = delivered w last s port frame in length d.records ≤ d.firings + 1
  delivered_few = omega (arith, sent_few, answered (λ l. length l ≤ 1) s.node port frame (λ a. omega arith) (omega arith))

  -- a node does not answer itself
  pub own_few : port ≡ s.node.own → let d = delivered w last s port frame in length d.records ≤ d.firings
  own_few own = omega (arith, sent_few, ap length (answer_own s.node port frame own))

-- ---- no record carries a tick above k after the delivery

said_below : (p : Node) (r : Rule) → Below (fired p r).tick (said p r)
unfolding fired said
said_below p Rest = tt
said_below p Echo = (omega arith, tt)
said_below p Tick = (omega arith, tt)
said_below p (Jump l) = (omega arith, tt)
said_below p (Wake x) =
    one_or_none (Below (woken p x)) (ltb p.sent (woken p x)) (broadcast ECHO (woken p x)) (λ e. (omega arith, tt)) tt

module _ (w last : ℕ) (rows : List Row) (sets : AllKept w last rows) where
  settle_below : (c : ℕ) (p : Node) → InOrder last p → Below (settle w last rows c p).node.tick (settle w last rows c p).records
  settle_below = settle_every w last rows (InOrder last) (λ q r. r.frame.tick ≤ q.tick) keeps says
    where
      keeps : (p : Node) → InOrder last p → InOrder last (fired p (first_rule w last rows p))
      keeps p h = let one = fire_ordered w last rows sets p (first_rule w last rows p) h (told w last rows p) in omega arith

      says :
          (c : ℕ) (p : Node)
          → InOrder last p
          → let rule = first_rule w last rows p in
          Below (settle w last rows c (fired p rule)).node.tick (said p rule)
      says c p h =
          let rule = first_rule w last rows p in
          let rest = settle_ordered w last rows sets c (fired p rule) (keeps p h) in
          every_map (said p rule) (λ r below. omega arith) (said_below p rule)

module _
    (w last : ℕ) (s : State) (port : ℕ) (frame : Frame) (wide : 0 < w) (sets : AllKept w last s.rows) (late : frame.tick ≤ last)
  where
    pub delivered_below : InOrder last s.node → let d = delivered w last s port frame in Below d.state.node.tick d.records
    unfolding delivered settled
    delivered_below order =
        let rows = credited w s port frame in
        let kept = credit_kept w last port frame.kind frame.tick s.rows wide late sets in
        let after = settle_ordered w last rows kept most_firings s.node order in
        delivered_every w last s port frame (λ r. r.frame.tick ≤ (settle w last rows most_firings s.node).node.tick) (λ a. omega arith)
        (settle_below w last rows kept most_firings s.node order)
