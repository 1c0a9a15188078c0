-- Who answers whom (02, A2): a record of a delivery is the one answer or a broadcast, only a frame that asks is answered, and no record
-- asks, so that an answer draws none.
-- Assumes nothing.
use mathlib.Core.Path.{◌≡◌, refl, sym, ◌∙◌}
use mathlib.Core.Logic.Iff
use mathlib.Core.Logic.{◌↔◌, ◌≢◌, ◌⊎◌, inl, inr}
use mathlib.Core.Bool.{Bool, true, false, cond, ◌&&◌}
use mathlib.Core.List.{List, [], ◌∷◌, ◌++◌}
use Prim.Native.Nat.{ℕ, ◌+◌}
use native.Mathlib.Omega.{arith}
use borrow.Author.Tests.{ltb-true, ne_eqb}
use lib.Dec.{ltb}
use Rattle.fields.specs.Kind.{ECHO}
use Rattle.forms.specs.Frame.{BROADCAST, ANSWER}
use Rattle.forms.specs.Table.{KnownHead}
use Rattle.forms.specs.declared.frame.Frame.{Frame}
use Rattle.forms.proofs.Meaning.{equal, opposite, both}
use Rattle.evidence.specs.Rows.{Row}
use Rattle.evidence.proofs.Greatest.{greatest_held}
use Rattle.rules.specs.Answering.{Asks, Silent, Broadcast, TheAnswer, answers_in}
use Rattle.rules.specs.Delivery.{State, asks, other_than, answer, credited, settled, delivered}
use Rattle.rules.specs.Describe.{most_firings}
use Rattle.rules.specs.Record.{Outgoing, Every, broadcast, answer_to}
use Rattle.rules.specs.Rules.{first_rule, woken, said, settle}
use Rattle.rules.specs.declared.node.Node.{Node}
use Rattle.rules.specs.declared.node.Rule.{Rule}
use Rattle.rules.specs.declared.node.Rule.TheVariants.{Rest, Echo, Tick, Jump, Wake}
use Rattle.rules.proofs.Every.{every_append, every_map}
use Rattle.rules.proofs.Firing.{Told, told, one_or_none, settle_every}

-- `asks` is the test of `Asks`
pub asks_says : (frame : Frame) → (asks frame ≡ true) ↔ Asks frame
asks_says frame =
    Iff.trans (both _ _ (equal frame.kind ECHO) (both _ _ (equal frame.tick 0) (equal frame.flag BROADCAST)))
    (λ h. record { kind = h.0; tick = h.1.0; flag = h.1.1 }, λ h. (h.kind, (h.tick, h.flag)))

-- what a rule says goes to all, without the flag
to_all : {kind tick : ℕ} → Broadcast (broadcast kind tick)
to_all = record { dest = refl; flag = refl }

-- a record whose kind and flag the reader knows
abbrev Known : Outgoing → Type 0
Known r = KnownHead r.frame.kind r.frame.flag

-- ---- the answer

-- what holds of the answer where there is one, and of none, holds of what is answered
pub answered :
    (Q : List Outgoing → Type 0) (p : Node) (port : ℕ) (frame : Frame)
    → (TheAnswer p port frame (answer_to port p.sent) → Q (answer_to port p.sent ∷ []))
    → Q []
    → Q (answer p port frame)
unfolding answer
answered Q p port frame one none =
    one_or_none Q (asks frame && other_than p.own port) (answer_to port p.sent)
    (λ e.
    let h = (both _ _ (asks_says frame) (opposite _ (equal port p.own))).0 e in
    one (record { asked = h.0; other = h.1; dest = refl; kind = refl; tick = refl }))
    none

module _ (p : Node) (port : ℕ) (frame : Frame) where
  pub answer_asked : Asks frame → port ≢ p.own → answer p port frame ≡ answer_to port p.sent ∷ []
  unfolding answer
  answer_asked asked other = rw ((asks_says frame).1 asked, ne_eqb port p.own other)

  pub answer_unasked : (Asks frame → ⊥) → answer p port frame ≡ []
  answer_unasked unasked = answered (λ l. l ≡ []) p port frame (λ a. absurd (unasked a.asked)) refl

  pub answer_own : port ≡ p.own → answer p port frame ≡ []
  answer_own own = answered (λ l. l ≡ []) p port frame (λ a. absurd (a.other own)) refl

-- ---- what a rule says

said_broadcasts : (p : Node) (rule : Rule) → Every Broadcast (said p rule)
unfolding said
said_broadcasts p Rest = tt
said_broadcasts p Echo = (to_all, tt)
said_broadcasts p Tick = (to_all, tt)
said_broadcasts p (Jump l) = (to_all, tt)
said_broadcasts p (Wake x) =
    one_or_none (Every Broadcast) (ltb p.sent (woken p x)) (broadcast ECHO (woken p x)) (λ e. (to_all, tt)) tt

said_heads : (p : Node) (rule : Rule) → Every Known (said p rule)
unfolding said
said_heads p Rest = tt
said_heads p Echo = (inr (refl, inl refl), tt)
said_heads p Tick = (inl (refl, refl), tt)
said_heads p (Jump l) = (inr (refl, inl refl), tt)
said_heads p (Wake x) =
    one_or_none (Every Known) (ltb p.sent (woken p x)) (broadcast ECHO (woken p x)) (λ e. (inr (refl, inl refl), tt)) tt

-- ---- settling

module _ (w last : ℕ) (rows : List Row) where
  -- no rule sends echo 0: R1, R2 and R5 send an echo above the last one sent, R4 one above k, and R3 an init
  said_asks_none : (p : Node) (rule : Rule) → Told w last rows p rule → Every Silent (said p rule)
  unfolding said
  said_asks_none p Rest t = tt
  said_asks_none p Echo t = (λ a. omega arith, tt)
  said_asks_none p Tick t = (λ a. omega arith, tt)
  said_asks_none p (Jump l) t = (λ a. omega (arith, greatest_held w ECHO (p.faults + 1) (p.tick + 2) rows l t), tt)
  said_asks_none p (Wake x) t =
      one_or_none (Every Silent) (ltb p.sent (woken p x)) (broadcast ECHO (woken p x))
      (λ e. (λ a. omega (arith, ltb-true p.sent (woken p x) e), tt)) tt

  -- what holds of each record that a first rule says holds of each record of settling
  settled_every : (P : Outgoing → Type 0) → ((p : Node) → Every P (said p (first_rule w last rows p))) →
      (c : ℕ) (p : Node) → Every P (settle w last rows c p).records
  settled_every P says c p = settle_every w last rows (λ _. Unit {0}) (λ _ r. P r) (λ _ _. tt) (λ _ q _. says q) c p tt

  pub settled_broadcasts : (c : ℕ) (p : Node) → Every Broadcast (settle w last rows c p).records
  settled_broadcasts = settled_every Broadcast (λ p. said_broadcasts p _)

  settled_heads : (c : ℕ) (p : Node) → Every Known (settle w last rows c p).records
  settled_heads = settled_every Known (λ p. said_heads p _)

  settled_asks_none : (c : ℕ) (p : Node) → Every Silent (settle w last rows c p).records
  settled_asks_none = settled_every Silent (λ p. said_asks_none p _ (told w last rows p))

-- ---- how many answers

pub answers_append : (rs ts : List Outgoing) → answers_in (rs ++ ts) ≡ answers_in rs + answers_in ts
unfolding answers_in
answers_append [] ts = omega arith
answers_append (r ∷ rs) ts = omega (arith, answers_append rs ts)

-- broadcasts are none
broadcasts_answer_none : (rs : List Outgoing) → Every Broadcast rs → answers_in rs ≡ 0
unfolding answers_in
broadcasts_answer_none [] h = refl
broadcasts_answer_none (r ∷ rs) h = rw h.0.flag (omega (arith, broadcasts_answer_none rs h.1))

-- ---- a delivery: what is answered, and behind it what settling says

module _ (w last : ℕ) (s : State) (port : ℕ) (frame : Frame) where
  abbrev rows : List Row
  rows = credited w s port frame

  abbrev others : List Outgoing
  others = (settle w last rows most_firings s.node).records

  -- what holds of the answer, where there is one, and of each record of settling
  pub delivered_every :
      (P : Outgoing → Type 0)
      → (TheAnswer s.node port frame (answer_to port s.node.sent) → P (answer_to port s.node.sent))
      → Every P others
      → Every P (delivered w last s port frame).records
  unfolding delivered settled
  delivered_every P one =
      every_append P (answer s.node port frame) others (answered (Every P) s.node port frame (λ a. (one a, tt)) tt)

  -- each record is the answer or a broadcast
  pub delivered_either : Every (λ r. TheAnswer s.node port frame r ⊎ Broadcast r) (delivered w last s port frame).records
  delivered_either =
      delivered_every (λ r. TheAnswer s.node port frame r ⊎ Broadcast r) inl
      (every_map others (λ (r : Outgoing) (b : Broadcast r). inr b) (settled_broadcasts w last rows most_firings s.node))

  -- a record carries the flag exactly where it is the answer; a port is no 0
  pub delivered_flags :
      port ≢ 0
      → Every (λ r. (r.frame.flag ≡ ANSWER) ↔ TheAnswer s.node port frame r) (delivered w last s port frame).records
  delivered_flags some =
      delivered_every Says (λ a. (λ _. a, λ _. refl))
      (every_map {P = Broadcast} {Q = Says} others
      (λ r b. (λ e. absurd (omega (arith, b.flag)), λ a. absurd (some (sym a.dest ∙ b.dest))))
      (settled_broadcasts w last rows most_firings s.node))
    where
      Says : Outgoing → Type 0
      Says r = (r.frame.flag ≡ ANSWER) ↔ TheAnswer s.node port frame r

  -- no record asks: the answer has the flag
  pub delivered_asks_none : Every Silent (delivered w last s port frame).records
  delivered_asks_none = delivered_every Silent (λ _ a. omega arith) (settled_asks_none w last rows most_firings s.node)

  -- the frame reader knows each record's kind and flag
  pub delivered_heads : Every (λ r. KnownHead r.frame.kind r.frame.flag) (delivered w last s port frame).records
  delivered_heads = delivered_every Known (λ _. inr (refl, inr refl)) (settled_heads w last rows most_firings s.node)

  -- as many answers as another serial that asks: one or none
  pub delivered_answers : answers_in (delivered w last s port frame).records ≡ cond (asks frame && other_than s.node.own port) 1 0
  unfolding delivered settled answer answers_in
  delivered_answers =
      answers_append (answer s.node port frame) others
      ∙ omega (
        arith,
        counted (asks frame && other_than s.node.own port),
        broadcasts_answer_none others (settled_broadcasts w last rows most_firings s.node),
      )
    where
      counted : (t : Bool) → answers_in (cond t (answer_to port s.node.sent ∷ []) []) ≡ cond t 1 0
      counted true = refl
      counted false = refl
