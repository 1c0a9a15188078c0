-- Who answers whom (02, A2), as plain propositions and counts. Theorems speak of these.
use Rattle.std.specs.Prelude.{◌≡◌, ◌≢◌, Bool, true, cond, ◌&&◌, List, [], ◌∷◌, ℕ, ◌+◌, eqb}
use Rattle.fields.specs.Kind.{ECHO}
use Rattle.forms.specs.Frame.{BROADCAST, ANSWER}
use Rattle.forms.specs.declared.frame.Frame.{Frame}
use Rattle.rules.specs.Delivery.{asks}
use Rattle.rules.specs.Record.{Outgoing}
use Rattle.rules.specs.declared.node.Node.{Node}

-- ---- frames and records

-- a frame that asks for an answer: (echo, 0) without the flag. `asks` decides this (proofs/Answering.antt)
pub record Asks (frame : Frame) : Type 0 where
  pub kind : frame.kind ≡ ECHO
  pub tick : frame.tick ≡ 0
  pub flag : frame.flag ≡ BROADCAST

-- a record whose frame does not ask
abbrev pub Silent : Outgoing → Type 0
Silent r = Asks r.frame → ⊥

-- a record to all, without the flag
pub record Broadcast (r : Outgoing) : Type 0 where
  pub dest : r.dest ≡ 0
  pub flag : r.frame.flag ≡ BROADCAST

-- a record is node p's answer to a frame from a port: another serial asked, and to it alone goes the last echo sent before. That it
-- carries the flag is no part of this, and a theorem
pub record TheAnswer (p : Node) (port : ℕ) (frame : Frame) (r : Outgoing) : Type 0 where
  pub asked : Asks frame
  pub other : port ≢ p.own
  pub dest : r.dest ≡ port
  pub kind : r.frame.kind ≡ ECHO
  pub tick : r.frame.tick ≡ p.sent

-- ---- how many

-- a frame that was taken, with the port that it came from
pub record Arrival : Type 0 where
  pub port : ℕ
  pub frame : Frame

-- how many of these records carry the flag
unfoldable pub answers_in : List Outgoing → ℕ
answers_in [] = 0
answers_in (r ∷ rs) = cond (eqb r.frame.flag ANSWER) 1 0 + answers_in rs

-- how many of these frames ask, of those that came from certain ports
unfoldable pub asks_in : (ℕ → Bool) → List Arrival → ℕ
asks_in from [] = 0
asks_in from (a ∷ rest) = cond (asks a.frame && from a.port) 1 0 + asks_in from rest

abbrev pub anyone : ℕ → Bool
anyone port = true
