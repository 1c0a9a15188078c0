-- What a sender's set becomes over a history of accepted frames (01, "Evidence"). proofs/Histories.antt has the theorem.
use Rattle.std.specs.Prelude.{ℕ, ◌≡◌, cond, eqb}
use mathlib.Core.List.{List, [], ◌∷◌, Memᴰ}
use Rattle.sets.specs.Ticks.{Held, add, added}

-- a frame that was accepted from the sender
pub record Sent : Type 0 where
  pub kind : ℕ
  pub tick : ℕ

-- the set of a kind after one frame: a frame of another kind leaves it as it was
unfoldable pub hear : ℕ → ℕ → Held → Sent → Held
hear w kind s frame = cond (eqb frame.kind kind) (add w kind s frame.tick) s

-- the set of a kind after a history, the oldest frame first
unfoldable pub heard : ℕ → ℕ → Held → List Sent → Held
heard w kind s [] = s
heard w kind s (frame ∷ frames) = heard w kind (hear w kind s frame) frames

-- some frame of the history added tick t to the set of a kind
pub record Brought (kind : ℕ) (frames : List Sent) (t : ℕ) : Type 0 where
  pub frame : Sent
  pub among : Memᴰ frame frames
  pub alike : frame.kind ≡ kind
  pub adds : Memᴰ t (added kind frame.tick)
