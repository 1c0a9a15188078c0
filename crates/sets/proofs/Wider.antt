-- A set that is proper in a window is proper in every wider one, and holds the same ticks there: its mask has no bit outside the
-- narrower window. So no set has to change when the window grows (02, A8). And where a mask has no room for such a bit, the test of the
-- wider window is that of the narrower one.
-- Assumes nothing.
use mathlib.Core.Path.{◌≡◌, sym, ap, ◌∙◌}
use mathlib.Core.Bool.{Bool, cond, ◌&&◌}
use Prim.Native.Nat.{ℕ, ◌+◌, ◌%◌, ◌^◌, ◌≤◌, ◌<◌, min}
use native.Mathlib.Nat.{lt_of_lt_of_le}
use native.Mathlib.Decide.{dec_le}
use native.Mathlib.Omega.{arith}
use borrow.Author.Tests.{lt-ltb}
use lib.Dec.{ltb, eqb}
use lib.Pow.{pow_mono}
use Rattle.sets.specs.Ticks.{Held, holds, proper}
use Rattle.sets.proofs.Masks.{bit_out}
use Rattle.sets.proofs.Members.{Proper, Place, above, below, inside, place, holds_at, holds_above, holds_below}

module _ (v w : ℕ) (wider : v ≤ w) (s : Held) (good : Proper v s) where
  pub proper_wider : Proper w s
  proper_wider = record { narrow = lt_of_lt_of_le good.narrow (pow_mono wider); low = good.low; shape = good.shape }

  pub holds_wider : (t : ℕ) → holds w s t ≡ holds v s t
  holds_wider t = go (place v s t) (place w s t)
    where
      -- a tick that only the wider window reaches has a bit that is not set
      go : Place v s t → Place w s t → holds w s t ≡ holds v s t
      go (above p) r = holds_above w s t p ∙ sym (holds_above v s t p)
      go (inside i e p) r = holds_at w s t i e (omega arith) ∙ sym (holds_at v s t i e p)
      go (below p) (above q) = absurd (omega arith)
      go (below p) (below q) = holds_below w s t q ∙ sym (holds_below v s t p)
      go (below p) (inside i e q) =
          holds_at w s t i e q ∙ bit_out s.mask v i good.narrow (omega arith) ∙ sym (holds_below v s t p)

pub proper_same : (v w : ℕ) → v ≤ w → (s : Held) → s.mask < 2 ^ v → proper v s ≡ proper w s
unfolding proper
proper_same v w wider s p = ap (λ (t : Bool). t && cond (eqb s.mask 0) (eqb s.top 0) (eqb (s.mask % 2) 1)) small
  where
    small : ltb s.mask (2 ^ min v (s.top + 1)) ≡ ltb s.mask (2 ^ min w (s.top + 1))
    small =
        elim (dec_le (s.top + 1) v) [
          | yes q ↦
              let e : min v (s.top + 1) ≡ min w (s.top + 1) = omega arith in
              ap (λ (k : ℕ). ltb s.mask (2 ^ k)) e
          | no q ↦
              let e : min v (s.top + 1) ≡ v = omega arith in
              let l : v ≤ min w (s.top + 1) = omega arith in
              ap (λ (k : ℕ). ltb s.mask (2 ^ k)) e ∙ lt-ltb s.mask (2 ^ v) p
              ∙ sym (lt-ltb s.mask (2 ^ min w (s.top + 1)) (lt_of_lt_of_le p (pow_mono l)))
        ]
