-- Laws of a counter's readings: how far two lie apart is read as a signed word, and the range of their difference.
-- Assumes nothing.
use Rattle.std.proofs.Common.{◌≡◌, ℕ, ◌+◌, ◌-◌, ◌%◌, ◌<◌, Bool, true, false, ltb, ℤ, refl, ap, ◌∙◌, subst, arith, w32, to_z, lt-ltb}
use lib.Signed.{mag}
use mir.ValLaws.{to_z-Fits}
use Rattle.correction.specs.Counter.{turn, half, apart, signed, difference}

-- less than half a turn is read as it is, and more as what is left of the turn, backwards: as a signed word is
signed_word : (way : ℕ) → way < turn → to_z w32 way ≡ signed way
signed_word way q = go (ltb way half) refl
  where
    go : (t : Bool) → ltb way half ≡ t → to_z w32 way ≡ signed way
    go true e = rw e refl
    go false e = rw (e, lt-ltb way turn q) refl

-- what a subtraction round the wrap gives, as a signed word
pub difference_word : (reading expected : ℕ) → expected < turn → to_z w32 ((reading + (turn - expected)) % turn) ≡ difference reading expected
unfolding difference
difference_word reading expected q =
    ap (to_z w32) (omega arith) ∙ signed_word (apart reading expected) (omega arith)

pub difference_range : (reading expected : ℕ) → mag (difference reading expected) < half
unfolding difference
difference_range reading expected =
    subst (λ (z : ℤ). mag z < half) (signed_word (apart reading expected) (omega arith))
    (to_z-Fits w32 (apart reading expected) (record { fits = omega arith })).sfits
