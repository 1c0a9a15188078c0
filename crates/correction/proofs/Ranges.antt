-- The range of differences: whatever is kept, the greatest of some is one of them or the least that there is.
-- Assumes nothing.
use Rattle.std.proofs.Common.{ℕ, ◌-◌, ◌<◌, Bool, true, false, cond, ◌&&◌, leb, List, [], ◌∷◌, length, ℤ, pos, negsuc, ◌+ℤ◌, neg_ℤ, ◌≤ℤ◌, arith}
use Rattle.std.proofs.lemmas.Int.{ints}
use lib.Signed.{mag, lt_z}
use Rattle.correction.specs.Counter.{half, difference, differences}
use Rattle.correction.specs.Middle.{below, greatest_of, ranked, lowest, highest, middle}
use Rattle.correction.proofs.Counters.{difference_range}
use Rattle.correction.proofs.Halves.{mag_sum, mag_half}

greatest_range : (kept : ℤ → Bool) (e : ℕ) (readings : List ℕ) → mag (greatest_of kept (differences e readings)) < half
unfolding greatest_of
greatest_range kept e [] = omega arith
greatest_range kept e (r ∷ rs) =
    go (lt_z (greatest_of kept (differences e rs)) (difference r e) && kept (difference r e)) (greatest_range kept e rs)
  where
    go : (t : Bool) → mag (greatest_of kept (differences e rs)) < half →
        mag (cond t (difference r e) (greatest_of kept (differences e rs))) < half
    go true behind = difference_range r e
    go false behind = behind

pub ranked_range : (k e : ℕ) (readings : List ℕ) → mag (ranked k (differences e readings)) < half
ranked_range k e readings = greatest_range (λ d. leb (below d (differences e readings)) k) e readings

-- and the middle lies within it
pub middle_range : (f e : ℕ) (readings : List ℕ) → mag (middle f (differences e readings)) < half
unfolding middle
middle_range f e readings =
    let low = lowest f (differences e readings) in
    let high = highest f (differences e readings) in
    mag_half (low +ℤ high) half
    (mag_sum low high half (ranked_range f e readings) (ranked_range (length (differences e readings) - 1 - f) e readings))

-- the negative of such a number: one more above 0 than below it
pub opposite_range : (m : ℤ) → mag m < half → (negsuc 2147483646 ≤ℤ neg_ℤ m) × (neg_ℤ m ≤ℤ pos half)
opposite_range m p = (omega (arith, ints), omega (arith, ints))
