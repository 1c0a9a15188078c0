-- Laws of the middle: no order of readings enters, it lies between two good differences, and a counter that is turned on changes nothing.
-- Assumes nothing.
use Rattle.std.proofs.Common.{◌≡◌, ℕ, ◌+◌, ◌-◌, ◌*◌, ◌<◌, ◌≤◌, Bool, true, false, not, List, [], ◌∷◌, map, length, ℤ, ◌+ℤ◌, sym, refl, ap, ◌∙◌, ap₂, arith}
use mathlib.Core.List.Permᴰ
use mathlib.Core.List.{Memᴰ, Permᴰ}
use Rattle.std.proofs.lemmas.Int.{ints}
use lib.ListN.{length-map}
use lib.Signed.{lt_z}
use borrow.Author.Tests.{not-true}
use Rattle.forms.specs.Column.{how_many}
use Rattle.forms.proofs.Columns.{passing_rest}
use Rattle.forms.proofs.Order.{length_order}
use Rattle.correction.specs.Counter.{turn, apart, signed, difference, differences}
use Rattle.correction.specs.Good.{positions, GoodAt, difference_at, Between, turned_by}
use Rattle.correction.specs.Middle.{least, ranked, lowest, highest, half_down, middle}
use Rattle.correction.proofs.Counters.{difference_range}
use Rattle.correction.proofs.Places.{good_one}
use Rattle.correction.proofs.Ranks.{ranked_order, ranked_mono, ranked_few, ranked_enough}
use Rattle.correction.proofs.Signs.{half_from, half_to}

-- ---- in another order

module _ (e : ℕ) {readings others : List ℕ} (p : Permᴰ readings others) where
  pub middle_order : (f : ℕ) → middle f (differences e readings) ≡ middle f (differences e others)
  unfolding middle
  middle_order f =
      let q = Permᴰ.map (λ (r : ℕ). difference r e) p in
      ap₂ (λ (low high : ℤ). half_down (low +ℤ high)) (ranked_order f q)
      (ranked_order (length (differences e readings) - 1 - f) q ∙ ap (λ (n : ℕ). ranked (n - 1 - f) (differences e others)) same)
    where
      same : length (differences e readings) ≡ length (differences e others)
      same = length-map readings (λ (r : ℕ). difference r e) ∙ length_order p ∙ sym (length-map others (λ (r : ℕ). difference r e))

-- ---- a turned counter

module _ (more expected : ℕ) (fits : expected < turn) where
  difference_turned : (reading : ℕ) → difference (turned_by more reading) (turned_by more expected) ≡ difference reading expected
  unfolding difference
  difference_turned reading = ap signed same
    where
      same : apart (turned_by more reading) (turned_by more expected) ≡ apart reading expected
      same = omega arith

  pub differences_turned : (readings : List ℕ) →
      differences (turned_by more expected) (map (turned_by more) readings) ≡ differences expected readings
  differences_turned [] = refl
  differences_turned (r ∷ rs) = ap₂ (λ (d : ℤ) (ds : List ℤ). d ∷ ds) (difference_turned r) (differences_turned rs)

-- ---- between good ones

-- no difference is less than the least that there is
pub inside : (e : ℕ) (readings : List ℕ) (d : ℤ) → Memᴰ d (differences e readings) → lt_z d least ≡ false
inside e [] d m = elim m [ ]
inside e (r ∷ rs) d (Memᴰ.head h) = sym (omega (arith, ints, h, difference_range r e))
inside e (r ∷ rs) d (Memᴰ.tail m) = inside e rs d m

module _ (f e : ℕ) (readings : List ℕ) (enough : 2 * f + 1 ≤ length readings) where
  abbrev ds : List ℤ
  ds = differences e readings

  abbrev low : ℤ
  low = lowest f ds

  abbrev high : ℤ
  high = highest f ds

  size : length ds ≡ length readings
  size = length-map readings (λ (r : ℕ). difference r e)

  low_high : lt_z high low ≡ false
  low_high = ranked_mono f (length ds - 1 - f) ds (omega (arith, size))

  middle_from : lt_z (middle f ds) low ≡ false
  unfolding middle
  middle_from = half_from low high low_high

  middle_to : lt_z high (middle f ds) ≡ false
  unfolding middle
  middle_to = half_to low high low_high

  module _ (bad : ℕ → Bool) (few : how_many bad (positions (length readings)) ≤ f) where
    -- more than f are not above the lowest that is left, and more than f are not below the highest
    good_low : (i : ℕ) × GoodAt bad readings i × (not (lt_z low (difference_at e readings i)) ≡ true)
    good_low =
        good_one (λ d. not (lt_z low d)) bad e readings
        (omega (arith, few, ranked_enough f ds (inside e readings) (omega (arith, size))))

    good_high : (i : ℕ) × GoodAt bad readings i × (not (lt_z (difference_at e readings i) high) ≡ true)
    good_high =
        good_one (λ d. not (lt_z d high)) bad e readings
        (omega (
          arith,
          few,
          size,
          ranked_few (length ds - 1 - f) ds (inside e readings),
          passing_rest (λ (d : ℤ). lt_z d high) ds,
        ))

    pub middle_between : Between bad e readings (middle f ds)
    middle_between =
        let a = difference_at e readings good_low.0 in
        let b = difference_at e readings good_high.0 in
        record {
          low = good_low.0;
          low_good = good_low.1;
          from_low = omega (arith, ints, not-true (lt_z low a) good_low.2, middle_from);
          high = good_high.0;
          high_good = good_high.1;
          to_high = omega (arith, ints, not-true (lt_z b high) good_high.2, middle_to);
        }

-- a number between good ones that are all the same is theirs
pub agreed : (bad : ℕ → Bool) (e : ℕ) (readings : List ℕ) (z d : ℤ) →
    Between bad e readings z → ((i : ℕ) → GoodAt bad readings i → difference_at e readings i ≡ d) → z ≡ d
agreed bad e readings z d b same =
    omega (arith, ints, same b.low b.low_good, b.from_low, same b.high b.high_good, b.to_high)
