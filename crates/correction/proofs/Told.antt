-- Laws of the call: what number 0 says of n, f and the readings, and the answer in either case.
-- Assumes nothing.
use Rattle.std.proofs.Common.{◌≡◌, ℕ, ◌+◌, ◌-◌, ◌*◌, ◌≤◌, Bool, true, false, cond, not, eqb, List, length, pos, negsuc, neg_ℤ, ◌≤ℤ◌, sym, refl, ap, ◌∙◌, arith, eq-eqb, ne_eqb, eqb-true}
use native.Mathlib.Decide.{ℕ_discrete}
use lib.ListN.{length-map}
use lib.Signed.{le_z_yes}
use borrow.Author.Tests.{eqb-false}
use Rattle.forms.specs.Number.{number_of as roster_number_of}
use Rattle.forms.specs.Roster.{limits_then}
use Rattle.forms.proofs.Rosters.{limits_full, limits_taken}
use Rattle.forms.proofs.Told.{refusal as roster_refusal}
use Rattle.correction.specs.Counter.{half, difference, differences}
use Rattle.correction.specs.Correct.{Corrected, correct_number, corrected}
use Rattle.correction.specs.Middle.{middle}
use Rattle.correction.specs.Number.{number_of}
use Rattle.correction.specs.declared.refusal.Refusal.{Refusal}
use Rattle.correction.specs.declared.refusal.Refusal.TheVariants.{Roster, Readings}
use Rattle.correction.proofs.Ranges.{middle_range, opposite_range}

-- no refusal has number 0
pub refusal : (why : Refusal) → number_of why ≡ 0 → ⊥
refusal (Roster why) z = eqb-false (roster_number_of why) 0 (roster_refusal why) z
refusal Readings z = absurd (omega arith)

-- ---- the number

module _ (n f count : ℕ) where
  pub count_wrong : (count ≡ n → ⊥) → correct_number n f count ≡ limits_then n f 29
  count_wrong w = rw (ne_eqb count n w)

  pub count_right : count ≡ n → correct_number n f count ≡ limits_then n f 0
  count_right e = rw (eq-eqb count n e)

  module _ (taken : correct_number n f count ≡ 0) where
    -- there are n readings
    pub taken_count : count ≡ n
    taken_count = go (eqb count n) refl (limits_taken n f (cond (not (eqb count n)) 29 0) taken)
      where
        go : (t : Bool) → eqb count n ≡ t → ◌≡◌ {A = ℕ} (cond (not t) 29 0) 0 → count ≡ n
        go true e z = eqb-true count n e
        go false e z = absurd (omega arith)

    -- more than thrice as many as are bad
    pub taken_limits : 3 * f + 1 ≤ n
    taken_limits = (limits_full n f (cond (not (eqb count n)) 29 0) taken).0.2

-- ---- the answer

module _ (n f : ℕ) (readings : List ℕ) (expected : ℕ) where
  abbrev number : ℕ
  number = correct_number n f (length readings)

  abbrev answer : Corrected
  answer = corrected n f readings expected

  -- the rank of the highest that is left
  pub highest_rank : number ≡ 0 → n - 1 - f ≡ length (differences expected readings) - 1 - f
  highest_rank z = omega (arith, taken_count n f (length readings) z, length-map readings (λ (r : ℕ). difference r expected))

  pub corrected_taken : number ≡ 0 → answer ≡ record { number = 0; correction = neg_ℤ (middle f (differences expected readings)) }
  unfolding corrected
  corrected_taken z = rw z

  pub corrected_zero : (number ≡ 0 → ⊥) → answer ≡ record { number = number; correction = pos 0 }
  unfolding corrected
  corrected_zero r = rw (ne_eqb number 0 r)

  -- the same of the number that the answer has
  told : answer.number ≡ number
  unfolding corrected
  told = refl

  pub corrected_refused : (answer.number ≡ 0 → ⊥) → answer ≡ record { number = answer.number; correction = pos 0 }
  corrected_refused r = corrected_zero (λ z. r (told ∙ z)) ∙ ap (λ (k : ℕ). record { number = k; correction = pos 0 }) (sym told)

  module _ (taken : answer.number ≡ 0) where
    pub corrected_middle : answer.correction ≡ neg_ℤ (middle f (differences expected readings))
    corrected_middle = ap (λ (a : Corrected). a.correction) (corrected_taken (sym told ∙ taken))

    pub corrected_count : length readings ≡ n
    corrected_count = taken_count n f (length readings) (sym told ∙ taken)

    pub corrected_enough : 2 * f + 1 ≤ length readings
    corrected_enough = omega (arith, corrected_count, taken_limits n f (length readings) (sym told ∙ taken))

  pub corrected_range : (negsuc 2147483646 ≤ℤ answer.correction) × (answer.correction ≤ℤ pos half)
  corrected_range =
      elim (ℕ_discrete answer.number 0) [
        | yes z ↦ rw (corrected_middle z) (opposite_range (middle f (differences expected readings)) (middle_range f expected readings))
        | no r ↦ rw (ap (λ (a : Corrected). a.correction) (corrected_refused r)) (le_z_yes tt, le_z_yes tt)
      ]
