-- WHERE A READER STARTS for corrections: what request A13 promises of the call. What the words mean is in specs/: the counter and its
-- differences in Counter, ranks and the middle in Middle, the call in Correct, its rows of the table of numbers in Table, and what is said
-- of good and bad readings in Good. That the code gives just these answers, for every input, is the contract of each function (src/).
-- Assumes nothing.
use Rattle.std.proofs.Common.{◌≡◌, ℕ, ◌-◌, ◌<◌, ◌≤◌, Bool, List, [], ◌∷◌, map, ℤ, pos, negsuc, ◌+ℤ◌, neg_ℤ, ◌≤ℤ◌, sym, refl, ap, ◌∙◌, subst}
use mathlib.Core.List.{Permᴰ}
use lib.ListN.{length-map}
use lib.IntN.{neg_ℤ-neg_ℤ}
use Rattle.forms.specs.Column.{how_many}
use Rattle.forms.specs.Table.{Says}
use Rattle.forms.proofs.Order.{length_order}
use Rattle.correction.specs.Answers.{corrected_by}
use Rattle.correction.specs.Correct.{Corrected, corrected}
use Rattle.correction.specs.Counter.{turn, half, difference, differences}
use Rattle.correction.specs.Good.{positions, GoodAt, difference_at, Between, Ascending, turned_by}
use Rattle.correction.specs.Middle.{greatest_of, half_down, middle}
use Rattle.correction.specs.Table.{correct_checks}
use Rattle.correction.specs.declared.calls.Correction.{Correction}
use Rattle.correction.proofs.InOrder.{middle_placed}
use Rattle.correction.proofs.Meaning.{correct_says}
use Rattle.correction.proofs.Middles.{middle_order, middle_between, agreed, differences_turned}
use Rattle.correction.proofs.Told.{corrected_range, corrected_refused, corrected_middle, corrected_count, corrected_enough}

module _ (n f : ℕ) (readings : List ℕ) (expected : ℕ) where
  abbrev corrects : Corrected
  corrects = corrected n f readings expected

  -- Each number is given exactly when its row of the table applies and no row before it does
  pub correct_numbers : Says corrects.number (correct_checks n f readings)
  correct_numbers = correct_says n f readings expected

  -- A refusal has correction 0
  pub correct_refusal : (corrects.number ≡ 0 → ⊥) → corrects ≡ record { number = corrects.number; correction = pos 0 }
  correct_refusal = corrected_refused n f readings expected

  -- The correction lies in -2,147,483,647 .. 2,147,483,648
  pub correction_in_range : (negsuc 2147483646 ≤ℤ corrects.correction) × (corrects.correction ≤ℤ pos 2147483648)
  correction_in_range = corrected_range n f readings expected

  -- Any reordering of the readings gives the same answer, be it a refusal or not
  pub order_decides_nothing :
      (others : List ℕ)
      → Permᴰ readings others
      → corrected n f others expected ≡ corrects
  unfolding corrected
  order_decides_nothing others p = cc (length_order p, middle_order expected p f)

  -- Turning all readings and the expected one by the same amount changes nothing
  pub turning_changes_nothing :
      (more : ℕ)
      → expected < turn
      → corrected n f (map (turned_by more) readings) (turned_by more expected) ≡ corrects
  unfolding corrected
  turning_changes_nothing more fits =
      cc (length-map readings (turned_by more), ap (middle f) (differences_turned more expected fits readings))

  -- The f least and the f greatest are dropped: in ascending order the lowest and the highest of the rest stand at places f and n - 1 - f
  pub drops_f_on_each_side :
      corrects.number ≡ 0
      → Ascending (differences expected readings)
      → corrects.correction ≡ neg_ℤ (half_down (difference_at expected readings f +ℤ difference_at expected readings (n - 1 - f)))
  drops_f_on_each_side taken ascending =
      corrected_middle n f readings expected taken
      ∙ ap neg_ℤ (middle_placed f expected readings (corrected_enough n f readings expected taken) ascending)
      ∙ ap (λ (m : ℕ). neg_ℤ (half_down (difference_at expected readings f +ℤ difference_at expected readings (m - 1 - f))))
      (corrected_count n f readings expected taken)

  -- With at most f bad positions, whichever they are, the middle lies between two good differences
  module _ (bad : ℕ → Bool) where
    pub middle_between_good :
        corrects.number ≡ 0
        → how_many bad (positions n) ≤ f
        → Between bad expected readings (neg_ℤ corrects.correction)
    middle_between_good taken few =
        subst (Between bad expected readings)
        (sym (ap neg_ℤ (corrected_middle n f readings expected taken) ∙ neg_ℤ-neg_ℤ (middle f (differences expected readings))))
        (middle_between f expected readings (corrected_enough n f readings expected taken) bad
        (subst (λ (m : ℕ). how_many bad (positions m) ≤ f) (sym (corrected_count n f readings expected taken)) few))

    -- so where all good ones agree, it is theirs
    pub good_ones_decide :
        (d : ℤ)
        → corrects.number ≡ 0
        → how_many bad (positions n) ≤ f
        → ((i : ℕ) → GoodAt bad readings i → difference_at expected readings i ≡ d)
        → corrects.correction ≡ neg_ℤ d
    good_ones_decide d taken few same =
        sym (neg_ℤ-neg_ℤ corrects.correction)
        ∙ ap neg_ℤ (agreed bad expected readings (neg_ℤ corrects.correction) d (middle_between_good taken few) same)

-- Both ends of the range are attained: by a reading half a turn below what was expected, and by one that is one less than that above it
pub upper_end : corrected 1 0 (half ∷ []) 0 ≡ record { number = 0; correction = pos 2147483648 }
unfolding corrected middle greatest_of how_many difference
upper_end = refl

pub lower_end : corrected 1 0 ((half - 1) ∷ []) 0 ≡ record { number = 0; correction = negsuc 2147483646 }
unfolding corrected middle greatest_of how_many difference
lower_end = refl

-- The contract allows one answer: two that meet it coincide
pub one_correction :
    (wanted : Corrected) (a b : Correction)
    → corrected_by a ≡ wanted
    → corrected_by b ≡ wanted
    → a ≡ b
one_correction wanted a b p q = let e = p ∙ sym q in λ d. record { number = (e d).number; correction = (e d).correction }
