-- What the full fault number buys (02, A7). It is the greatest f that n allows, and the greatest for which n - f is more than half of
-- n + f, so that two groups of n - f controllers share one that is not faulty. Of the fault numbers that could stand in a form it alone is
-- taken: with a greater one the form is refused with 2, with a smaller one with 21.
-- Assumes nothing.
use mathlib.Core.Path.{◌≡◌, sym, ◌∙◌}
use mathlib.Core.Bool.{Bool}
use mathlib.Core.List.{List}
use Prim.Native.Nat.{ℕ, ◌+◌, ◌-◌, ◌*◌, ◌≤◌, ◌<◌}
use native.Mathlib.Omega.{arith}
use lib.ListN.{get_or}
use Rattle.fields.proofs.Fields.{field_byte, field_put, field_put_other, get_d_put_other, length_put}
use Rattle.fields.proofs.Words.{length_words, words_same}
use Rattle.forms.specs.Column.{how_many}
use Rattle.forms.specs.Form.{serials_place, lines_of, faults_of, own_of, serials_of, restated, form_number}
use Rattle.forms.specs.Groups.{Shared}
use Rattle.forms.specs.Roster.{full_faults, roster_number}
use Rattle.forms.proofs.Groups.{share}
use Rattle.forms.proofs.Rosters.{roster_limits, roster_full, roster_two, roster_understated}
use Rattle.forms.proofs.Told.{taken_parts, form_length, form_roster}

-- ---- the number itself

-- n allows it, and no greater one
pub full_allowed : (n : ℕ) → 1 ≤ n → (3 * full_faults n + 1 ≤ n) × (n < 3 * (full_faults n + 1) + 1)
full_allowed n p = omega arith

-- ---- a roster that is taken

module _ (f own : ℕ) (serials : List ℕ) (taken : roster_number f own serials ≡ 0) where
  -- no greater fault number could stand in it
  greater_beyond : (g : ℕ) → f < g → roster_number g own serials ≡ 2
  greater_beyond g p = roster_two g own serials (λ l. omega (arith, roster_full f own serials taken, l))

  -- and no smaller one
  smaller_understated : (g : ℕ) → g < f → roster_number g own serials ≡ 21
  smaller_understated g p =
      let l = roster_limits f own serials taken in
      roster_understated g own serials (omega (arith, l)) (omega (arith, roster_full f own serials taken))

-- ---- a form that is taken

module _ (b : List ℕ) (taken : form_number b ≡ 0) where
  pub form_full : faults_of b ≡ full_faults (lines_of b)
  form_full =
      rw (length_words (lines_of b) 4 b serials_place) at (roster_full (faults_of b) (own_of b) (serials_of b) (form_roster b taken))

  -- n - f is more than half of n + f
  pub form_majority : lines_of b + faults_of b < 2 * (lines_of b - faults_of b)
  form_majority =
      let limits = roster_limits (faults_of b) (own_of b) (serials_of b) (form_roster b taken) in
      omega (arith, limits, length_words (lines_of b) 4 b serials_place)

  -- and no greater number in the place of f would have that
  pub form_no_more : (g : ℕ) → faults_of b < g → 2 * (lines_of b - g) ≤ lines_of b + g
  form_no_more g p = omega (arith, form_full)

  -- so two groups of n - f share one that is not faulty, whichever f are
  pub form_shared : (one other faulty : ℕ → Bool) →
      lines_of b - faults_of b ≤ how_many one (serials_of b) →
      lines_of b - faults_of b ≤ how_many other (serials_of b) →
      how_many faulty (serials_of b) ≤ faults_of b →
      Shared one other faulty (serials_of b)
  form_shared one other faulty p q r =
      share one other faulty (serials_of b) (omega (arith, form_majority, length_words (lines_of b) 4 b serials_place))

  -- with another fault number in the place of its own
  module _ (g : ℕ) (fits : g < 256) where
    -- the other fields stay
    byte_stays : (i : ℕ) → (i ≡ 1 → ⊥) → get_or (restated b g) i 0 ≡ get_or b i 0
    byte_stays i n = get_d_put_other 1 b 1 g i (λ l q. omega arith)

    serials_stay : serials_of (restated b g) ≡ serials_of b
    serials_stay =
        rw (byte_stays 0 (omega arith))
        (words_same (lines_of b) 4 (restated b g) b serials_place serials_place (omega arith)
        (λ k p. byte_stays (serials_place + k) (omega arith)))

    faults_stand : faults_of (restated b g) ≡ g
    faults_stand = sym (field_byte (restated b g) 1) ∙ field_put 1 b 1 g (omega (arith, form_length b taken)) fits

    -- so the roster alone judges it, with g for f
    restated_number : form_number (restated b g) ≡ roster_number g (own_of b) (serials_of b)
    unfolding form_number
    restated_number =
        cc (
          (taken_parts b taken).0,
          length_put 1 b 1 g,
          byte_stays 0 (omega arith),
          field_put_other 2 1 b 1 g 2 (λ k l p q. omega arith),
          field_put_other 4 1 b 1 g 4 (λ k l p q. omega arith),
          faults_stand,
          serials_stay,
        )

    pub form_greater : faults_of b < g → form_number (restated b g) ≡ 2
    form_greater p = restated_number ∙ greater_beyond (faults_of b) (own_of b) (serials_of b) (form_roster b taken) g p

    pub form_smaller : g < faults_of b → form_number (restated b g) ≡ 21
    form_smaller p = restated_number ∙ smaller_understated (faults_of b) (own_of b) (serials_of b) (form_roster b taken) g p
