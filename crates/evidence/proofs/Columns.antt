-- Laws of the loops over rows, one row at a time: holders counted, proper rows, the place of a serial.
-- Assumes nothing.
use mathlib.Core.Path.{◌≡◌, refl, ap, ap₂, ◌∙◌}
use mathlib.Core.Bool.{true, false, cond, ◌&&◌, and-false}
use mathlib.Core.List.{List, [], ◌∷◌}
use Prim.Native.Nat.{ℕ, zero, suc, ◌+◌, ◌-◌, ◌≤◌, ◌<◌}
use native.Mathlib.Omega.{arith}
use borrow.Author.Tests.{eq-eqb, ne_eqb}
use lib.Dec.{eqb}
use lib.ListN.{length}
use Rattle.fields.specs.Field.{field, Bytes}
use Rattle.fields.proofs.Fields.{field_lt}
use Rattle.sets.specs.Sets.{tick_count}
use Rattle.sets.specs.Ticks.{Held, holds}
use Rattle.sets.proofs.Members.{holds_above, holds_le}
use Rattle.evidence.specs.Holders.{holders, one_on, place_of}
use Rattle.evidence.specs.Rows.{Row, row_size, echo_place, init_place, set_of, place_of_set, set_at, row_at, rows_at, proper_set, proper_rows}
use Rattle.evidence.proofs.Layouts.{rows_down, length_rows, set_of_row}

-- ---- the first row, and those behind it

module _ (mb n : ℕ) (b : List ℕ) (i : ℕ) where
  pub holders_down :
      (w kind t : ℕ) → 0 < n →
      holders w kind t (rows_at mb n b i)
      ≡ holds w (set_at mb b (i + place_of_set mb kind)) t + holders w kind t (rows_at mb (n - 1) b (i + row_size mb))
  unfolding holders
  holders_down w kind t p =
      ap (holders w kind t) (rows_down mb n b i p)
      ∙ ap (λ (s : Held). holds w s t + holders w kind t (rows_at mb (n - 1) b (i + row_size mb))) (set_of_row mb kind b i)

  module _ (w last : ℕ) (some : 0 < n) where
    proper_down :
        proper_rows w last (rows_at mb n b i)
        ≡ (proper_set w last (set_at mb b (i + echo_place))
        && (proper_set w last (set_at mb b (i + init_place mb)) && proper_rows w last (rows_at mb (n - 1) b (i + row_size mb))))
    unfolding proper_rows row_at
    proper_down = ap (proper_rows w last) (rows_down mb n b i some)

    -- the echo set is not proper, or the init set is not, or both are
    pub proper_not_echo : proper_set w last (set_at mb b (i + echo_place)) ≡ false → proper_rows w last (rows_at mb n b i) ≡ false
    proper_not_echo e = proper_down ∙ rw e

    pub proper_not_init : proper_set w last (set_at mb b (i + init_place mb)) ≡ false → proper_rows w last (rows_at mb n b i) ≡ false
    proper_not_init e = proper_down ∙ rw e (and-false (proper_set w last (set_at mb b (i + echo_place))))

    pub proper_both :
        proper_set w last (set_at mb b (i + echo_place)) ≡ true → proper_set w last (set_at mb b (i + init_place mb)) ≡ true →
        proper_rows w last (rows_at mb n b i) ≡ proper_rows w last (rows_at mb (n - 1) b (i + row_size mb))
    proper_both e f = proper_down ∙ rw (e, f)

  module _ (serial : ℕ) (some : 0 < n) where
    place_down :
        place_of serial (rows_at mb n b i)
        ≡ cond (eqb (field 4 b i) serial) 1 (one_on (place_of serial (rows_at mb (n - 1) b (i + row_size mb))))
    unfolding place_of row_at
    place_down = ap (place_of serial) (rows_down mb n b i some)

    -- the serial is that of the first row, or it is not
    pub place_first : field 4 b i ≡ serial → place_of serial (rows_at mb n b i) ≡ 1
    place_first e = place_down ∙ rw (eq-eqb (field 4 b i) serial e)

    pub place_later :
        (field 4 b i ≡ serial → ⊥) →
        place_of serial (rows_at mb n b i) ≡ one_on (place_of serial (rows_at mb (n - 1) b (i + row_size mb)))
    place_later ne = place_down ∙ rw (ne_eqb (field 4 b i) serial ne)

-- ---- no rows are left

none_left : (mb n : ℕ) (b : List ℕ) (i : ℕ) → n ≡ 0 → rows_at mb n b i ≡ []
unfolding rows_at
none_left mb zero b i e = refl
none_left mb (suc n) b i e = absurd (omega arith)

-- a row counts once
pub holders_few : (w kind t : ℕ) (rows : List Row) → holders w kind t rows ≤ length rows
unfolding holders
holders_few w kind t [] = omega arith
holders_few w kind t (row ∷ rows) = omega (arith, holds_le w (set_of kind row) t, holders_few w kind t rows)

pub holders_most : (w kind t mb n : ℕ) (b : List ℕ) (i : ℕ) → holders w kind t (rows_at mb n b i) ≤ n
holders_most w kind t mb n b i = omega (arith, holders_few w kind t (rows_at mb n b i), length_rows mb n b i)

pub holders_end : (w kind t mb n : ℕ) (b : List ℕ) (i : ℕ) → n ≡ 0 → holders w kind t (rows_at mb n b i) ≡ 0
unfolding holders
holders_end w kind t mb n b i e = ap (holders w kind t) (none_left mb n b i e)

pub proper_end : (w last mb n : ℕ) (b : List ℕ) (i : ℕ) → n ≡ 0 → proper_rows w last (rows_at mb n b i) ≡ true
unfolding proper_rows
proper_end w last mb n b i e = ap (proper_rows w last) (none_left mb n b i e)

pub place_end : (serial mb n : ℕ) (b : List ℕ) (i : ℕ) → n ≡ 0 → place_of serial (rows_at mb n b i) ≡ 0
unfolding place_of
place_end serial mb n b i e = ap (place_of serial) (none_left mb n b i e)

-- ---- no row holds a tick that no top can tell

top_lt : (mb : ℕ) (b : List ℕ) (p : ℕ) → Bytes b → (set_at mb b p).top < tick_count
unfolding set_at
top_lt mb b p h = field_lt 4 b p h

pub holders_far :
    (w kind t mb n : ℕ) (b : List ℕ) (i : ℕ) → Bytes b → tick_count ≤ t → holders w kind t (rows_at mb n b i) ≡ 0
holders_far w kind t mb zero b i h p = holders_end w kind t mb 0 b i refl
holders_far w kind t mb (suc n) b i h p =
    let place = i + place_of_set mb kind in
    holders_down mb (suc n) b i w kind t (omega arith)
    ∙ ap₂ (λ (x y : ℕ). x + y) (holds_above w (set_at mb b place) t (omega (arith, p, top_lt mb b place h)))
    (ap (λ (m : ℕ). holders w kind t (rows_at mb m b (i + row_size mb))) (less n) ∙ holders_far w kind t mb n b (i + row_size mb) h p)
  where
    less : (n : ℕ) → suc n - 1 ≡ n
    less n = omega arith

-- ---- a place k rows further on

abbrev pub further : ℕ → ℕ → ℕ
further k zero = 0
further k (suc p) = suc (k + p)

pub further_none : (p : ℕ) → further 0 p ≡ p
further_none zero = refl
further_none (suc p) = omega arith

pub further_one : (k p : ℕ) → further k (one_on p) ≡ further (k + 1) p
further_one k zero = refl
further_one k (suc p) = omega arith
