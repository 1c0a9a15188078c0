-- Laws of rows in bytes as the list that `Rows` is: how long it is, where row k stands, and a walk over the list row by row.
-- Assumes nothing.
use mathlib.Core.Path.{◌≡◌, refl, sym, ap, ◌∙◌}
use mathlib.Core.Bool.{true, false, ◌&&◌, and-false}
use mathlib.Core.List.{List, [], ◌∷◌}
use Prim.Native.Nat.{ℕ, zero, suc, ◌+◌, ◌*◌, ◌<◌, ◌≤◌}
use native.Mathlib.Nat.{suc-mul, zero-mul}
use native.Mathlib.Omega.{arith}
use lib.ListN.{length, get_or, take, drop}
use lib.Seq.{get_or-take, get_or-drop}
use Rattle.std.proofs.lemmas.List.{drop_more}
use borrow.Author.Tests.{eq-eqb, ne_eqb}
use Rattle.fields.specs.Field.{field}
use Rattle.fields.proofs.Fields.{field_same}
use Rattle.sets.specs.Sets.{mask_bytes}
use Rattle.sets.specs.Ticks.{holds}
use Rattle.evidence.specs.Holders.{holders, one_on, place_of}
use Rattle.evidence.specs.Rows.{proper_set, proper_rows}
use Rattle.evidence.specs.Rows.{Row, no_row, set_size, row_size, row_bytes, echo_place, init_place, place_of_set, set_of, set_at, row_at, rows_at}
use Rattle.evidence.proofs.Layouts.{length_rows, set_of_row}

row_in_bytes :
    (mb n : ℕ) (b : List ℕ) (i k : ℕ) → k < n → get_or (rows_at mb n b i) k no_row ≡ row_at mb b (i + k * row_size mb)
unfolding rows_at
row_in_bytes mb zero b i k p = absurd (omega arith)
row_in_bytes mb (suc n) b i zero p = ap (row_at mb b) (omega (arith, zero-mul (row_size mb)))
row_in_bytes mb (suc n) b i (suc k) p =
    row_in_bytes mb n b (i + row_size mb) k (omega arith) ∙ ap (row_at mb b) (omega (arith, suc-mul k (row_size mb)))

-- of a list that is these rows
module _ (mb n : ℕ) (b : List ℕ) (i : ℕ) (rows : List Row) (view_is : rows_at mb n b i ≡ rows) where
  pub count_is : n ≡ length rows
  count_is = sym (length_rows mb n b i) ∙ ap length view_is

  pub row_is : (k : ℕ) → k < length rows → get_or rows k no_row ≡ row_at mb b (i + k * row_size mb)
  row_is k p = ap (λ (rs : List Row). get_or rs k no_row) (sym view_is) ∙ row_in_bytes mb n b i k (omega (arith, count_is))

-- it lies inside the bytes, as all rows do
pub row_inside :
    (n : ℕ) (b : List ℕ) (i : ℕ) (rows : List Row) → rows_at mask_bytes n b i ≡ rows → (k : ℕ) → k < length rows →
    i + n * row_bytes ≤ length b → i + k * row_bytes + row_bytes ≤ length b
row_inside n b i rows view_is k p inside = omega (arith, count_is mask_bytes n b i rows view_is)

-- ---- a row cut out of the bytes is the row that stood there

field_cut :
    (w n i o : ℕ) (b : List ℕ) → o + w ≤ n → field w (take n (drop i b)) o ≡ field w b (i + o)
field_cut w n i o b p =
    field_same w (take n (drop i b)) b o (i + o)
    (λ k q.
    get_or-take n (drop i b) (o + k) 0 (omega arith) ∙ get_or-drop i b (o + k) 0 ∙ ap (λ (j : ℕ). get_or b j 0) (omega arith))

set_cut :
    (mb n i o p : ℕ) (b : List ℕ) → p ≡ i + o → o + set_size mb ≤ n → set_at mb (take n (drop i b)) o ≡ set_at mb b p
unfolding set_at
set_cut mb n i o p b e q = λ d.
    record {
      top = (field_cut 4 n i o b (omega arith) ∙ ap (λ (j : ℕ). field 4 b j) {x = i + o} {y = p} (omega arith)) d;
      mask = (field_cut mb n i (o + 4) b (omega arith) ∙ ap (λ (j : ℕ). field mb b j) {x = i + (o + 4)} {y = p + 4} (omega arith)) d;
    }

pub row_cut : (mb n i : ℕ) (b : List ℕ) → row_size mb ≤ n → row_at mb (take n (drop i b)) 0 ≡ row_at mb b i
unfolding row_at
row_cut mb n i b p = λ d.
    record {
      serial = (field_cut 4 n i 0 b (omega arith) ∙ ap (λ (j : ℕ). field 4 b j) {x = i + 0} {y = i} (omega arith)) d;
      echo = set_cut mb n i (0 + echo_place) (i + echo_place) b (omega arith) (omega arith) d;
      init = set_cut mb n i (0 + init_place mb) (i + init_place mb) b (omega arith) (omega arith) d;
    }

-- the set of a kind in a row's own bytes
pub set_is :
    (mb : ℕ) (b : List ℕ) (kind p : ℕ) (row : Row) → row_at mb b 0 ≡ row → p ≡ place_of_set mb kind →
    set_at mb b p ≡ set_of kind row
set_is mb b kind p row e f =
    ap (λ (q : ℕ). set_at mb b q) {x = p} {y = 0 + place_of_set mb kind} (omega arith)
    ∙ sym (set_of_row mb kind b 0) ∙ ap (set_of kind) e

-- ---- a walk over a list: row k is the first of those that are left

pub row_and_rest : (rows : List Row) (k : ℕ) → k < length rows → drop k rows ≡ get_or rows k no_row ∷ drop (k + 1) rows
row_and_rest rows k p = drop_more rows k no_row p

pub none_left : (rows : List Row) (k : ℕ) → length rows ≤ k → drop k rows ≡ []
none_left [] zero p = refl
none_left [] (suc k) p = refl
none_left (row ∷ rows) zero p = absurd (omega arith)
none_left (row ∷ rows) (suc k) p = none_left rows k (omega arith)

-- where its serial is the one looked for, or another
module _ (serial : ℕ) (rows : List Row) (k : ℕ) (p : k < length rows) where
  pub place_here : (get_or rows k no_row).serial ≡ serial → place_of serial (drop k rows) ≡ 1
  unfolding place_of
  place_here e = ap (place_of serial) (row_and_rest rows k p) ∙ rw (eq-eqb (get_or rows k no_row).serial serial e)

  pub place_next :
      ((get_or rows k no_row).serial ≡ serial → ⊥) → place_of serial (drop k rows) ≡ one_on (place_of serial (drop (k + 1) rows))
  unfolding place_of
  place_next n = ap (place_of serial) (row_and_rest rows k p) ∙ rw (ne_eqb (get_or rows k no_row).serial serial n)

-- whether its sets are proper
module _ (w last : ℕ) (rows : List Row) (k : ℕ) (p : k < length rows) where
  abbrev row : Row
  row = get_or rows k no_row

  down :
      proper_rows w last (drop k rows)
      ≡ (proper_set w last row.echo && (proper_set w last row.init && proper_rows w last (drop (k + 1) rows)))
  unfolding proper_rows
  down = ap (proper_rows w last) (row_and_rest rows k p)

  pub echo_not_proper : proper_set w last row.echo ≡ false → proper_rows w last (drop k rows) ≡ false
  echo_not_proper e = down ∙ rw e

  pub init_not_proper : proper_set w last row.init ≡ false → proper_rows w last (drop k rows) ≡ false
  init_not_proper e = down ∙ rw e (and-false (proper_set w last row.echo))

  pub both_proper :
      proper_set w last row.echo ≡ true → proper_set w last row.init ≡ true →
      proper_rows w last (drop k rows) ≡ proper_rows w last (drop (k + 1) rows)
  both_proper e f = down ∙ rw (e, f)

-- whether it holds a tick
pub holders_next :
    (w kind t : ℕ) (rows : List Row) (k : ℕ) → k < length rows →
    holders w kind t (drop k rows) ≡ holds w (set_of kind (get_or rows k no_row)) t + holders w kind t (drop (k + 1) rows)
unfolding holders
holders_next w kind t rows k p = ap (holders w kind t) (row_and_rest rows k p)

pub holders_done : (w kind t : ℕ) (rows : List Row) (k : ℕ) → length rows ≤ k → holders w kind t (drop k rows) ≡ 0
unfolding holders
holders_done w kind t rows k p = ap (holders w kind t) (none_left rows k p)
