-- Laws of rows in bytes, over the bytes of a mask: the columns of a row list, what a stored set leaves, that rows whose bytes are
-- the same are the same, and that storing what stands there changes nothing.
-- Assumes nothing.
use mathlib.Core.Path.{◌≡◌, refl, sym, ap, ap₂, ◌∙◌}
use mathlib.Core.Bool.{Bool, true, false, cond}
use mathlib.Core.List.{List, ◌∷◌, map}
use Prim.Native.Nat.{ℕ, zero, suc, ◌+◌, ◌-◌, ◌≤◌, ◌<◌}
use native.Mathlib.Omega.{arith}
use lib.ListN.{length, get_or}
use lib.Dec.{eqb}
use Rattle.fields.specs.Field.{field, put_field, words, Bytes}
use Rattle.fields.specs.Kind.{ECHO}
use Rattle.fields.proofs.Fields.{field_same, put_field_lem, get_d_put_other, length_put, bytes_put}
use Rattle.sets.specs.Ticks.{Held}
use Rattle.evidence.specs.Rows.{Row, set_size, row_size, echo_place, init_place, set_of, place_of_set}
use Rattle.evidence.specs.Rows.{set_at, row_at, rows_at, put_set, put_row_bytes, put_rows}

-- ---- the columns

pub rows_down :
    (mb n : ℕ) (b : List ℕ) (i : ℕ) → 0 < n → rows_at mb n b i ≡ row_at mb b i ∷ rows_at mb (n - 1) b (i + row_size mb)
unfolding rows_at
rows_down mb zero b i p = absurd (omega arith)
rows_down mb (suc n) b i p = ap (λ (k : ℕ). row_at mb b i ∷ rows_at mb k b (i + row_size mb)) (less n)
  where
    less : (k : ℕ) → k ≡ suc k - 1
    less k = omega arith

pub length_rows : (mb n : ℕ) (b : List ℕ) (i : ℕ) → length (rows_at mb n b i) ≡ n
unfolding rows_at
length_rows mb zero b i = refl
length_rows mb (suc n) b i = ap suc (length_rows mb n b (i + row_size mb))

-- the set of a kind, read where it stands
pub set_of_row : (mb kind : ℕ) (b : List ℕ) (i : ℕ) → set_of kind (row_at mb b i) ≡ set_at mb b (i + place_of_set mb kind)
unfolding set_of place_of_set row_at
set_of_row mb kind b i = go (eqb kind ECHO)
  where
    go :
        (t : Bool) →
        cond t (set_at mb b (i + echo_place)) (set_at mb b (i + init_place mb)) ≡ set_at mb b (i + cond t echo_place (init_place mb))
    go true = refl
    go false = refl

-- the serials of the rows are a column of words
pub serials_of_rows :
    (mb n : ℕ) (b : List ℕ) (i : ℕ) → map (λ (row : Row). row.serial) (rows_at mb n b i) ≡ words n (row_size mb) b i
unfolding rows_at row_at words
serials_of_rows mb zero b i = refl
serials_of_rows mb (suc n) b i = ap (λ (l : List ℕ). field 4 b i ∷ l) (serials_of_rows mb n b (i + row_size mb))

-- ---- what a stored set leaves

module _ (mb : ℕ) (b : List ℕ) (i : ℕ) (s : Held) where
  pub length_put_set : length (put_set mb b i s) ≡ length b
  unfolding put_set
  length_put_set = length_put mb (put_field 4 b i s.top) (i + 4) s.mask ∙ length_put 4 b i s.top

  pub bytes_put_set : Bytes b → Bytes (put_set mb b i s)
  unfolding put_set
  bytes_put_set h = bytes_put mb (put_field 4 b i s.top) (i + 4) s.mask (bytes_put 4 b i s.top h)

  pub get_d_put_set_other : (j : ℕ) → ((k : ℕ) → k < set_size mb → j ≡ i + k → ⊥) → get_or (put_set mb b i s) j 0 ≡ get_or b j 0
  unfolding put_set
  get_d_put_set_other j h =
      get_d_put_other mb (put_field 4 b i s.top) (i + 4) s.mask j (λ k p e. h (4 + k) (omega arith) (omega arith))
      ∙ get_d_put_other 4 b i s.top j (λ k p e. h k (omega arith) e)

  -- a set that lies apart from it
  pub set_apart :
      (p : ℕ) → ((k l : ℕ) → k < set_size mb → l < set_size mb → p + k ≡ i + l → ⊥) → set_at mb (put_set mb b i s) p ≡ set_at mb b p
  unfolding set_at
  set_apart p h = λ d.
      record {
        top = at 4 p (λ k l q r e. h k l (omega arith) r e) d;
        mask = at mb (p + 4) (λ k l q r e. h (4 + k) l (omega arith) r (omega arith)) d;
      }
    where
      at :
          (w q : ℕ) → ((k l : ℕ) → k < w → l < set_size mb → q + k ≡ i + l → ⊥) →
          field w (put_set mb b i s) q ≡ field w b q
      at w q r = field_same w (put_set mb b i s) b q q (λ k o. get_d_put_set_other (q + k) (λ l o' e. r k l o o' e))

-- ---- rows whose bytes are the same are the same

pub row_same :
    (mb : ℕ) (b c : List ℕ) (i : ℕ) → ((k : ℕ) → k < row_size mb → get_or b (i + k) 0 ≡ get_or c (i + k) 0) → row_at mb b i ≡ row_at mb c i
unfolding row_at set_at
row_same mb b c i h = λ d.
    record {
      serial = at 4 0 i (omega arith) (omega arith) d;
      echo = set echo_place (omega arith) d;
      init = set (init_place mb) (omega arith) d;
    }
  where
    at : (w o p : ℕ) → p ≡ i + o → o + w ≤ row_size mb → field w b p ≡ field w c p
    at w o p e q =
        field_same w b c p p
        (λ k r. ap (λ (x : ℕ). get_or b x 0) (shift k) ∙ h (o + k) (omega arith) ∙ ap (λ (x : ℕ). get_or c x 0) (sym (shift k)))
      where
        shift : (k : ℕ) → p + k ≡ i + (o + k)
        shift k = omega arith

    set : (o : ℕ) → o + set_size mb ≤ row_size mb → set_at mb b (i + o) ≡ set_at mb c (i + o)
    set o q = λ d.
        record { top = at 4 o (i + o) (omega arith) (omega arith) d; mask = at mb (o + 4) (i + o + 4) (omega arith) (omega arith) d }

pub rows_same :
    (mb n : ℕ) (b c : List ℕ) (i : ℕ) → ((k : ℕ) → i ≤ k → get_or b k 0 ≡ get_or c k 0) → rows_at mb n b i ≡ rows_at mb n c i
unfolding rows_at
rows_same mb zero b c i h = refl
rows_same mb (suc n) b c i h =
    ap₂ (λ (r : Row) (l : List Row). r ∷ l)
    (row_same mb b c i (λ k p. h (i + k) (omega arith)))
    (rows_same mb n b c (i + row_size mb) (λ k p. h k (omega arith)))

-- ---- what stands there, stored again, changes nothing

pub put_set_lem : (mb : ℕ) (b : List ℕ) (i : ℕ) → Bytes b → put_set mb b i (set_at mb b i) ≡ b
unfolding put_set set_at
put_set_lem mb b i h =
    ap (λ (l : List ℕ). put_field mb l (i + 4) (field mb b (i + 4))) (put_field_lem 4 b i h) ∙ put_field_lem mb b (i + 4) h

pub put_row_lem : (mb : ℕ) (b : List ℕ) (i : ℕ) → Bytes b → put_row_bytes mb b i (row_at mb b i) ≡ b
unfolding put_row_bytes row_at
put_row_lem mb b i h =
    let echo = i + echo_place in
    let init = i + init_place mb in
    ap (λ (l : List ℕ). put_set mb (put_set mb l echo (set_at mb b echo)) init (set_at mb b init)) (put_field_lem 4 b i h)
    ∙ ap (λ (l : List ℕ). put_set mb l init (set_at mb b init)) (put_set_lem mb b echo h) ∙ put_set_lem mb b init h

pub put_rows_lem : (mb n : ℕ) (b : List ℕ) (i : ℕ) → Bytes b → put_rows mb b i (rows_at mb n b i) ≡ b
unfolding put_rows rows_at
put_rows_lem mb zero b i h = refl
put_rows_lem mb (suc n) b i h =
    ap (λ (l : List ℕ). put_rows mb l (i + row_size mb) (rows_at mb n b (i + row_size mb))) (put_row_lem mb b i h)
    ∙ put_rows_lem mb n b (i + row_size mb) h
