-- Rows written to bytes read back the same, where every field fits; rows read from bytes fit, and stay so when a frame is
-- credited. Over the bytes of a mask.
-- Assumes nothing.
use mathlib.Core.Path.{◌≡◌, refl, sym, ap, ap₂, ◌∙◌, subst}
use mathlib.Core.List.{List, [], ◌∷◌}
use Prim.Native.Nat.{ℕ, zero, suc, ◌+◌, ◌-◌, ◌*◌, ◌^◌, ◌≤◌, ◌<◌}
use native.Mathlib.Nat.{suc-mul, lt_of_lt_of_le}
use native.Mathlib.Omega.{arith}
use lib.ListN.{length, get_or}
use lib.Dec.{lit<}
use lib.Pow.{pow_mono}
use Rattle.fields.specs.Field.{field, put_field, Bytes}
use Rattle.fields.proofs.Fields.{field_same, field_lt, field_put, field_put_other, length_put, bytes_put, get_d_put_other}
use Rattle.sets.specs.Sets.{tick_count}
use Rattle.sets.specs.Ticks.{Held, insert}
use Rattle.sets.proofs.Masks.{raised_lt, marked_lt}
use Rattle.sets.proofs.Members.{Insertion, insertion, insert_near, insert_far, insert_in, insert_late}
use Rattle.evidence.specs.Rows.{Row, set_size, row_size, echo_place, init_place}
use Rattle.evidence.specs.Rows.{set_at, row_at, rows_at, put_set, put_row_bytes, put_rows, credit_of, credit}
use Rattle.evidence.proofs.Frames.{Every, every_credited, serial_credited, row_keeps}
use Rattle.evidence.proofs.Layouts.{length_put_set, bytes_put_set, get_d_put_set_other, set_apart, row_same, length_rows}

-- a set, a row and rows whose numbers fit their fields
pub record SetFits (mb : ℕ) (s : Held) : Type 0 where
  pub top : s.top < tick_count
  pub mask : s.mask < 256 ^ mb

pub record RowFits (mb : ℕ) (r : Row) : Type 0 where
  pub serial : r.serial < 2 ^ 32
  pub echo : SetFits mb r.echo
  pub init : SetFits mb r.init

abbrev pub RowsFit : ℕ → List Row → Type 0
RowsFit mb rows = Every (RowFits mb) rows

-- ---- a set, a row, rows read back

pub set_read_back :
    (mb : ℕ) (b : List ℕ) (i : ℕ) (s : Held) → i + set_size mb ≤ length b → SetFits mb s → set_at mb (put_set mb b i s) i ≡ s
unfolding set_at put_set
set_read_back mb b i s h f = λ d. record { top = top d; mask = mask d }
  where
    topped : List ℕ
    topped = put_field 4 b i s.top

    top : field 4 (put_field mb topped (i + 4) s.mask) i ≡ s.top
    top =
        field_put_other 4 mb topped (i + 4) s.mask i (λ k l p q e. omega arith)
        ∙ field_put 4 b i s.top (omega arith) f.top

    mask : field mb (put_field mb topped (i + 4) s.mask) (i + 4) ≡ s.mask
    mask = field_put mb topped (i + 4) s.mask (omega (arith, length_put 4 b i s.top)) f.mask

module _ (mb : ℕ) (b : List ℕ) (i : ℕ) (r : Row) where
  -- the buffer with the serial, and with the echo set behind it
  abbrev begun : List ℕ
  begun = put_field 4 b i r.serial

  abbrev half : List ℕ
  half = put_set mb begun (i + echo_place) r.echo

  pub row_read_back : i + row_size mb ≤ length b → RowFits mb r → row_at mb (put_row_bytes mb b i r) i ≡ r
  unfolding row_at put_row_bytes
  row_read_back h f = λ d. record { serial = serial d; echo = echo d; init = init d }
    where
      serial : field 4 (put_set mb half (i + init_place mb) r.init) i ≡ r.serial
      serial =
          field_same 4 (put_set mb half (i + init_place mb) r.init) begun i i
          (λ k p. get_d_put_set_other mb half (i + init_place mb) r.init (i + k) (λ m q e. omega arith)
          ∙ get_d_put_set_other mb begun (i + echo_place) r.echo (i + k) (λ m q e. omega arith))
          ∙ field_put 4 b i r.serial (omega arith) f.serial

      echo : set_at mb (put_set mb half (i + init_place mb) r.init) (i + echo_place) ≡ r.echo
      echo =
          set_apart mb half (i + init_place mb) r.init (i + echo_place) (λ k l p q e. omega arith)
          ∙ set_read_back mb begun (i + echo_place) r.echo (omega (arith, length_put 4 b i r.serial)) f.echo

      init : set_at mb (put_set mb half (i + init_place mb) r.init) (i + init_place mb) ≡ r.init
      init =
          set_read_back mb half (i + init_place mb) r.init
          (omega (arith, length_put_set mb begun (i + echo_place) r.echo, length_put 4 b i r.serial)) f.init

  pub length_put_row : length (put_row_bytes mb b i r) ≡ length b
  unfolding put_row_bytes
  length_put_row =
      length_put_set mb half (i + init_place mb) r.init
      ∙ length_put_set mb begun (i + echo_place) r.echo ∙ length_put 4 b i r.serial

  bytes_put_row : Bytes b → Bytes (put_row_bytes mb b i r)
  unfolding put_row_bytes
  bytes_put_row h =
      bytes_put_set mb half (i + init_place mb) r.init
      (bytes_put_set mb begun (i + echo_place) r.echo (bytes_put 4 b i r.serial h))

  pub get_d_put_row_other : (j : ℕ) → ((k : ℕ) → k < row_size mb → j ≡ i + k → ⊥) → get_or (put_row_bytes mb b i r) j 0 ≡ get_or b j 0
  unfolding put_row_bytes
  get_d_put_row_other j h =
      get_d_put_set_other mb half (i + init_place mb) r.init j (λ k p e. h (init_place mb + k) (omega arith) (omega arith))
      ∙ get_d_put_set_other mb begun (i + echo_place) r.echo j (λ k p e. h (echo_place + k) (omega arith) (omega arith))
      ∙ get_d_put_other 4 b i r.serial j (λ k p e. h k (omega arith) e)

pub length_put_rows : (mb : ℕ) (b : List ℕ) (i : ℕ) (rs : List Row) → length (put_rows mb b i rs) ≡ length b
unfolding put_rows
length_put_rows mb b i [] = refl
length_put_rows mb b i (r ∷ rs) = length_put_rows mb (put_row_bytes mb b i r) (i + row_size mb) rs ∙ length_put_row mb b i r

pub bytes_put_rows : (mb : ℕ) (b : List ℕ) (i : ℕ) (rs : List Row) → Bytes b → Bytes (put_rows mb b i rs)
unfolding put_rows
bytes_put_rows mb b i [] h = h
bytes_put_rows mb b i (r ∷ rs) h = bytes_put_rows mb (put_row_bytes mb b i r) (i + row_size mb) rs (bytes_put_row mb b i r h)

-- a byte in front of the rows
pub get_d_put_rows_before :
    (mb : ℕ) (b : List ℕ) (i : ℕ) (rs : List Row) (j : ℕ) → j < i → get_or (put_rows mb b i rs) j 0 ≡ get_or b j 0
unfolding put_rows
get_d_put_rows_before mb b i [] j p = refl
get_d_put_rows_before mb b i (r ∷ rs) j p =
    get_d_put_rows_before mb (put_row_bytes mb b i r) (i + row_size mb) rs j (omega arith)
    ∙ get_d_put_row_other mb b i r j (λ k q e. omega arith)

pub get_d_put_rows_after :
    (mb : ℕ) (b : List ℕ) (i : ℕ) (rs : List Row) (j : ℕ) → i + length rs * row_size mb ≤ j → get_or (put_rows mb b i rs) j 0 ≡ get_or b j 0
unfolding put_rows
get_d_put_rows_after mb b i [] j p = refl
get_d_put_rows_after mb b i (r ∷ rs) j p =
    get_d_put_rows_after mb (put_row_bytes mb b i r) (i + row_size mb) rs j (omega (arith, suc-mul (length rs) (row_size mb)))
    ∙ get_d_put_row_other mb b i r j (λ k q e. omega (arith, suc-mul (length rs) (row_size mb)))

pub rows_read_back :
    (mb : ℕ) (b : List ℕ) (i : ℕ) (rs : List Row) → i + length rs * row_size mb ≤ length b → RowsFit mb rs →
    rows_at mb (length rs) (put_rows mb b i rs) i ≡ rs
unfolding rows_at put_rows
rows_read_back mb b i [] h f = refl
rows_read_back mb b i (r ∷ rs) h f =
    let first = put_row_bytes mb b i r in
    ap₂ (λ (x : Row) (l : List Row). x ∷ l)
    (row_same mb (put_rows mb first (i + row_size mb) rs) first i
    (λ k p. get_d_put_rows_before mb first (i + row_size mb) rs (i + k) (omega arith))
    ∙ row_read_back mb b i r (omega (arith, suc-mul (length rs) (row_size mb))) f.0)
    (rows_read_back mb first (i + row_size mb) rs (omega (arith, suc-mul (length rs) (row_size mb), length_put_row mb b i r)) f.1)

-- ---- what fits

set_fits : (mb : ℕ) (b : List ℕ) (i : ℕ) → Bytes b → SetFits mb (set_at mb b i)
unfolding set_at
set_fits mb b i h = record { top = field_lt 4 b i h; mask = field_lt mb b (i + 4) h }

pub rows_fit : (mb n : ℕ) (b : List ℕ) (i : ℕ) → Bytes b → RowsFit mb (rows_at mb n b i)
unfolding rows_at row_at
rows_fit mb zero b i h = tt
rows_fit mb (suc n) b i h = (
  record { serial = field_lt 4 b i h; echo = set_fits mb b (i + echo_place) h; init = set_fits mb b (i + init_place mb) h },
  rows_fit mb n b (i + row_size mb) h,
)

-- the window fits a mask of mb bytes, which are m bits
module _ (mb m w : ℕ) (bits : 256 ^ mb ≡ 2 ^ m) (wide : 0 < w) (narrow : w ≤ m) where
  insert_fits : (s : Held) (t : ℕ) → t < tick_count → SetFits mb s → SetFits mb (insert w s t)
  insert_fits s t p f = go (insertion w s t wide)
    where
      up : {x : ℕ} → x < 2 ^ m → x < 256 ^ mb
      up {x} q = subst (λ (y : ℕ). x < y) (sym bits) q

      some : 1 ≤ m
      some = omega arith

      go : Insertion w s t → SetFits mb (insert w s t)
      go (Insertion.near a q) =
          subst (SetFits mb) (sym (insert_near w s t a q))
          (record { top = p; mask = up (lt_of_lt_of_le (raised_lt w s.mask (t - s.top) wide (omega arith)) (pow_mono narrow)) })
      go (Insertion.far a q) =
          subst (SetFits mb) (sym (insert_far w s t a q)) (record { top = p; mask = up (lt_of_lt_of_le (lit< tt) (pow_mono some)) })
      go (Insertion.within a q) =
          subst (SetFits mb) (sym (insert_in w s t a q))
          (record {
            top = f.top;
            mask = up (marked_lt s.mask (s.top - t) m (omega arith) (subst (λ (y : ℕ). s.mask < y) bits f.mask));
          })
      go (Insertion.late a) = subst (SetFits mb) (sym (insert_late w s t a wide)) f

  pub credit_fits :
      (serial kind j : ℕ) (rs : List Row) → j < tick_count → RowsFit mb rs → RowsFit mb (credit w serial kind j rs)
  credit_fits serial kind j rs p = every_credited w serial kind j (RowFits mb) row_fits rs
    where
      row_fits : (r : Row) → RowFits mb r → RowFits mb (credit_of w serial kind j r)
      row_fits r f =
          let sets = row_keeps w tick_count (SetFits mb) insert_fits serial kind j p r (f.echo, f.init) in
          record {
            serial = subst (λ (x : ℕ). x < 2 ^ 32) (sym (serial_credited w serial kind j r)) f.serial;
            echo = sets.0;
            init = sets.1;
          }

  pub length_credit : (serial kind j : ℕ) (rs : List Row) → length (credit w serial kind j rs) ≡ length rs
  unfolding credit
  length_credit serial kind j [] = refl
  length_credit serial kind j (r ∷ rs) = ap suc (length_credit serial kind j rs)

  -- the rows that a credit wrote read back
  pub credit_read_back :
      (serial kind j n : ℕ) (b : List ℕ) (i : ℕ) → Bytes b → j < tick_count → i + n * row_size mb ≤ length b →
      rows_at mb n (put_rows mb b i (credit w serial kind j (rows_at mb n b i))) i ≡ credit w serial kind j (rows_at mb n b i)
  credit_read_back serial kind j n b i h p room =
      ap (λ (k : ℕ). rows_at mb k (put_rows mb b i (credit w serial kind j (rows_at mb n b i))) i) (sym count)
      ∙ rows_read_back mb b i (credit w serial kind j (rows_at mb n b i))
      (subst (λ (k : ℕ). i + k * row_size mb ≤ length b) (sym count) room)
      (credit_fits serial kind j (rows_at mb n b i) p (rows_fit mb n b i h))
    where
      count : length (credit w serial kind j (rows_at mb n b i)) ≡ n
      count = length_credit serial kind j (rows_at mb n b i) ∙ length_rows mb n b i
