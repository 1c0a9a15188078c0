-- Rows written over bytes do not depend on what stood there: where two buffers are the same in front of the rows, they are the same up to
-- the rows' end. Over the bytes of a mask.
-- Assumes nothing.
use mathlib.Core.Path.{◌≡◌}
use mathlib.Core.List.{List, [], ◌∷◌}
use Prim.Native.Nat.{ℕ, ◌+◌, ◌*◌, ◌≤◌}
use native.Mathlib.Nat.{suc-mul}
use native.Mathlib.Omega.{arith}
use lib.ListN.{length, take}
use Rattle.fields.specs.Field.{put_field}
use Rattle.fields.proofs.Fields.{length_put, take_put}
use Rattle.sets.specs.Ticks.{Held}
use Rattle.evidence.specs.Rows.{Row, set_size, row_size, echo_place, init_place, put_set, put_row_bytes, put_rows}
use Rattle.evidence.proofs.Encoded.{length_put_row}
use Rattle.evidence.proofs.Layouts.{length_put_set}

-- in each of these n is the place where what is written ends, and both buffers reach that far

field_over : (w : ℕ) (b c : List ℕ) (i v n : ℕ) → i + w ≡ n → n ≤ length b → n ≤ length c → take i b ≡ take i c →
    take n (put_field w b i v) ≡ take n (put_field w c i v)
field_over w b c i v n e p q same = rw (← e) (take_put w b c i v (omega arith) (omega arith) same)

set_over : (mb : ℕ) (b c : List ℕ) (i : ℕ) (s : Held) (n : ℕ) → i + set_size mb ≡ n → n ≤ length b → n ≤ length c → take i b ≡ take i c →
    take n (put_set mb b i s) ≡ take n (put_set mb c i s)
unfolding put_set
set_over mb b c i s n e p q same =
    field_over mb (topped b) (topped c) (i + 4) s.mask n (omega arith) (omega (arith, kept b)) (omega (arith, kept c))
    (field_over 4 b c i s.top (i + 4) (omega arith) (omega arith) (omega arith) same)
  where
    topped : List ℕ → List ℕ
    topped l = put_field 4 l i s.top

    kept : (l : List ℕ) → length (topped l) ≡ length l
    kept l = length_put 4 l i s.top

row_over : (mb : ℕ) (b c : List ℕ) (i : ℕ) (r : Row) (n : ℕ) → i + row_size mb ≡ n → n ≤ length b → n ≤ length c → take i b ≡ take i c →
    take n (put_row_bytes mb b i r) ≡ take n (put_row_bytes mb c i r)
unfolding put_row_bytes
row_over mb b c i r n e p q same =
    set_over mb (half b) (half c) (i + init_place mb) r.init n (omega arith) (omega (arith, kept b)) (omega (arith, kept c))
    (set_over mb (begun b) (begun c) (i + echo_place) r.echo (i + init_place mb) (omega arith)
    (omega (arith, long b)) (omega (arith, long c))
    (field_over 4 b c i r.serial (i + echo_place) (omega arith) (omega arith) (omega arith) same))
  where
    begun : List ℕ → List ℕ
    begun l = put_field 4 l i r.serial

    long : (l : List ℕ) → length (begun l) ≡ length l
    long l = length_put 4 l i r.serial

    half : List ℕ → List ℕ
    half l = put_set mb (begun l) (i + echo_place) r.echo

    kept : (l : List ℕ) → length (half l) ≡ length l
    kept l = omega (arith, length_put_set mb (begun l) (i + echo_place) r.echo, long l)

pub rows_over : (mb : ℕ) (b c : List ℕ) (i : ℕ) (rs : List Row) (n : ℕ) →
    i + length rs * row_size mb ≡ n → n ≤ length b → n ≤ length c → take i b ≡ take i c →
    take n (put_rows mb b i rs) ≡ take n (put_rows mb c i rs)
unfolding put_rows
rows_over mb b c i [] n e p q same = let end : n ≡ i = omega arith in rw end same
rows_over mb b c i (r ∷ rs) n e p q same =
    let many = suc-mul (length rs) (row_size mb) in
    rows_over mb (put_row_bytes mb b i r) (put_row_bytes mb c i r) (i + row_size mb) rs n (omega arith)
    (omega (arith, length_put_row mb b i r)) (omega (arith, length_put_row mb c i r))
    (row_over mb b c i r (i + row_size mb) (omega arith) (omega arith) (omega arith) same)
