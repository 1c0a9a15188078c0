-- Laws of a number that is read: a character more, the end, a number that has grown too great; and what is written reads back.
-- Assumes nothing.
use mathlib.Core.Path.{◌≡◌, refl, ap₂, ◌∙◌}
use mathlib.Core.Logic.{◌⊎◌, inl, inr}
use mathlib.Core.Bool.{Bool, true, false, cond, ◌&&◌, and-false, and-eq-true_iff}
use mathlib.Core.List.{List, [], ◌∷◌, ◌++◌}
use Prim.Native.Nat.{ℕ, zero, suc, ◌+◌, ◌-◌, ◌*◌, ◌/◌, ◌%◌, ◌^◌, ◌≤◌, ◌<◌}
use native.Mathlib.Nat.{pow-succ'}
use native.Mathlib.Omega.{arith}
use lib.ListN.{length, length-append}
use lib.Dec.{ltb}
use borrow.Author.Tests.{ltb-true, le-leb, lt-leb, ne_eqb}
use Rattle.text.specs.Decimal.{most_number, digit, decimal_in, decimal, is_digit_byte, all_digits, value_from, read_from, decimal_of}
use Rattle.std.specs.declared.option.Option.TheVariants.{Some, None}

-- ---- a character more, and the end

is_digit : (x : ℕ) → digit 0 ≤ x → x ≤ digit 9 → is_digit_byte x ≡ true
is_digit x low high = ap₂ (λ (a b : Bool). a && b) (le-leb (digit 0) x low) (le-leb x (digit 9) high)

module _ (n x : ℕ) (xs : List ℕ) where
  pub read_digit : digit 0 ≤ x → x ≤ digit 9 → read_from n (x ∷ xs) ≡ read_from (n * 10 + (x - digit 0)) xs
  unfolding read_from all_digits value_from
  read_digit low high = rw (is_digit x low high)

  pub read_other : (x < digit 0) ⊎ (digit 9 < x) → read_from n (x ∷ xs) ≡ None
  unfolding read_from all_digits
  read_other (inl low) = rw (lt-leb (digit 0) x low)
  read_other (inr high) = rw (lt-leb x (digit 9) high, and-false)

pub read_end : (n : ℕ) → n ≤ most_number → read_from n [] ≡ Some n
unfolding read_from all_digits value_from
read_end n few = rw (le-leb n most_number few)

-- a number only grows while it is read
value_grows : (n : ℕ) (xs : List ℕ) → n ≤ value_from n xs
unfolding value_from
value_grows n [] = omega arith
value_grows n (x ∷ xs) = omega (arith, value_grows (n * 10 + (x - digit 0)) xs)

pub read_great : (n : ℕ) (xs : List ℕ) → most_number < n → read_from n xs ≡ None
unfolding read_from
read_great n xs great = rw (lt-leb (value_from n xs) most_number (omega (arith, value_grows n xs)), and-false)

-- ---- what is written reads back

-- a digit behind others
value_behind : (n : ℕ) (xs : List ℕ) (x : ℕ) → value_from n (xs ++ (x ∷ [])) ≡ value_from n xs * 10 + (x - digit 0)
unfolding value_from
value_behind n [] x = refl
value_behind n (y ∷ ys) x = value_behind (n * 10 + (y - digit 0)) ys x

digits_behind : (xs : List ℕ) (x : ℕ) → all_digits xs ≡ true → is_digit_byte x ≡ true → all_digits (xs ++ (x ∷ [])) ≡ true
unfolding all_digits
digits_behind [] x all is = rw is
digits_behind (y ∷ ys) x all is =
    let h = (and-eq-true_iff (is_digit_byte y) (all_digits ys)).0 all in
    (and-eq-true_iff (is_digit_byte y) (all_digits (ys ++ (x ∷ [])))).1 (h.0, digits_behind ys x h.1 is)

-- digits that are read as n
record Reads (n : ℕ) (text : List ℕ) : Type 0 where
  some : 0 < length text
  digits : all_digits text ≡ true
  value : value_from 0 text ≡ n

-- a number's digits without its last one, and then that
last_digit : (n : ℕ) (text : List ℕ) → Reads (n / 10) text → Reads n (text ++ (digit (n % 10) ∷ []))
last_digit n text r =
    record {
      some = omega (arith, length-append text (digit (n % 10) ∷ []));
      digits = digits_behind text (digit (n % 10)) r.digits (is_digit (digit (n % 10)) (omega arith) (omega arith));
      value = value_behind 0 text (digit (n % 10)) ∙ omega (arith, r.value);
    }

one_digit : (n : ℕ) → n < 10 → Reads n (digit n ∷ [])
unfolding all_digits value_from
one_digit n small = record { some = omega arith; digits = rw (is_digit (digit n) (omega arith) (omega arith)); value = omega arith }

written_more : (c n : ℕ) → Reads (n / 10) (decimal_in c (n / 10)) → Reads n (decimal_in (suc c) n)
unfolding decimal_in
written_more c n shorter = go (ltb n 10) refl
  where
    go : (t : Bool) → ltb n 10 ≡ t → Reads n (cond t (digit n ∷ []) (decimal_in c (n / 10) ++ (digit (n % 10) ∷ [])))
    go true e = one_digit n (ltb-true n 10 e)
    go false e = last_digit n (decimal_in c (n / 10)) shorter

written_in : (c n : ℕ) → n < 10 ^ suc c → Reads n (decimal_in c n)
unfolding decimal_in
written_in zero n small =
    let same : n % 10 ≡ n = omega arith in
    rw same (one_digit n (omega arith))
written_in (suc c) n small =
    let most : n < 10 * 10 ^ suc c = rw (pow-succ' 10 (suc c)) at small in
    written_more c n (written_in c (n / 10) (omega arith))

-- a number of 32 bits, written, reads back
pub decimal_reads : (n : ℕ) → n ≤ most_number → decimal_of (decimal n) ≡ Some n
unfolding decimal decimal_of read_from
decimal_reads n few =
    let r = written_in 19 n (omega arith) in
    rw (ne_eqb (length (decimal_in 19 n)) 0 (omega arith), r.digits, r.value, le-leb n most_number few)
