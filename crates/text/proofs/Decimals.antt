-- A number of 32 bits in decimal digits, as `digits` makes them from the last one on: the digits of a tenth of it and then its last digit;
-- and it has at most ten.
-- Assumes nothing.
use mathlib.Core.Path.{◌≡◌, refl, sym, ap, ◌∙◌}
use mathlib.Core.Bool.{cond}
use mathlib.Core.List.{List, [], ◌∷◌, ◌++◌, append_assoc}
use Prim.Native.Nat.{ℕ, zero, suc, ◌+◌, ◌-◌, ◌*◌, ◌/◌, ◌%◌, ◌^◌, ◌≤◌, ◌<◌}
use native.Mathlib.Nat.{pow-succ'}
use native.Mathlib.Numerals.{add-one}
use native.Mathlib.Omega.{arith}
use lib.ListN.{length, set, drop, drop_of_length-le, length-set}
use lib.Dec.{ltb}
use borrow.Author.Tests.{lt-ltb, le-ltb}
use Rattle.std.proofs.lemmas.List.{append-nil, drop-set}
use Rattle.text.specs.Decimal.{most_number, digit, decimal_in, decimal}

-- a counter that is enough for a number is enough when it is one more
one_more : (c n : ℕ) → n < 10 ^ suc c → decimal_in c n ≡ decimal_in (suc c) n
unfolding decimal_in
one_more zero n small =
    let few : n < 10 = omega arith in
    let same : n % 10 ≡ n = omega arith in
    rw (lt-ltb n 10 few) (ap (λ (m : ℕ). digit m ∷ []) same)
one_more (suc c) n small =
    let most : n < 10 * 10 ^ suc c = rw (pow-succ' 10 (suc c)) at small in
    ap (λ (xs : List ℕ). cond (ltb n 10) (digit n ∷ []) (xs ++ (digit (n % 10) ∷ []))) (one_more c (n / 10) (omega arith))

-- the digits of a number from ten on: those of its tenth, and then its last one
pub decimal_more : (n : ℕ) → 10 ≤ n → n ≤ most_number → decimal n ≡ decimal (n / 10) ++ (digit (n % 10) ∷ [])
unfolding decimal decimal_in
decimal_more n big few =
    rw (le-ltb n 10 big) (ap (λ (xs : List ℕ). xs ++ (digit (n % 10) ∷ [])) (one_more 18 (n / 10) (omega arith)))

-- a number below ten is its one digit
pub decimal_one : (n : ℕ) → n < 10 → decimal n ≡ digit n ∷ []
unfolding decimal decimal_in
decimal_one n small = rw (lt-ltb n 10 small) refl

-- ---- the digits as they come to stand at the end of a buffer

-- where a turn begins: the digits of n are those of the rest, and then those that stand behind place k; the rest has at most k + 1
pub record Made (n : ℕ) (text : List ℕ) (k rest : ℕ) : Type 0 where
  pub inside : k < length text
  pub few : rest ≤ most_number
  pub room : rest < 10 ^ suc k
  pub digits : decimal n ≡ decimal rest ++ drop (k + 1) text

-- a turn puts the last digit of the rest at place k, which is not the first
pub made_more : (n : ℕ) (text : List ℕ) (k rest : ℕ) → Made n text k rest → 10 ≤ rest →
    (0 < k) × Made n (set text k (digit (rest % 10))) (k - 1) (rest / 10)
made_more n text zero rest made big = absurd (omega (arith, made.room))
made_more n text (suc k) rest made big =
    let most : rest < 10 * 10 ^ suc k = rw (pow-succ' 10 (suc k)) at made.room in
    let x : ℕ = digit (rest % 10) in
    let behind : drop (suc k) (set text (suc k) x) ≡ x ∷ drop (suc k + 1) text = drop-set text (suc k) x made.inside in
    let back : drop (k + 1) (set text (suc k) x) ≡ x ∷ drop (suc k + 1) text = rw add-one behind in
    let one : suc k - 1 ≡ k = omega arith in
    let long : length (set text (suc k) x) ≡ length text = length-set text (suc k) x in (
      omega arith,
      rw one (record {
        inside = omega (arith, made.inside);
        few = omega (arith, made.few);
        room = omega arith;
        digits =
            made.digits
            ∙ ap (λ (xs : List ℕ). xs ++ drop (suc k + 1) text) (decimal_more rest big made.few)
            ∙ append_assoc (decimal (rest / 10)) (x ∷ []) (drop (suc k + 1) text)
            ∙ ap (λ (xs : List ℕ). decimal (rest / 10) ++ xs) (sym back);
      }),
    )

-- at the end the rest is the first digit
pub made_all : (n : ℕ) (text : List ℕ) (k rest : ℕ) → Made n text k rest → rest < 10 →
    drop k (set text k (digit rest)) ≡ decimal n
made_all n text k rest made small =
    drop-set text k (digit rest) made.inside
    ∙ ap (λ (xs : List ℕ). xs ++ drop (k + 1) text) (sym (decimal_one rest small))
    ∙ sym made.digits

-- nothing is made at first
pub made_none : (n : ℕ) (text : List ℕ) (k : ℕ) → length text ≡ k + 1 → n ≤ most_number → n < 10 ^ suc k → Made n text k n
made_none n text k size few room =
    record { inside = omega arith; few = few; room = room; digits = sym (ap (λ (xs : List ℕ). decimal n ++ xs) (drop_of_length-le text {i = k + 1} (omega arith)) ∙ append-nil (decimal n)) }
