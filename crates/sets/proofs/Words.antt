-- Laws of a number in two words, over the width n of a word: where its bits stand, and what a shift, a cut, a mark and a comparison do
-- to its two words; how its bits fall into the two is in Masks. A mask is one number in the code, so these laws stand for whoever holds
-- one in two words.
-- Assumes nothing.
use mathlib.Core.Path.{◌≡◌, sym, ap, ap₂, ◌∙◌, subst}
use Prim.Native.Nat.{ℕ, ◌+◌, ◌-◌, ◌*◌, ◌/◌, ◌%◌, ◌^◌, ◌≤◌, ◌<◌}
use native.Mathlib.Nat.{add-zero, add-mul, mul_assoc, mul_comm, mul-le-mul_right, lt_of_lt_of_le}
use native.Mathlib.Nat.{mod-eq_of_lt, mul-mod_left, mul-add-div_right, mul-add-mod_self_right}
use native.Mathlib.Decide.{dec_lt}
use native.Mathlib.Omega.{arith}
use borrow.Author.Tests.{lt-ltb, le-ltb}
use lib.Dec.{ltb}
use lib.Arith.{digits_lt}
use lib.Pow.{pow_pos, pow_mono, pow-add, high, low, shl-shr, shr-shr, shr_lt, mod-pow-add}
use Rattle.sets.specs.Ticks.{bit, marked}
use Rattle.sets.proofs.Masks.{bit_in_low, bit_in_high, cut_wide}

module _ (n h : ℕ) {l : ℕ} (small : l < 2 ^ n) where
  abbrev whole : ℕ
  whole = h * 2 ^ n + l

  power : (k : ℕ) → n ≤ k → 2 ^ k ≡ 2 ^ (k - n) * 2 ^ n
  power k p = let e : k ≡ k - n + n = omega arith in ap (λ (j : ℕ). 2 ^ j) e ∙ pow-add 2 (k - n) n

  -- ---- how great it is

  pub in_two_words : h < 2 ^ n → h * 2 ^ n + l < 2 ^ (n + n)
  in_two_words p = subst (λ (x : ℕ). whole < x) (sym (pow-add 2 n n)) (digits_lt p small)

  pub alone : h ≡ 0 → h * 2 ^ n + l ≡ l
  alone e = omega (arith, ap (λ (x : ℕ). x * 2 ^ n) e)

  pub not_below : (k : ℕ) → k ≤ n → 0 < h → 2 ^ k ≤ h * 2 ^ n + l
  not_below k p q = omega (arith, pow_mono p, mul-le-mul_right (2 ^ n) q)

  pub not_none : 0 < h → h * 2 ^ n + l ≡ 0 → ⊥
  not_none p e = omega (arith, not_below 0 (omega arith) p)

  -- ---- the word that begins at bit i

  -- above the boundary: what is left of the high word
  pub word_in_high : (i : ℕ) → h < 2 ^ n → n ≤ i → (h * 2 ^ n + l) / 2 ^ i % 2 ^ n ≡ h / 2 ^ (i - n)
  word_in_high i p q = ap (λ (x : ℕ). x % 2 ^ n) down ∙ mod-eq_of_lt (small_part)
    where
      e : n + (i - n) ≡ i
      e = omega arith

      down : whole / 2 ^ i ≡ h / 2 ^ (i - n)
      down = ap (λ (k : ℕ). whole / 2 ^ k) (sym e) ∙ sym (shr-shr whole n (i - n)) ∙ ap (λ (x : ℕ). x / 2 ^ (i - n)) (high h n small)

      small_part : h / 2 ^ (i - n) < 2 ^ n
      small_part = shr_lt n (i - n) (lt_of_lt_of_le p (pow_mono (omega arith)))

  -- across it: the rest of the low word, and what comes down from the high one
  module _ (d : ℕ) (p : d ≤ n) where
    n_d : n ≡ n - d + d
    n_d = omega arith

    split : 2 ^ n ≡ 2 ^ (n - d) * 2 ^ d
    split = ap (λ (k : ℕ). 2 ^ k) n_d ∙ pow-add 2 (n - d) d

    rest : l / 2 ^ d < 2 ^ (n - d)
    rest = shr_lt (n - d) d (subst (λ (k : ℕ). l < 2 ^ k) n_d small)

    moved : whole / 2 ^ d ≡ h * 2 ^ (n - d) + l / 2 ^ d
    moved =
        ap (λ (x : ℕ). (h * x + l) / 2 ^ d) split
        ∙ ap (λ (x : ℕ). (x + l) / 2 ^ d) (sym (mul_assoc h (2 ^ (n - d)) (2 ^ d)))
        ∙ mul-add-div_right (pow_pos d) (h * 2 ^ (n - d)) l

    -- a number of n bits by its lower n - d bits and what stands above them
    parts : (x : ℕ) → x % 2 ^ n ≡ (x / 2 ^ (n - d) % 2 ^ d) * 2 ^ (n - d) + x % 2 ^ (n - d)
    parts x = let e : n ≡ d + (n - d) = omega arith in ap (λ (k : ℕ). x % 2 ^ k) e ∙ mod-pow-add x d (n - d)

    come_down : h * 2 ^ (n - d) % 2 ^ n ≡ (h % 2 ^ d) * 2 ^ (n - d)
    come_down =
        parts (h * 2 ^ (n - d))
        ∙ ap₂ (λ (x y : ℕ). (x % 2 ^ d) * 2 ^ (n - d) + y) (shl-shr h (n - d)) (mul-mod_left h (2 ^ (n - d)))
        ∙ add-zero ((h % 2 ^ d) * 2 ^ (n - d))

    pub slid : (h * 2 ^ n + l) / 2 ^ d % 2 ^ n ≡ l / 2 ^ d + h * 2 ^ (n - d) % 2 ^ n
    slid =
        ap (λ (x : ℕ). x % 2 ^ n) moved ∙ parts (h * 2 ^ (n - d) + l / 2 ^ d)
        ∙ ap₂ (λ (x y : ℕ). (x % 2 ^ d) * 2 ^ (n - d) + y) (high h (n - d) rest) (low h (n - d) rest)
        ∙ omega (arith, come_down)

  -- ---- shifted up

  spread : (d : ℕ) → whole * 2 ^ d ≡ h * 2 ^ d * 2 ^ n + l * 2 ^ d
  spread d =
      add-mul (h * 2 ^ n) l (2 ^ d)
      ∙ ap (λ (x : ℕ). x + l * 2 ^ d)
      (mul_assoc h (2 ^ n) (2 ^ d) ∙ ap (λ (x : ℕ). h * x) (mul_comm (2 ^ n) (2 ^ d)) ∙ sym (mul_assoc h (2 ^ d) (2 ^ n)))

  low_up : (d : ℕ) → whole * 2 ^ d % 2 ^ n ≡ l * 2 ^ d % 2 ^ n
  low_up d = ap (λ (x : ℕ). x % 2 ^ n) (spread d) ∙ mul-add-mod_self_right (h * 2 ^ d) (2 ^ n) (l * 2 ^ d)

  pub up_near :
      (d : ℕ) → d ≤ n →
      (h * 2 ^ n + l) * 2 ^ d % 2 ^ (n + n) ≡ (h * 2 ^ n + l) / 2 ^ (n - d) % 2 ^ n * 2 ^ n + l * 2 ^ d % 2 ^ n
  up_near d p =
      mod-pow-add (whole * 2 ^ d) n n ∙ ap₂ (λ (x y : ℕ). x % 2 ^ n * 2 ^ n + y) down (low_up d)
    where
      e : n ≡ d + (n - d)
      e = omega arith

      down : whole * 2 ^ d / 2 ^ n ≡ whole / 2 ^ (n - d)
      down =
          ap (λ (k : ℕ). whole * 2 ^ d / 2 ^ k) e ∙ sym (shr-shr (whole * 2 ^ d) d (n - d))
          ∙ ap (λ (x : ℕ). x / 2 ^ (n - d)) (shl-shr whole d)

  pub up_far : (d : ℕ) → n ≤ d → (h * 2 ^ n + l) * 2 ^ d % 2 ^ (n + n) ≡ l * 2 ^ (d - n) % 2 ^ n * 2 ^ n
  up_far d p =
      mod-pow-add (whole * 2 ^ d) n n
      ∙ ap₂ (λ (x y : ℕ). x % 2 ^ n * 2 ^ n + y) (ap (λ (x : ℕ). x / 2 ^ n) twice ∙ shl-shr (whole * 2 ^ (d - n)) n)
      (ap (λ (x : ℕ). x % 2 ^ n) twice ∙ mul-mod_left (whole * 2 ^ (d - n)) (2 ^ n))
      ∙ add-zero (whole * 2 ^ (d - n) % 2 ^ n * 2 ^ n) ∙ ap (λ (x : ℕ). x * 2 ^ n) (low_up (d - n))
    where
      twice : whole * 2 ^ d ≡ whole * 2 ^ (d - n) * 2 ^ n
      twice =
          ap (λ (x : ℕ). whole * x) (power d p) ∙ sym (mul_assoc whole (2 ^ (d - n)) (2 ^ n))

  -- ---- cut

  pub cut_low : (w : ℕ) → w ≤ n → (h * 2 ^ n + l) % 2 ^ w ≡ l % 2 ^ w
  cut_low w p = sym (cut_wide n w whole p) ∙ ap (λ (x : ℕ). x % 2 ^ w) (low h n small)

  pub cut_high : (w : ℕ) → n ≤ w → (h * 2 ^ n + l) % 2 ^ w ≡ h % 2 ^ (w - n) * 2 ^ n + l
  cut_high w p =
      let e : w ≡ w - n + n = omega arith in
      ap (λ (k : ℕ). whole % 2 ^ k) e ∙ mod-pow-add whole (w - n) n
      ∙ ap₂ (λ (x y : ℕ). x % 2 ^ (w - n) * 2 ^ n + y) (high h n small) (low h n small)

  -- ---- marked

  pub marked_low : (d : ℕ) → d < n → marked (h * 2 ^ n + l) d ≡ h * 2 ^ n + marked l d
  unfolding marked
  marked_low d p = omega (arith, ap (λ (x : ℕ). (1 - x) * 2 ^ d) (bit_in_low n h small d p))

  pub marked_high : (d : ℕ) → n ≤ d → marked (h * 2 ^ n + l) d ≡ marked h (d - n) * 2 ^ n + l
  unfolding marked
  marked_high d p =
      omega (
        arith,
        ap (λ (x : ℕ). (1 - x) * 2 ^ d) (bit_in_high n h small d p),
        ap (λ (x : ℕ). (1 - bit h (d - n)) * x) (power d p),
        mul_assoc (1 - bit h (d - n)) (2 ^ (d - n)) (2 ^ n),
        add-mul h ((1 - bit h (d - n)) * 2 ^ (d - n)) (2 ^ n),
      )

  -- ---- compared with a power of 2 in the high word

  pub below_high : (k : ℕ) → n ≤ k → ltb h (2 ^ (k - n)) ≡ ltb (h * 2 ^ n + l) (2 ^ k)
  below_high k p =
      elim (dec_lt h (2 ^ (k - n))) [
        | yes q ↦ lt-ltb h (2 ^ (k - n)) q ∙ sym (lt-ltb whole (2 ^ k) (subst (λ (x : ℕ). whole < x) (sym (power k p)) (digits_lt q small)))
        | no q ↦
            let over : 2 ^ (k - n) ≤ h = omega arith in
            le-ltb h (2 ^ (k - n)) over
            ∙ sym (le-ltb whole (2 ^ k) (omega (arith, power k p, mul-le-mul_right (2 ^ n) over)))
      ]
