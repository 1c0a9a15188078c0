-- Laws of a mask's bits, over every width: a bit of a number by halving it, of a shifted, a cut and a marked one, and that a
-- number is its bits.
-- Assumes nothing.
use mathlib.Core.Path.{◌≡◌, refl, sym, ap, ap₂, ◌∙◌, subst}
use mathlib.Core.Logic.{◌↔◌}
use Prim.Native.Nat.{ℕ, zero, suc, ◌+◌, ◌-◌, ◌*◌, ◌/◌, ◌%◌, ◌^◌, ◌≤◌, ◌<◌}
use native.Mathlib.Nat.{pow-suc, pow-succ', div-div-eq-div-mul, div-one, div-eq_of_lt, lt_of_lt_of_le, mul_assoc}
use native.Mathlib.Nat.{add-suc, add-zero, lt_of_le_of_lt, mod-lt, mod-le, mod-eq_of_lt, one-mul, lt-div-mul-add}
use native.Mathlib.Decide.{dec_lt, ℕ_discrete}
use native.Mathlib.Omega.{arith}
use lib.Pow.{pow_pos, pow_mono, pow-lt, mod-mod-pow, shl_lt, high, low}
use lib.Arith.{mod-mul}
use lib.Bits.{bit_and, bit_or, bit_xor, differ, xor_step, xor_self, xor_add_and, or_add_and}
use Rattle.std.proofs.lemmas.Nat.Bits.{and_pow}
use lib.Dec.{eqb, ltb}
use borrow.Author.Tests.{eq-eqb, ne_eqb, lt-ltb, le-ltb}
use lib.ListN.{get_or}
use mathlib.Core.List.{List}
use Rattle.fields.specs.Field.{field, Bytes}
use Rattle.sets.specs.Ticks.{bit, raised, marked}

pub bit_zero : (m : ℕ) → bit m 0 ≡ m % 2
unfolding bit
bit_zero m = ap (λ (x : ℕ). x % 2) (div-one m)

pub bit_suc : (m i : ℕ) → bit m (suc i) ≡ bit (m / 2) i
unfolding bit
bit_suc m i = ap (λ (x : ℕ). x % 2) (ap (λ (x : ℕ). m / x) (pow-succ' 2 i) ∙ sym (div-div-eq-div-mul m 2 (2 ^ i)))

pub bit_le : (m i : ℕ) → bit m i ≤ 1
unfolding bit
bit_le m i = omega arith

-- a number of k bits has none above
pub bit_out : (m k i : ℕ) → m < 2 ^ k → k ≤ i → bit m i ≡ 0
unfolding bit
bit_out m k i p q = ap (λ (x : ℕ). x % 2) (div-eq_of_lt (lt_of_lt_of_le p (pow_mono q)))

-- two numbers of w bits with the same bits are equal
pub bits_same : (w m n : ℕ) → m < 2 ^ w → n < 2 ^ w → ((i : ℕ) → i < w → bit m i ≡ bit n i) → m ≡ n
bits_same zero m n p q h = omega arith
bits_same (suc w) m n p q h =
    join
    (bits_same w (m / 2) (n / 2) (omega (arith, pow-suc 2 w)) (omega (arith, pow-suc 2 w))
    (λ i r. sym (bit_suc m i) ∙ h (suc i) (omega arith) ∙ bit_suc n i))
    (sym (bit_zero m) ∙ h 0 (omega arith) ∙ bit_zero n)
  where
    join : m / 2 ≡ n / 2 → m % 2 ≡ n % 2 → m ≡ n
    join e f = omega arith

-- ---- a number and a lowest bit

bit_low : (m r : ℕ) → r < 2 → bit (m * 2 + r) 0 ≡ r
bit_low m r p = bit_zero (m * 2 + r) ∙ omega arith

bit_high : (m r i : ℕ) → r < 2 → bit (m * 2 + r) (suc i) ≡ bit m i
bit_high m r i p = bit_suc (m * 2 + r) i ∙ ap (λ (x : ℕ). bit x i) halved
  where
    halved : (m * 2 + r) / 2 ≡ m
    halved = omega arith

-- ---- shifted

twice : (m d : ℕ) → m * 2 ^ suc d ≡ m * 2 ^ d * 2 + 0
twice m d = ap (λ (x : ℕ). m * x) (pow-suc 2 d) ∙ sym (mul_assoc m (2 ^ d) 2) ∙ sym (add-zero (m * 2 ^ d * 2))

pub shift_at : (m d i : ℕ) → bit (m * 2 ^ d) (i + d) ≡ bit m i
shift_at m zero i = ap₂ bit (omega arith) (add-zero i)
shift_at m (suc d) i = ap₂ bit (twice m d) (add-suc i d) ∙ bit_high (m * 2 ^ d) 0 (i + d) (omega arith) ∙ shift_at m d i

pub shift_below : (m d i : ℕ) → i < d → bit (m * 2 ^ d) i ≡ 0
shift_below m zero i p = absurd (omega arith)
shift_below m (suc d) zero p = ap (λ (x : ℕ). bit x 0) (twice m d) ∙ bit_low (m * 2 ^ d) 0 (omega arith)
shift_below m (suc d) (suc i) p =
    ap (λ (x : ℕ). bit x (suc i)) (twice m d) ∙ bit_high (m * 2 ^ d) 0 i (omega arith) ∙ shift_below m d i (omega arith)

pub shift_down : (m k d : ℕ) → bit (m / 2 ^ k) d ≡ bit m (d + k)
shift_down m zero d = ap₂ bit (omega arith) (sym (add-zero d))
shift_down m (suc k) d =
    ap (λ (x : ℕ). bit x d) (ap (λ (x : ℕ). m / x) (pow-succ' 2 k) ∙ sym (div-div-eq-div-mul m 2 (2 ^ k)))
    ∙ shift_down (m / 2) k d ∙ sym (bit_suc m (d + k)) ∙ ap (bit m) (sym (add-suc d k))

-- ---- cut to w bits

halves : (w m : ℕ) → m % 2 ^ suc w ≡ (m / 2 % 2 ^ w) * 2 + m % 2
halves w m = ap (λ (x : ℕ). m % x) (pow-suc 2 w) ∙ mod-mul m (pow_pos w) (omega arith)

pub cut_at : (w m i : ℕ) → i < w → bit (m % 2 ^ w) i ≡ bit m i
cut_at zero m i p = absurd (omega arith)
cut_at (suc w) m zero p = ap (λ (x : ℕ). bit x 0) (halves w m) ∙ bit_low (m / 2 % 2 ^ w) (m % 2) (omega arith) ∙ sym (bit_zero m)
cut_at (suc w) m (suc i) p =
    ap (λ (x : ℕ). bit x (suc i)) (halves w m) ∙ bit_high (m / 2 % 2 ^ w) (m % 2) i (omega arith)
    ∙ cut_at w (m / 2) i (omega arith) ∙ sym (bit_suc m i)

-- ---- marked

marked_suc : (m d : ℕ) → marked m (suc d) ≡ marked (m / 2) d * 2 + m % 2
unfolding marked
marked_suc m d =
    omega (
      arith,
      ap (λ (x : ℕ). (1 - x) * 2 ^ suc d) (bit_suc m d),
      ap (λ (x : ℕ). (1 - bit (m / 2) d) * x) (pow-suc 2 d),
      mul_assoc (1 - bit (m / 2) d) (2 ^ d) 2,
    )

marked_zero : (m : ℕ) → marked m 0 ≡ m / 2 * 2 + 1
unfolding marked
marked_zero m = omega (arith, bit_zero m)

pub marked_at : (m d : ℕ) → bit (marked m d) d ≡ 1
marked_at m zero = ap (λ (x : ℕ). bit x 0) (marked_zero m) ∙ bit_low (m / 2) 1 (omega arith)
marked_at m (suc d) =
    ap (λ (x : ℕ). bit x (suc d)) (marked_suc m d) ∙ bit_high (marked (m / 2) d) (m % 2) d (omega arith) ∙ marked_at (m / 2) d

pub marked_other : (m d i : ℕ) → (i ≡ d → ⊥) → bit (marked m d) i ≡ bit m i
marked_other m zero zero ne = absurd (ne refl)
marked_other m zero (suc i) ne =
    ap (λ (x : ℕ). bit x (suc i)) (marked_zero m) ∙ bit_high (m / 2) 1 i (omega arith) ∙ sym (bit_suc m i)
marked_other m (suc d) zero ne =
    ap (λ (x : ℕ). bit x 0) (marked_suc m d) ∙ bit_low (marked (m / 2) d) (m % 2) (omega arith) ∙ sym (bit_zero m)
marked_other m (suc d) (suc i) ne =
    ap (λ (x : ℕ). bit x (suc i)) (marked_suc m d) ∙ bit_high (marked (m / 2) d) (m % 2) i (omega arith)
    ∙ marked_other (m / 2) d i (λ e. ne (ap suc e)) ∙ sym (bit_suc m i)

pub marked_lt : (m d k : ℕ) → d < k → m < 2 ^ k → marked m d < 2 ^ k
marked_lt m d zero p q = absurd (omega arith)
marked_lt m zero (suc k) p q = omega (arith, marked_zero m, pow-suc 2 k)
marked_lt m (suc d) (suc k) p q =
    omega (arith, marked_suc m d, pow-suc 2 k, marked_lt (m / 2) d k (omega arith) (omega (arith, pow-suc 2 k)))

-- ---- raised: shifted up by at least one, cut, and the new top in it

raised_even : (w m d : ℕ) → 0 < w → 0 < d → (m * 2 ^ d % 2 ^ w) % 2 ≡ 0
raised_even w m d p q = sym (bit_zero (m * 2 ^ d % 2 ^ w)) ∙ cut_at w (m * 2 ^ d) 0 p ∙ shift_below m d 0 q

pub raised_odd : (w m d : ℕ) → 0 < w → 0 < d → raised w m d % 2 ≡ 1
unfolding raised
raised_odd w m d p q = omega (arith, raised_even w m d p q)

-- the new top is bit 0, which a mask that went up does not have
pub raised_marked : (w m d : ℕ) → 0 < w → 0 < d → marked (m * 2 ^ d % 2 ^ w) 0 ≡ raised w m d
unfolding raised
raised_marked w m d p q = marked_zero (m * 2 ^ d % 2 ^ w) ∙ omega (arith, raised_even w m d p q)

pub raised_suc : (w m d i : ℕ) → 0 < w → 0 < d → bit (raised w m d) (suc i) ≡ bit (m * 2 ^ d % 2 ^ w) (suc i)
unfolding raised
raised_suc w m d i p q = bit_suc (m * 2 ^ d % 2 ^ w + 1) i ∙ ap (λ (x : ℕ). bit x i) half ∙ sym (bit_suc (m * 2 ^ d % 2 ^ w) i)
  where
    half : (m * 2 ^ d % 2 ^ w + 1) / 2 ≡ (m * 2 ^ d % 2 ^ w) / 2
    half = omega (arith, raised_even w m d p q)

-- an even number below 2 ^ k, and one more
odd_lt : (x k : ℕ) → 0 < k → x % 2 ≡ 0 → x < 2 ^ k → x + 1 < 2 ^ k
odd_lt x zero p e q = absurd (omega arith)
odd_lt x (suc k) p e q = omega (arith, pow-suc 2 k)

pub raised_lt : (w m d : ℕ) → 0 < w → 0 < d → raised w m d < 2 ^ w
unfolding raised
raised_lt w m d p q = odd_lt (m * 2 ^ d % 2 ^ w) w p (raised_even w m d p q) (mod-lt (m * 2 ^ d) (pow_pos w))

-- no bit above a top that has risen by d
pub raised_low : (w m d k : ℕ) → 0 < w → 0 < d → m < 2 ^ k → raised w m d < 2 ^ (k + d)
unfolding raised
raised_low w m d k p q h =
    odd_lt (m * 2 ^ d % 2 ^ w) (k + d) (omega arith) (raised_even w m d p q) (lt_of_le_of_lt (mod-le (m * 2 ^ d) (2 ^ w)) (shl_lt k d h))

-- ---- a number in two parts, h above the n bits of l

module _ (n h : ℕ) {l : ℕ} (small : l < 2 ^ n) where
  pub bit_in_low : (i : ℕ) → i < n → bit (h * 2 ^ n + l) i ≡ bit l i
  bit_in_low i p = sym (cut_at n (h * 2 ^ n + l) i p) ∙ ap (λ (x : ℕ). bit x i) (low h n small)

  pub bit_in_high : (i : ℕ) → n ≤ i → bit (h * 2 ^ n + l) i ≡ bit h (i - n)
  bit_in_high i p =
      let e : i ≡ i - n + n = omega arith in
      ap (bit (h * 2 ^ n + l)) e ∙ sym (shift_down (h * 2 ^ n + l) n (i - n)) ∙ ap (λ (x : ℕ). bit x (i - n)) (high h n small)

-- bit d of a field stands in the byte d / 8 from its end
pub bit_in_byte : (w : ℕ) (b : List ℕ) (i d : ℕ) → Bytes b → d < 8 * w →
    bit (field w b i) d ≡ bit (get_or b (i + (w - 1 - d / 8)) 0) (d % 8)
unfolding field
bit_in_byte zero b i d h p = absurd (omega arith)
bit_in_byte (suc w) b i d h p =
    elim (dec_lt d 8) [
      | yes q ↦
          bit_in_low 8 (field w b i) (h (i + w)) d q
          ∙ ap₂ (λ (k e : ℕ). bit (get_or b (i + k) 0) e) (omega arith) (omega arith)
      | no q ↦
          bit_in_high 8 (field w b i) (h (i + w)) d (omega arith) ∙ bit_in_byte w b i (d - 8) h (omega arith)
          ∙ ap₂ (λ (k e : ℕ). bit (get_or b (i + k) 0) e) (omega arith) (omega arith)
    ]

-- ---- what a word of n bits computes

-- a bit set is the bit or'ed in
pub or_marked : (m d : ℕ) → bit_or m (2 ^ d) ≡ marked m d
unfolding marked bit
or_marked m d = go (bit m d) (bit_le m d) (omega (arith, or_add_and m (2 ^ d), and_pow m d))
  where
    go : (x : ℕ) → x ≤ 1 → bit_or m (2 ^ d) + x * 2 ^ d ≡ m + 2 ^ d → bit_or m (2 ^ d) ≡ m + (1 - x) * 2 ^ d
    go zero p e = omega arith
    go (suc zero) p e = omega arith
    go (suc (suc x)) p e = absurd (omega arith)

pub lone : (n d : ℕ) → d < n → 1 * 2 ^ d % 2 ^ n ≡ 2 ^ d
lone n d p = ap (λ (x : ℕ). x % 2 ^ n) (one-mul (2 ^ d)) ∙ mod-eq_of_lt (pow-lt p)

pub cut_wide : (n w x : ℕ) → w ≤ n → x % 2 ^ n % 2 ^ w ≡ x % 2 ^ w
cut_wide n w x p = ap (λ (k : ℕ). x % 2 ^ k % 2 ^ w) whole ∙ mod-mod-pow x (n - w) w
  where
    whole : n ≡ n - w + w
    whole = omega arith

-- a number is below 2 ^ k where nothing of it is left without its low k bits
pub below_as_shifted : (x k : ℕ) → eqb (x / 2 ^ k) 0 ≡ ltb x (2 ^ k)
below_as_shifted x k =
    elim (dec_lt x (2 ^ k)) [
      | yes p ↦ eq-eqb (x / 2 ^ k) 0 (div-eq_of_lt p) ∙ sym (lt-ltb x (2 ^ k) p)
      | no p ↦
          ne_eqb (x / 2 ^ k) 0 (λ e. p (omega (arith, lt-div-mul-add {a = x} (pow_pos k), ap (λ (q : ℕ). q * 2 ^ k) e)))
          ∙ sym (le-ltb x (2 ^ k) (omega arith))
    ]

-- x ^ (x - 1) is 1 where x is odd, and more where it is even
pub odd_alone : (x : ℕ) → 0 < x → eqb (bit_xor x (x - 1)) 1 ≡ eqb (x % 2) 1
odd_alone x p = go (x % 2) refl
  where
    go : (r : ℕ) → x % 2 ≡ r → eqb (bit_xor x (x - 1)) 1 ≡ eqb (x % 2) 1
    go zero e =
        let below : (x - 1) % 2 ≡ 1 = omega arith in
        let less : (x - 1) / 2 ≡ x / 2 - 1 = omega arith in
        let half = bit_xor (x / 2) ((x - 1) / 2) in
        let both = bit_and (x / 2) ((x - 1) / 2) in
        let sum = xor_add_and (x / 2) ((x - 1) / 2) in
        let step = xor_step x (x - 1) ∙ ap₂ (λ (a b : ℕ). half * 2 + differ a b) e below in
        -- were it 1, the halves, of which one is one more, would add up to an even number
        let more : bit_xor x (x - 1) ≡ 1 → ⊥ =
        λ q. elim (dec_lt both (x / 2)) [ yes l ↦ omega (arith, sum, step, less) | no l ↦ omega (arith, sum, step, less) ] in
        ne_eqb (bit_xor x (x - 1)) 1 more ∙ sym (ne_eqb (x % 2) 1 (λ q. omega arith))
    go (suc r) e =
        let odd : x % 2 ≡ 1 = omega arith in
        let below : (x - 1) % 2 ≡ 0 = omega arith in
        let same : (x - 1) / 2 ≡ x / 2 = omega arith in
        let half = ap (bit_xor (x / 2)) same ∙ xor_self (x / 2) in
        let step = xor_step x (x - 1) ∙ ap₂ (λ (a b : ℕ). bit_xor (x / 2) ((x - 1) / 2) * 2 + differ a b) odd below in
        eq-eqb (bit_xor x (x - 1)) 1 (omega (arith, step, half)) ∙ sym (eq-eqb (x % 2) 1 odd)

-- n has n bits at most
under_power : (n : ℕ) → n < 2 ^ n
under_power zero = omega arith
under_power (suc n) = omega (arith, under_power n, pow-suc 2 n)

-- a mask is below 2 ^ k exactly where each bit that is set is one of the lowest k
pub bits_below : (m k : ℕ) → (m < 2 ^ k) ↔ ((i : ℕ) → bit m i ≡ 1 → i < k)
bits_below m k = (
  λ p i e. elim (dec_lt i k) [ yes q ↦ q | no q ↦ absurd (omega (arith, bit_out m k i p (omega arith))) ],
  λ h. subst (λ (n : ℕ). n < 2 ^ k) (cut h) (mod-lt m (pow_pos k)),
)
  where
    cut : ((i : ℕ) → bit m i ≡ 1 → i < k) → m % 2 ^ k ≡ m
    cut h =
        bits_same m (m % 2 ^ k) m (omega (arith, mod-le m (2 ^ k), under_power m)) (under_power m)
        (λ i q. elim (dec_lt i k) [
          | yes p ↦ cut_at k m i p
          | no p ↦ bit_out (m % 2 ^ k) k i (mod-lt m (pow_pos k)) (omega arith) ∙ sym (unset i p)
        ])
      where
        unset : (i : ℕ) → (i < k → ⊥) → bit m i ≡ 0
        unset i p = elim (ℕ_discrete (bit m i) 1) [ yes e ↦ absurd (p (h i e)) | no n ↦ omega (arith, bit_le m i) ]
