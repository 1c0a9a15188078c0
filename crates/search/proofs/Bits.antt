-- Laws of the bits of words that are joined or filled, and of the counters that they make.
-- Assumes nothing.
use mathlib.Core.Path.{◌≡◌, ap, ap₂, ◌∙◌}
use Prim.Native.Nat.{ℕ, zero, suc, ◌+◌, ◌-◌, ◌*◌, ◌/◌, ◌%◌, ◌^◌, ◌<◌, min, max}
use native.Mathlib.Nat.{pow-suc}
use native.Mathlib.Omega.{arith}
use lib.Pow.{pow_pos}
use lib.Bits.{differ, bit_and, bit_or, bit_xor, and_step, or_step, xor_step, and_shr, or_shr, xor_shr}
use Rattle.sets.specs.Ticks.{bit}
use Rattle.sets.proofs.Masks.{bit_zero, bit_suc, bit_le, bit_out}
use Rattle.search.specs.Levels.{capacity, reached}
use Rattle.search.specs.declared.levels.Levels.{Levels}

pub bit_none : (d : ℕ) → bit 0 d ≡ 0
bit_none d = bit_out 0 0 d (omega arith) (omega arith)

-- ---- joined

digits : (p q : ℕ) → p < 2 → q < 2 → (differ p q < 2) × (differ p q + 2 * min p q ≡ p + q)
digits zero q h k = (k, omega arith)
digits (suc zero) zero h k = (omega arith, omega arith)
digits (suc zero) (suc zero) h k = (omega arith, omega arith)
digits (suc zero) (suc (suc q)) h k = absurd (omega arith)
digits (suc (suc p)) q h k = absurd (omega arith)

last : (x q r : ℕ) → x ≡ q * 2 + r → r < 2 → x % 2 ≡ r
last x q r e p = omega arith

-- a sum of two bits: what stays, and what is carried
pub bit_sum : (a b d : ℕ) → bit (bit_xor a b) d + 2 * bit (bit_and a b) d ≡ bit a d + bit b d
unfolding bit
bit_sum a b d =
    let x = a / 2 ^ d in
    let y = b / 2 ^ d in
    let told = digits (x % 2) (y % 2) (omega arith) (omega arith) in
    let stays =
    ap (λ (z : ℕ). z % 2) (xor_shr a b d)
    ∙ last (bit_xor x y) (bit_xor (x / 2) (y / 2)) (differ (x % 2) (y % 2)) (xor_step x y) told.0 in
    let carried =
    ap (λ (z : ℕ). z % 2) (and_shr a b d)
    ∙ last (bit_and x y) (bit_and (x / 2) (y / 2)) (min (x % 2) (y % 2)) (and_step x y) (omega arith) in
    ap₂ (λ (p q : ℕ). p + 2 * q) stays carried ∙ told.1

pub bit_or_lem : (a b d : ℕ) → bit (bit_or a b) d ≡ max (bit a d) (bit b d)
unfolding bit
bit_or_lem a b d =
    let x = a / 2 ^ d in
    let y = b / 2 ^ d in
    omega (arith, ap (λ (z : ℕ). z % 2) (or_shr a b d), or_step x y)

-- ---- filled

pub bit_ones : (k d : ℕ) → d < k → bit (2 ^ k - 1) d ≡ 1
bit_ones zero d p = absurd (omega arith)
bit_ones (suc k) zero p = bit_zero (2 ^ suc k - 1) ∙ omega (arith, pow-suc 2 k, pow_pos k)
bit_ones (suc k) (suc d) p =
    bit_suc (2 ^ suc k - 1) d ∙ ap (λ (x : ℕ). bit x d) (omega (arith, pow-suc 2 k, pow_pos k)) ∙ bit_ones k d (omega arith)

-- ---- a counter of six bits

pub reached_lt : (l : Levels) (d : ℕ) → reached l d < capacity
unfolding reached
reached_lt l d =
    omega (
      arith,
      bit_le l.ones d,
      bit_le l.twos d,
      bit_le l.fours d,
      bit_le l.eights d,
      bit_le l.sixteens d,
      bit_le l.more d,
    )
