-- Laws of signed numbers: a number and its half, and the range of a sum and of a half.
-- Assumes nothing.
use Rattle.std.proofs.Common.{◌≡◌, ℕ, ◌+◌, ◌*◌, ◌<◌, ◌≤◌, min, ℤ, pos, negsuc, ◌+ℤ◌, arith}
use Rattle.std.proofs.lemmas.Int.{ints}
use borrow.Author.Differences.{up, down}
use lib.Signed.{mag}
use Rattle.correction.specs.Middle.{half_down}

-- twice the half is the number or one less, each number read as `up z - down z`
pub half_is : (sum : ℤ) →
    (2 * up (half_down sum) + down sum ≤ up sum + 2 * down (half_down sum))
    × (up sum + 2 * down (half_down sum) ≤ 2 * up (half_down sum) + down sum + 1)
half_is (pos a) = (omega arith, omega arith)
half_is (negsuc a) = (omega arith, omega arith)

-- of which one is 0
one_part : (z : ℤ) → min (up z) (down z) ≡ 0
one_part (pos a) = omega arith
one_part (negsuc a) = omega arith

-- a sum takes one bit more
pub mag_sum : (x y : ℤ) (bound : ℕ) → mag x < bound → mag y < bound → mag (x +ℤ y) < 2 * bound
mag_sum x y bound p q = omega (arith, ints, one_part (x +ℤ y))

-- and half of it none
pub mag_half : (sum : ℤ) (bound : ℕ) → mag sum < 2 * bound → mag (half_down sum) < bound
mag_half sum bound p = omega (arith, ints, half_is sum, one_part (half_down sum))
