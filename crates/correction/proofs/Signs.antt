-- The order of signed numbers, by the test that the definitions use.
-- Assumes nothing.
use Rattle.std.proofs.Common.{◌≡◌, true, false, ℤ, ◌+ℤ◌, ◌≤ℤ◌, sym, arith}
use Rattle.std.proofs.lemmas.Int.{ints}
use lib.Signed.{lt_z}
use Rattle.correction.specs.Middle.{half_down}
use Rattle.correction.proofs.Halves.{half_is}

module _ (x y z : ℤ) where
  -- x < y and y ≤ z
  pub less_most : lt_z x y ≡ true → lt_z z y ≡ false → lt_z x z ≡ true
  less_most p q = sym (omega (arith, ints))

  -- x ≤ y and y < z
  pub most_less : lt_z y x ≡ false → lt_z y z ≡ true → lt_z x z ≡ true
  most_less p q = sym (omega (arith, ints))

  -- x ≤ y and y ≤ z
  pub most_most : lt_z y x ≡ false → lt_z z y ≡ false → lt_z z x ≡ false
  most_most p q = sym (omega (arith, ints))

pub never_less : (x : ℤ) → lt_z x x ≡ false
never_less x = sym (omega (arith, ints))

pub neither_less : (x y : ℤ) → lt_z x y ≡ false → lt_z y x ≡ false → x ≡ y
neither_less x y p q = omega (arith, ints)

-- the less of two is not the greater
pub less_once : (x y : ℤ) → lt_z x y ≡ true → lt_z y x ≡ false
less_once x y p = sym (omega (arith, ints))

-- the library's order, by the test
pub tested : (x y : ℤ) → x ≤ℤ y → lt_z y x ≡ false
tested x y p = sym (omega (arith, ints))

-- the half of two numbers lies between them
module _ (x y : ℤ) (l : lt_z y x ≡ false) where
  pub half_from : lt_z (half_down (x +ℤ y)) x ≡ false
  half_from = sym (omega (arith, ints, half_is (x +ℤ y)))

  pub half_to : lt_z y (half_down (x +ℤ y)) ≡ false
  half_to = sym (omega (arith, ints, half_is (x +ℤ y)))
