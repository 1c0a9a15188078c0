-- Texts as bytes, and numbers in decimal digits, written and read, computed by the checker.
-- Assumes nothing.
use mathlib.Core.Path.{◌≡◌, refl}
use mathlib.Core.List.{[], ◌∷◌}
use Rattle.text.specs.Characters.{ascii, blank, newline}
use Rattle.text.specs.Decimal.{most_number, decimal_in, decimal, all_digits, value_from, read_from, decimal_of}
use Rattle.std.specs.declared.option.Option.TheVariants.{Some, None}

words : ascii "a p\n" ≡ 97 ∷ blank ∷ 112 ∷ newline ∷ []
words = refl

digits : (decimal 0 ≡ 48 ∷ []) × (decimal 9 ≡ 57 ∷ []) × (decimal 10 ≡ 49 ∷ 48 ∷ [])
    × (decimal 4000000000 ≡ 52 ∷ 48 ∷ 48 ∷ 48 ∷ 48 ∷ 48 ∷ 48 ∷ 48 ∷ 48 ∷ 48 ∷ [])
unfolding decimal decimal_in
digits = (refl, refl, refl, refl)

-- read: leading zeros are no matter; a sign, no digit at all and 2 to the 32 are no number
numbers : (decimal_of (ascii "007") ≡ Some 7) × (decimal_of (ascii "4294967295") ≡ Some most_number)
    × (decimal_of (ascii "4294967296") ≡ None) × (decimal_of (ascii "+1") ≡ None)
    × (decimal_of (ascii "-1") ≡ None) × (decimal_of [] ≡ None)
unfolding decimal_of read_from all_digits value_from
numbers = (refl, refl, refl, refl, refl, refl)
