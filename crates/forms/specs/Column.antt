-- A list looked at through counts, so that its order decides nothing: how many of it pass a test; of a list of numbers how often one
-- stands in it, and how many pairs are the same number. The serials of a roster and the pack numbers of a sheet are judged by these. In
-- bytes such a list is a column: 4 apart in a form, a row apart in an image, an entry apart on a sheet.
use Rattle.std.specs.Prelude.{ℕ, ◌+◌, List, [], ◌∷◌, Bool, true, cond, ◌&&◌, ltb, eqb}

-- how many of a list pass a test
unfoldable pub how_many : {A : Type 0} → (A → Bool) → List A → ℕ
how_many test [] = 0
how_many test (x ∷ xs) = cond (test x) 1 0 + how_many test xs

-- how often x stands in a list
unfoldable pub count : ℕ → List ℕ → ℕ
count x [] = 0
count x (y ∷ ys) = cond (eqb y x) 1 0 + count x ys

-- how many pairs of lines hold the same number
unfoldable pub twins : List ℕ → ℕ
twins [] = 0
twins (x ∷ xs) = count x xs + twins xs

-- each number is above the one before it
unfoldable pub ascends : List ℕ → Bool
ascends [] = true
ascends (x ∷ []) = true
ascends (x ∷ y ∷ ys) = ltb x y && ascends (y ∷ ys)

-- ---- a column in bytes

-- the longest column whose pairs are counted: no layout has one as long, and the count of its pairs fits every word
abbrev pub most_column : ℕ
most_column = 4096
