-- The definition of the call at work, computed by the checker: one table, and one claim that each row is what the call gives.
-- Assumes nothing.
use Rattle.std.proofs.Common.{◌≡◌, ℕ, List, [], ◌∷◌, map, ℤ, pos, neg_ℤ, refl}
use Rattle.forms.specs.Column.{how_many}
use Rattle.correction.specs.Counter.{difference}
use Rattle.correction.specs.Correct.{Corrected, corrected}
use Rattle.correction.specs.Middle.{greatest_of, middle}

record Row : Type 0 where
  n : ℕ
  f : ℕ
  expected : ℕ
  readings : List ℕ
  number : ℕ
  correction : ℤ

row : ℕ → ℕ → ℕ → List ℕ → ℕ → ℤ → Row
row n f expected readings number correction =
    record { n = n; f = f; expected = expected; readings = readings; number = number; correction = correction }

minus : ℕ → ℤ
minus n = neg_ℤ (pos n)

table : List Row
table =
    -- both ends of the range, at half a turn on either side
    row 1 0 0 (2147483648 ∷ []) 0 (pos 2147483648)
    ∷ row 1 0 0 (2147483647 ∷ []) 0 (minus 2147483647)
    ∷ row 4 1 0 (2147483648 ∷ 2147483648 ∷ 2147483648 ∷ 0 ∷ []) 0 (pos 2147483648)
    ∷ row 4 1 0 (2147483647 ∷ 0 ∷ 2147483647 ∷ 2147483647 ∷ []) 0 (minus 2147483647)
    -- one controller; and a reading past the wrap
    ∷ row 1 0 5 (5 ∷ []) 0 (pos 0)
    ∷ row 1 0 4294967290 (3 ∷ []) 0 (minus 9)
    ∷ row 1 0 3 (4294967290 ∷ []) 0 (pos 9)
    -- odd sums, which are halved downwards: of -1 and -2, of -1 and 0, of 1 and 2, of -2 and 1
    ∷ row 2 0 0 (4294967295 ∷ 4294967294 ∷ []) 0 (pos 2)
    ∷ row 2 0 0 (4294967295 ∷ 0 ∷ []) 0 (pos 1)
    ∷ row 2 0 0 (1 ∷ 2 ∷ []) 0 (minus 1)
    ∷ row 2 0 0 (4294967294 ∷ 1 ∷ []) 0 (pos 1)
    -- one dropped on each side, in any order of the readings
    ∷ row 4 1 0 (4294967291 ∷ 4294967293 ∷ 8 ∷ 9 ∷ []) 0 (minus 2)
    ∷ row 4 1 0 (8 ∷ 4294967291 ∷ 9 ∷ 4294967293 ∷ []) 0 (minus 2)
    -- equal readings count each: of three 7 one is dropped
    ∷ row 4 1 0 (7 ∷ 7 ∷ 7 ∷ 100 ∷ []) 0 (minus 7)
    ∷ row 4 1 0 (7 ∷ 9 ∷ 7 ∷ 9 ∷ []) 0 (minus 8)
    ∷ row 4 1 0 (7 ∷ 7 ∷ 7 ∷ 7 ∷ []) 0 (minus 7)
    ∷ row 7 2 0 (50 ∷ 1 ∷ 50 ∷ 1 ∷ 50 ∷ 1 ∷ 50 ∷ []) 0 (minus 25)
    -- refusals: n of 0 and of 33, too great an f, one of which thrice as much wraps, too small an f, and one reading too few and too many
    ∷ row 0 0 0 [] 2 (pos 0)
    ∷ row 33 10 0 [] 2 (pos 0)
    ∷ row 3 1 0 (1 ∷ 2 ∷ 3 ∷ []) 2 (pos 0)
    ∷ row 4 1431655765 0 (1 ∷ 2 ∷ 3 ∷ 4 ∷ []) 2 (pos 0)
    ∷ row 4 0 0 (1 ∷ 2 ∷ 3 ∷ 4 ∷ []) 21 (pos 0)
    ∷ row 4 1 0 (1 ∷ 2 ∷ 3 ∷ []) 29 (pos 0)
    ∷ row 4 1 0 (1 ∷ 2 ∷ 3 ∷ 4 ∷ 5 ∷ []) 29 (pos 0)
    ∷ []

-- what the call gives, and what the row states
given : Row → Corrected
given r = corrected r.n r.f r.readings r.expected

stated : Row → Corrected
stated r = record { number = r.number; correction = r.correction }

worked : map given table ≡ map stated table
unfolding table given stated row minus corrected middle greatest_of how_many difference
worked = refl
