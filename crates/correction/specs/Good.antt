-- What theorems say of a correction besides (02, A13): readings of which some are bad, whichever they are; the good ones between which a
-- number lies; differences in ascending order; and a counter that is turned on.
use Rattle.std.specs.Prelude.{◌≡◌, ℕ, zero, suc, ◌+◌, ◌%◌, ◌<◌, Bool, false, List, [], ◌∷◌, length, ℤ, ◌≤ℤ◌, slice_index}
use mathlib.Core.List.{Memᴰ}
use Rattle.correction.specs.Counter.{turn, difference}

-- the positions of n readings
unfoldable pub positions : ℕ → List ℕ
positions zero = []
positions (suc n) = n ∷ positions n

-- the reading at a position is there and good
abbrev pub GoodAt : (ℕ → Bool) → List ℕ → ℕ → Type 0
GoodAt bad readings i = (i < length readings) × (bad i ≡ false)

-- the difference at a position
abbrev pub difference_at : ℕ → List ℕ → ℕ → ℤ
difference_at expected readings i = difference (slice_index readings i) expected

-- a number between two good differences, and so between the least and the greatest of them
pub record Between (bad : ℕ → Bool) (expected : ℕ) (readings : List ℕ) (z : ℤ) : Type 0 where
  pub low : ℕ
  pub low_good : GoodAt bad readings low
  pub from_low : difference_at expected readings low ≤ℤ z
  pub high : ℕ
  pub high_good : GoodAt bad readings high
  pub to_high : z ≤ℤ difference_at expected readings high

-- each number is at most those behind it
abbrev pub Ascending : List ℤ → Type 0
Ascending [] = Unit
Ascending (d ∷ ds) = ((x : ℤ) → Memᴰ x ds → d ≤ℤ x) × Ascending ds

-- what a counter shows after so many microseconds more
abbrev pub turned_by : ℕ → ℕ → ℕ
turned_by more reading = (reading + more) % turn
