-- The middle of some differences (02, A13; 001 has it as reduce, then mid): the f greatest and the f least are dropped, equal ones counted
-- separately, and the lowest and the highest of the rest are added and halved downwards. It is said by rank: how many differences
-- are below one. So no order of readings enters.
use Rattle.std.specs.Prelude.{ℕ, ◌-◌, Bool, cond, ◌&&◌, List, [], ◌∷◌, length, ℤ, pos, ◌+ℤ◌, neg_ℤ, int_lt, nat_le}
use Rattle.std.specs.Int.Signed.{shr_z}
use Rattle.forms.specs.Column.{how_many}
use Rattle.correction.specs.Counter.{half}

-- how many of the differences are below d
abbrev pub below : ℤ → List ℤ → ℕ
below d = how_many (λ other. int_lt other d)

-- the least difference that there is
abbrev pub least : ℤ
least = neg_ℤ (pos half)

-- the greatest of those that are kept, or the least that there is
unfoldable pub greatest_of : (ℤ → Bool) → List ℤ → ℤ
greatest_of kept [] = least
greatest_of kept (d ∷ ds) = cond (int_lt (greatest_of kept ds) d && kept d) d (greatest_of kept ds)

-- the difference of rank k, which k others come before where all stand in order: the greatest that has at most k below it
abbrev pub ranked : ℕ → List ℤ → ℤ
ranked k ds = greatest_of (λ d. nat_le (below d ds) k) ds

-- what is lowest when the f least are dropped, and highest when the f greatest are
abbrev pub lowest : ℕ → List ℤ → ℤ
lowest f ds = ranked f ds

abbrev pub highest : ℕ → List ℤ → ℤ
highest f ds = ranked (length ds - 1 - f) ds

-- half of a number, rounded down: the library's shift to the right rounds so on both sides of 0
abbrev pub half_down : ℤ → ℤ
half_down sum = shr_z sum 2

unfoldable pub middle : ℕ → List ℤ → ℤ
middle f ds = half_down (lowest f ds +ℤ highest f ds)
