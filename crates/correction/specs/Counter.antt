-- A counter of 32 bits that runs past its top and starts at 0 (02, A13): the difference of two readings, taken round the wrap, as a number
-- from half a turn below 0 to one less than half a turn above it.
use Rattle.std.specs.Prelude.{ℕ, ◌+◌, ◌-◌, ◌%◌, cond, List, map, ℤ, pos, ◌-ℤ◌, nat_lt}

-- how many readings the counter has: after one turn it shows the same again
abbrev pub turn : ℕ
turn = 4294967296

-- half a turn
abbrev pub half : ℕ
half = 2147483648

-- how far the counter runs on from what was expected until it shows the reading
abbrev pub apart : ℕ → ℕ → ℕ
apart reading expected = (reading + turn - expected) % turn

-- a way round of half a turn or more is read as the rest of the turn, backwards
abbrev pub signed : ℕ → ℤ
signed way = cond (nat_lt way half) (pos way) (pos way -ℤ pos turn)

-- reading minus expected
unfoldable pub difference : ℕ → ℕ → ℤ
difference reading expected = signed (apart reading expected)

-- of each reading
abbrev pub differences : ℕ → List ℕ → List ℤ
differences expected = map (λ reading. difference reading expected)
