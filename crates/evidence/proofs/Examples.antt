-- The question stopped early at work on a few rows, computed by the checker: what a reader can compare with 02's A12. The last two are
-- where demand 3 ends: the order of rows decides how many are read, and nothing else.
-- Assumes nothing.
use mathlib.Core.Path.{◌≡◌, refl}
use mathlib.Core.Bool.{true, false}
use mathlib.Core.List.{[], ◌∷◌, Permᴰ}
use Rattle.fields.specs.Kind.{INIT, ECHO}
use Rattle.sets.specs.Ticks.{empty, bit, holds}
use Rattle.evidence.specs.Early.{decided_as, decide}
use Rattle.evidence.specs.Rows.{Row, row_with, set_of}

-- a row that holds (echo, 5) and (echo, 3), and one that holds nothing
holder : Row
holder = row_with 11 (record { top = 5; mask = 5 }) empty

other : Row
other = row_with 22 empty empty

-- m reached, the lack not to be made up, each at the first row that tells; m = 0 and m > n with no row read; m = n ends with the first
-- row that has not the tick; a kind and a tick that none holds
told :
    (decide 128 ECHO 5 2 (other ∷ holder ∷ holder ∷ other ∷ []) ≡ decided_as true 3)
    × (decide 128 ECHO 3 3 (other ∷ holder ∷ other ∷ holder ∷ []) ≡ decided_as false 3)
    × (decide 128 ECHO 5 0 (holder ∷ holder ∷ []) ≡ decided_as true 0) × (decide 128 ECHO 5 3 (holder ∷ holder ∷ []) ≡ decided_as false 0)
    × (decide 128 ECHO 5 0 [] ≡ decided_as true 0) × (decide 128 ECHO 5 1 [] ≡ decided_as false 0)
    × (decide 128 ECHO 5 4 (holder ∷ other ∷ holder ∷ holder ∷ []) ≡ decided_as false 2)
    × (decide 128 INIT 5 1 (holder ∷ holder ∷ []) ≡ decided_as false 2) × (decide 128 ECHO 4 2 (holder ∷ holder ∷ []) ≡ decided_as false 1)
unfolding holder other decide set_of holds bit
told = (refl, refl, refl, refl, refl, refl, refl, refl, refl)

-- the same two rows in either order: the answer is the same, the number of rows read is not
exchanged : Permᴰ (holder ∷ other ∷ []) (other ∷ holder ∷ [])
exchanged = Permᴰ.swap refl refl

order_decides_rows_read :
    (decide 128 ECHO 5 1 (holder ∷ other ∷ []) ≡ decided_as true 1) × (decide 128 ECHO 5 1 (other ∷ holder ∷ []) ≡ decided_as true 2)
unfolding holder other decide set_of holds bit
order_decides_rows_read = (refl, refl)
