-- The roster: a fault number f, the own serial and a list of serials, and the numbers 2, 21, 3, 4 and 5 that judge it, in this order
-- (01, "Numbers given back", and 02, A7). The form reader, the form writer and the image of a node are judged by this one definition.
-- It looks at the list through counts alone, so the order of lines decides nothing: all zeros come before any twin.
use Rattle.std.specs.Prelude.{ℕ, ◌+◌, ◌-◌, ◌*◌, ◌/◌, List, ◌∷◌, cond, ◌||◌, length, ltb, eqb}
use Rattle.forms.specs.Column.{count, twins}

-- the greatest n (01, "Limits")
abbrev pub most_lines : ℕ
most_lines = 32

-- the greatest f that n lines allow (02, A7): a third of n - 1, rounded down
abbrev pub full_faults : ℕ → ℕ
full_faults n = (n - 1) / 3

-- the first of 2 and 21 that applies to n and f, else what comes behind. A correction is judged by these two as well (02, A13)
abbrev pub limits_then : ℕ → ℕ → ℕ → ℕ
limits_then n f behind =
    cond (ltb n 1 || ltb most_lines n || ltb n (3 * f + 1)) 2
    (cond (ltb f (full_faults n)) 21
    behind)

-- the first of 2, 21, 3, 4 and 5 that applies, or 0
unfoldable pub roster_number : ℕ → ℕ → List ℕ → ℕ
roster_number f own serials =
    cond (ltb (length serials) 1 || ltb most_lines (length serials) || ltb (length serials) (3 * f + 1)) 2
    (cond (ltb f (full_faults (length serials))) 21
    (cond (ltb 0 (count 0 (own ∷ serials))) 3
    (cond (ltb 0 (twins serials)) 4
    (cond (eqb (count own serials) 0) 5
    0))))
