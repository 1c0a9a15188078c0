-- Questions to a list of rows (01, "One delivery": "held by m" means by at least m distinct serials). They look at rows through
-- `holds` alone, and each row counts once, so the order of rows decides nothing (proofs/Orders.antt), and proofs/Greatest.antt
-- shows that the greatest tick is what its name says.
use Rattle.std.specs.Prelude.{ℕ, Option, Some, None, zero, suc, ◌+◌, ◌-◌, max, List, [], ◌∷◌, Bool, cond, ◌&&◌, leb, eqb}
use Rattle.sets.specs.Ticks.{Held, empty, holds}
use Rattle.evidence.specs.Rows.{Row, set_of}

-- how many rows hold (kind, t)
unfoldable pub holders : ℕ → ℕ → ℕ → List Row → ℕ
holders w kind t [] = 0
holders w kind t (row ∷ rows) = holds w (set_of kind row) t + holders w kind t rows

-- the set of a kind held under a serial: that of the row with this serial, of which a sound image has one at most; empty where none has it
unfoldable pub held_under : List Row → ℕ → ℕ → Held
held_under [] serial kind = empty
held_under (row ∷ rows) serial kind = cond (eqb row.serial serial) (set_of kind row) (held_under rows serial kind)

-- ---- the greatest tick held by m; as tick + 1, with 0 for none, so that no tick has to stand for "none"

-- the first of the c numbers x, x - 1, .. that is above low and whose tick, one less, passes; else 0
unfoldable pub first_down : (ℕ → Bool) → ℕ → ℕ → ℕ → ℕ
first_down passes low zero x = 0
first_down passes low (suc c) x =
    let next = first_down passes low c (x - 1) in
    cond (leb x low) 0 (cond (passes (x - 1)) x next)

-- a tick that this set holds and m of all rows hold
abbrev pub shared : ℕ → ℕ → ℕ → List Row → Held → ℕ → Bool
shared w kind m all s t = eqb (holds w s t) 1 && leb m (holders w kind t all)

-- the greatest tick of one set, at least low, that m of all rows hold
unfoldable pub best_of : ℕ → ℕ → ℕ → ℕ → List Row → Held → ℕ
best_of w kind m low all s = first_down (shared w kind m all s) low w (s.top + 1)

unfoldable pub best_among : ℕ → ℕ → ℕ → ℕ → List Row → List Row → ℕ
best_among w kind m low all [] = 0
best_among w kind m low all (row ∷ rows) = max (best_of w kind m low all (set_of kind row)) (best_among w kind m low all rows)

unfoldable pub greatest : ℕ → ℕ → ℕ → ℕ → List Row → ℕ
greatest w kind m low rows = best_among w kind m low rows rows

-- what an answer of the search says
abbrev pub tick_told : Option ℕ → ℕ
tick_told (Some t) = suc t
tick_told None = 0

-- ---- the place of a serial; as place + 1, with 0 for nowhere

abbrev pub one_on : ℕ → ℕ
one_on zero = 0
one_on (suc k) = suc (suc k)

unfoldable pub place_of : ℕ → List Row → ℕ
place_of serial [] = 0
place_of serial (row ∷ rows) = cond (eqb row.serial serial) 1 (one_on (place_of serial rows))

-- what an answer of the search says
abbrev pub place_told : Option ℕ → ℕ
place_told (Some k) = suc k
place_told None = 0
