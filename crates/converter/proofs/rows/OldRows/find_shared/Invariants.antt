-- `rows::OldRows::find_shared` meets its contract: the search that is left finds what the whole search would. What is left of the mask has
-- the bits of the ticks from the one in hand down, which is the lowest bit; so where nothing is left of it, the search would find nothing.
use mathlib.Core.Path.{◌≡◌}
use mathlib.Core.List.{List}
use Prim.Native.Nat.{ℕ, ◌+◌, ◌-◌, ◌/◌, ◌^◌, ◌≤◌}
use lib.ListN.{get_or}
use Rattle.sets.specs.Ticks.{Held}
use Rattle.evidence.specs.Holders.{first_down, shared, best_of}
use Rattle.evidence.specs.Rows.{Row, set_of}
use Rattle.rules.specs.Describe.{window}
use Rattle.evidence.specs.Rows.{no_row}
use Rattle.converter.proofs.rows.OldRows.find_shared.Given as goal

-- the set that is gone through
abbrev pub first : ℕ → List Row → Held
first kind rows = set_of kind (get_or rows 0 no_row)

-- what the search finds from x down, where d ticks are looked at
abbrev pub finds : ℕ → ℕ → ℕ → List Row → Held → ℕ → ℕ → ℕ
finds kind m low all s d x = first_down (shared window kind m all s) low (window - d) x

abbrev pub invariant-loop-x : goal.invariant-loop-x
invariant-loop-x l =
    let s = first l.kind l.self in
    (finds l.kind l.m l.low l.self s (s.top + 1 - l.x) l.x ≡ best_of window l.kind l.m l.low l.self s)
    × (l.x ≤ s.top + 1)
    × (l.rest ≡ s.mask / 2 ^ (s.top + 1 - l.x))

abbrev pub decreases-loop-x : goal.decreases-loop-x
decreases-loop-x l = l.rest
