-- `rows::OldRows::is_any_shared` meets its contract: a tick that m rows hold is held by none of the rows that show nothing, so it is held
-- by m of the rows left, which are all that a search has to count; and fewer than m rows hold none.
use mathlib.Core.List.{List}
use Prim.Native.Nat.{ℕ, ◌≤◌}
use lib.ListN.{drop}
use Rattle.evidence.specs.Holders.{holders}
use Rattle.evidence.specs.Rows.{Row}
use Rattle.rules.specs.Describe.{window}
use Rattle.converter.proofs.rows.OldRows.is_any_shared.Given as goal

-- ---- the rows left, of all
-- a tick that m rows hold is held by as many of those left
abbrev Left : ℕ → ℕ → ℕ → List Row → List Row → Type 0
Left kind m low all rest =
    (t : ℕ) → low ≤ t → m ≤ holders window kind t all → holders window kind t all ≤ holders window kind t rest

-- and none is held by more of those left
abbrev pub Part : ℕ → List Row → List Row → Type 0
Part kind all rest = (t : ℕ) → holders window kind t rest ≤ holders window kind t all

-- ---- the loop
abbrev pub invariant-loop-k : goal.invariant-loop-k
invariant-loop-k l = Left l.kind l.m l.low l.self (drop l.k l.self) × Part l.kind l.self (drop l.k l.self)
