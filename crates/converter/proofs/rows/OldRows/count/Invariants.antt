-- `rows::OldRows::count` meets its contract: what is counted so far and the holders among the rows left make up all.
use mathlib.Core.Path.{◌≡◌}
use Prim.Native.Nat.{◌+◌, ◌≤◌}
use lib.ListN.{drop}
use Rattle.evidence.specs.Holders.{holders}
use Rattle.rules.specs.Describe.{window}
use Rattle.converter.proofs.rows.OldRows.count.Given as goal

abbrev pub invariant-loop-k : goal.invariant-loop-k
invariant-loop-k l =
    (l.found + holders window l.kind l.t (drop l.k l.self) ≡ holders window l.kind l.t l.self)
    × (l.found ≤ l.k)
