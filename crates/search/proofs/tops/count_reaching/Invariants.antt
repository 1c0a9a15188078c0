-- `tops::count_reaching` meets its contract: what is counted so far and the tops among the rows left make up all.
use mathlib.Core.Path.{◌≡◌}
use Prim.Native.Nat.{◌+◌, ◌≤◌}
use lib.Dec.{leb}
use lib.ListN.{drop}
use Rattle.search.specs.Tops.{many_tops}
use Rattle.search.proofs.tops.count_reaching.Given as goal

abbrev pub invariant-loop-k : goal.invariant-loop-k
invariant-loop-k l =
    (l.found + many_tops (leb l.low) l.kind (drop l.k l.rows) ≡ many_tops (leb l.low) l.kind l.rows) × (l.found ≤ l.k)
