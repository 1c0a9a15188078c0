-- `list::Rows::are_proper` meets its contract: all rows are proper where the rows left are.
use mathlib.Core.Path.{◌≡◌}
use lib.ListN.{drop}
use Rattle.evidence.specs.Rows.{proper_rows}
use Rattle.evidence.proofs.list.Rows.are_proper.Given as goal

abbrev pub invariant-loop-k : goal.invariant-loop-k
invariant-loop-k l = proper_rows l.w l.last l.self ≡ proper_rows l.w l.last (drop l.k l.self)
