-- `list::Rows::find` meets its contract: the place among all rows is the place among the rows left, as many further on as were passed.
use mathlib.Core.Path.{◌≡◌}
use lib.ListN.{drop}
use Rattle.evidence.specs.Holders.{place_of}
use Rattle.evidence.proofs.Columns.{further}
use Rattle.evidence.proofs.list.Rows.find.Given as goal

abbrev pub invariant-loop-k : goal.invariant-loop-k
invariant-loop-k l = place_of l.serial l.self ≡ further l.k (place_of l.serial (drop l.k l.self))
