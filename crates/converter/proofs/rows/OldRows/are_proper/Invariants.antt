-- `rows::OldRows::are_proper` meets its contract: all rows are proper where the rows left are.
use mathlib.Core.Path.{◌≡◌}
use lib.ListN.{drop}
use Rattle.evidence.specs.Rows.{proper_rows}
use Rattle.rules.specs.Describe.{window, last_tick}
use Rattle.converter.proofs.rows.OldRows.are_proper.Given as goal

abbrev pub invariant-loop-k : goal.invariant-loop-k
invariant-loop-k l = proper_rows window last_tick l.self ≡ proper_rows window last_tick (drop l.k l.self)
