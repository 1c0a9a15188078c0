-- `Column::tally` meets its contract: what is counted is what stands in the lines passed, and each of these has marked its bucket, so
-- that a line whose bucket is not marked has no twin before it.
use mathlib.Core.Path.{◌≡◌}
use lib.ListN.{length, take}
use Rattle.forms.specs.Column.{count, twins}
use Rattle.forms.specs.Tally.{buckets}
use Rattle.forms.proofs.Columns.{Met}
use Rattle.forms.proofs.column.Column.tally.Given as goal

abbrev pub invariant-loop-line : goal.invariant-loop-line
invariant-loop-line l =
    let passed = take l.line l.self in
    (l.zeros ≡ count 0 passed) × (l.same ≡ count l.x passed) × (l.twins ≡ twins passed) × (length l.met ≡ buckets) × Met l.met passed
