-- The bytes read so far are a field.
use mathlib.Core.Path.{◌≡◌}
use Rattle.fields.specs.Field.{field}
use Rattle.fields.proofs.field.read.Given as goal

abbrev pub invariant-loop-k : goal.invariant-loop-k
invariant-loop-k g l = (l.v ≡ field l.k l.b l.i)
