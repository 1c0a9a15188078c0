-- `column::bucket` meets its contract: a remainder is below what divides.
use mathlib.Core.Path.{refl}
use native.Mathlib.Omega.{arith}
use Rattle.forms.specs.Tally.{bucket_of}
use Rattle.forms.proofs.column.bucket.Goals as goal

pub returns : goal.returns
unfolding bucket_of
returns c = (refl, omega arith)
