-- `Mask::bit` meets its contract: what it computes is the definition of a bit.
use mathlib.Core.Path.{refl}
use Rattle.sets.specs.Ticks.{bit}
use Rattle.sets.proofs.mask.Mask.bit.Goals as goal

pub returns : goal.returns
unfolding bit
returns c = refl
