-- `Mask::marked` meets its contract: a bit or'ed in is a bit set.
use mathlib.Core.Path.{ap, ◌∙◌}
use lib.Bits.{bit_or}
use Rattle.sets.specs.Sets.{mask_bits}
use Rattle.sets.proofs.Masks.{lone, or_marked}
use Rattle.sets.proofs.mask.Mask.marked.Goals as goal

pub returns : goal.returns
returns c =
    let a = c.args in
    ap (bit_or a.self.bits) (lone mask_bits a.d c.requires) ∙ or_marked a.self.bits a.d
