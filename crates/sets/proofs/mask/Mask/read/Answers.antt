-- `Mask::read` meets its contract: its words are the two halves of the field.
use native.Mathlib.Omega.{arith}
use Rattle.fields.proofs.Fields.{field_join}
use Rattle.sets.specs.Sets.{word_bytes}
use Rattle.sets.proofs.mask.Mask.read.Goals as goal

pub returns : goal.returns
returns c =
    let a = c.args in
    omega (arith, field_join word_bytes word_bytes a.b.now a.i)
