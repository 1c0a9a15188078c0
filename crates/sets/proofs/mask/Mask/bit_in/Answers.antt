-- `Mask::bit_in` meets its contract: the byte that is read has the bit.
use mathlib.Core.Path.{sym, ap}
use Prim.Native.Nat.{ℕ}
use lib.Dec.{eqb}
use Rattle.sets.specs.Ticks.{bit}
use Rattle.sets.specs.Sets.{mask_bytes}
use Rattle.sets.proofs.Masks.{bit_in_byte}
use Rattle.sets.proofs.mask.Mask.bit_in.Goals as goal

pub returns : goal.returns
unfolding bit
returns c =
    let a = c.args in
    sym (ap (λ (x : ℕ). eqb x 1) (bit_in_byte mask_bytes a.b.now a.i a.d (λ k. (c.type_inv.b k).fits) c.requires.1))
