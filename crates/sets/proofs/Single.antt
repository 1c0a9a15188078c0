-- Each contract that speaks of a mask or a set allows one answer: the number that a mask means determines the mask, and the set that
-- a struct means determines the struct.
-- Assumes nothing.
use mathlib.Core.Path.{◌≡◌}
use Rattle.sets.specs.Sets.{mask_by, held_by}
use Rattle.sets.specs.declared.mask.Mask.{Mask}
use Rattle.sets.specs.declared.ticks.Ticks.{Ticks}

pub one_mask : (a b : Mask) → mask_by a ≡ mask_by b → a ≡ b
one_mask a b e = λ d. record { bits = e d }

pub one_set : (a b : Ticks) → held_by a ≡ held_by b → a ≡ b
one_set a b e = λ d. record { top = (e d).top; mask = one_mask a.mask b.mask (λ d. (e d).mask) d }
