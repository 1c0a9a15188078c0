-- `Mask::is_odd` meets its contract: bit 0 stands in the low word.
use mathlib.Core.Path.{◌≡◌, ap, ◌∙◌}
use Prim.Native.Nat.{ℕ, ◌%◌}
use native.Mathlib.Omega.{arith}
use lib.Dec.{eqb}
use Rattle.sets.specs.Sets.{mask_by}
use Rattle.sets.proofs.Masks.{odd_alone}
use Rattle.sets.proofs.mask.Mask.is_odd.Goals as goal

pub returns-then-low-gt0 : goal.returns-then-low-gt0
returns-then-low-gt0 c =
    let word = c.word_at-low.result in
    let same : word % 2 ≡ mask_by c.args.self % 2 = omega (arith, c.word_at-low.ensures) in
    odd_alone word c.if-low-gt0.true ∙ ap (λ (r : ℕ). eqb r 1) same
