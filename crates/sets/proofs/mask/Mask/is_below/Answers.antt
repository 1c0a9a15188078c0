-- `Mask::is_below` meets its contract: what is left of a word without its low bits is what is left of the mask.
use mathlib.Core.Path.{◌≡◌, sym, ap, ◌∙◌}
use Prim.Native.Nat.{ℕ, ◌+◌, ◌-◌, ◌/◌, ◌^◌}
use Rattle.std.proofs.Common.{pow-add}
use native.Mathlib.Nat.{div-div-eq-div-mul}
use native.Mathlib.Omega.{arith}
use lib.Dec.{eqb}
use Rattle.sets.specs.Sets.{word_bits, mask_by}
use Rattle.sets.proofs.Masks.{below_as_shifted}
use Rattle.sets.proofs.mask.Mask.is_below.Goals as goal

pub returns-then-k-ge-WORD : goal.returns-then-k-ge-WORD
returns-then-k-ge-WORD c =
    let a = c.args in
    let m = mask_by a.self in
    let rest = a.k - word_bits in
    let high : c.word_at.result ≡ m / 2 ^ word_bits = omega arith in
    let whole : word_bits + rest ≡ a.k = omega arith in
    let left =
    ap (λ (x : ℕ). x / 2 ^ rest) high ∙ div-div-eq-div-mul m (2 ^ word_bits) (2 ^ rest)
    ∙ ap (λ (x : ℕ). m / x) (sym (pow-add 2 word_bits rest) ∙ ap (λ (x : ℕ). 2 ^ x) whole) in
    ap (λ (x : ℕ). eqb x 0) left ∙ below_as_shifted m a.k

pub returns-then-word_at-eq0 : goal.returns-then-word_at-eq0
returns-then-word_at-eq0 c =
    let a = c.args in
    let m = mask_by a.self in
    let low : c.word_at-then-word_at-eq0.result ≡ m = omega arith in
    ap (λ (x : ℕ). eqb (x / 2 ^ a.k) 0) low ∙ below_as_shifted m a.k
