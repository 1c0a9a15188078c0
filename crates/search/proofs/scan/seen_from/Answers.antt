-- `scan::seen_from` meets its contract: the lowest word goes up, or the word begins further down, or all is too far away to be seen.
use mathlib.Core.Path.{ap, ◌∙◌}
use Prim.Native.Nat.{ℕ, ◌+◌, ◌-◌, ◌*◌, ◌/◌, ◌%◌, ◌^◌}
use native.Mathlib.Omega.{arith}
use Rattle.sets.specs.Ticks.{bit}
use Rattle.sets.specs.Sets.{word_bits, held_by}
use Rattle.search.proofs.Shows.{shown_up, shown_down, shown_above, shown_below}
use Rattle.search.proofs.scan.seen_from.Goals as goal

pub returns-then-up-lt-WORD : goal.returns-then-up-lt-WORD
returns-then-up-lt-WORD c t p q =
    let a = c.args in
    let x = a.x in
    let word =
    c.word_at.ensures ∙ ap (λ (mask : ℕ). mask / 2 ^ 0 % 2 ^ word_bits) c.cut-mask.ensures in
    ap (λ (m : ℕ). bit (m * 2 ^ (x - (a.s.top + 1)) % 2 ^ word_bits) (x - 1 - t)) word
    ∙ shown_up a.w (held_by a.s) x (omega arith) t p q

pub returns-else-up-lt-WORD : goal.returns-else-up-lt-WORD
returns-else-up-lt-WORD c =
    let a = c.args in
    shown_above a.w (held_by a.s) a.x (omega arith)

pub returns-then-down-lt-BITS : goal.returns-then-down-lt-BITS
returns-then-down-lt-BITS c t p q =
    let a = c.args in
    let x = a.x in
    let word =
    c.word_at-then-down-lt-BITS.ensures
    ∙ ap (λ (mask : ℕ). mask / 2 ^ (a.s.top + 1 - x) % 2 ^ word_bits) c.cut-mask.ensures in
    ap (λ (m : ℕ). bit m (x - 1 - t)) word ∙ shown_down a.w (held_by a.s) x (omega arith) t p q

pub returns-else-down-lt-BITS : goal.returns-else-down-lt-BITS
returns-else-down-lt-BITS c =
    let a = c.args in
    shown_below a.w (held_by a.s) a.x (omega arith)
