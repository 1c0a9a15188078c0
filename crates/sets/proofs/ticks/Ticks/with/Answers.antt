-- `Ticks::with` meets its contract: its four ways are the four cases of an insertion.
use mathlib.Core.Path.{sym, ap, ◌∙◌}
use Prim.Native.Nat.{ℕ, ◌-◌, ◌*◌, ◌%◌, ◌^◌}
use native.Mathlib.Omega.{arith}
use Rattle.sets.specs.Ticks.{marked}
use Rattle.sets.specs.Sets.{mask_bits, mask_by, held_by}
use Rattle.sets.proofs.Masks.{cut_wide, raised_marked}
use Rattle.sets.proofs.Members.{insert_near, insert_far, insert_in, insert_late}
use Rattle.sets.proofs.ticks.Ticks.with.Goals as goal

pub returns-then-up-w : goal.returns-then-up-w
returns-then-up-w c =
    let start = c in
    let a = start.args in
    let mask = mask_by a.self.mask in
    let up = a.t - a.self.top in
    let cut =
    c.cut.ensures ∙ ap (λ (x : ℕ). x % 2 ^ a.w) c.up.ensures
    ∙ cut_wide mask_bits a.w (mask * 2 ^ up) start.requires.1 in
    let new = c.marked.ensures ∙ ap (λ (x : ℕ). marked x 0) cut ∙ raised_marked a.w mask up start.requires.0 (omega arith) in
    ap (λ (x : ℕ). record { top = a.t; mask = x }) new
    ∙ sym (insert_near a.w (held_by a.self) a.t (omega arith) (omega arith))

pub returns-else-up-w : goal.returns-else-up-w
returns-else-up-w c =
    let a = c.args in
    ap (λ (x : ℕ). record { top = a.t; mask = x }) c.from.ensures
    ∙ sym (insert_far a.w (held_by a.self) a.t c.if-top-t.true c.if-up-w.false)

pub returns-then-down-w : goal.returns-then-down-w
returns-then-down-w c =
    let a = c.args in
    ap (λ (x : ℕ). record { top = a.self.top; mask = x }) c.marked-then-down-w.ensures
    ∙ sym (insert_in a.w (held_by a.self) a.t (omega arith) (omega arith))

pub returns-else-down-w : goal.returns-else-down-w
returns-else-down-w c =
    let a = c.args in
    sym (insert_late a.w (held_by a.self) a.t (omega arith) c.requires.0)
