-- `list::Rows::holds` meets its contract: a tick above the top or below the window is not held, and else its bit tells.
use mathlib.Core.Path.{◌≡◌, sym, ap, ◌∙◌}
use Prim.Native.Nat.{ℕ, ◌-◌}
use native.Mathlib.Omega.{arith}
use borrow.Author.Tests.{le-ltb}
use lib.Dec.{eqb}
use lib.ListN.{get_or}
use Rattle.sets.specs.Sets.{mask_bytes}
use Rattle.sets.specs.Ticks.{Held, bit}
use Rattle.sets.proofs.Members.{holds_at, holds_above, holds_below}
use Rattle.evidence.specs.Rows.{no_row, set_of, set_at}
use Rattle.evidence.proofs.Lists.{set_is}
use Rattle.evidence.proofs.list.Rows.holds.Goals.{After-word-top}
use Rattle.evidence.proofs.list.Rows.holds.Goals as goal

pub word-top-requires : goal.word-top-requires
word-top-requires c = omega (arith, c.set_place-place.ensures.1, c.row-row.ensures.size)

pub bit_in-requires : goal.bit_in-requires
bit_in-requires c = (omega (arith, c.set_place-place.ensures.1, c.row-row.ensures.size), omega arith)

-- the set in hand
its : (c : After-word-top) →
    set_at mask_bytes c.row-row.result.now c.set_place-place.result ≡ set_of c.args.kind (get_or c.args.self.now c.args.k no_row)
its c = set_is mask_bytes c.row-row.result.now c.args.kind c.set_place-place.result _ c.row-row.ensures.row c.set_place-place.ensures.0

top : (c : After-word-top) → c.word-top.result ≡ (set_of c.args.kind (get_or c.args.self.now c.args.k no_row)).top
unfolding set_at
top c = c.word-top.ensures ∙ ap (λ (s : Held). s.top) (its c)

pub returns-then-top-t : goal.returns-then-top-t
returns-then-top-t c =
    let s = set_of c.args.kind (get_or c.args.self.now c.args.k no_row) in
    let top = top (goal.at.returns-then-top-t c).After-word-top in
    sym (ap (λ (h : ℕ). eqb h 1) (holds_above c.args.w s c.args.t (omega (arith, top))))

pub returns-then-d-w : goal.returns-then-d-w
unfolding set_at
returns-then-d-w c =
    let here = (goal.at.returns-then-d-w c).After-word-top in
    let s = set_of c.args.kind (get_or c.args.self.now c.args.k no_row) in
    let d = c.word-top.result - c.args.t in
    c.bit_in.ensures
    ∙ ap (λ (s : Held). eqb (bit s.mask d) 1) (its here)
    ∙ sym (ap (λ (h : ℕ). eqb h 1) (holds_at c.args.w s c.args.t d (omega (arith, top here)) (omega arith)))

pub returns-else-d-w : goal.returns-else-d-w
returns-else-d-w c =
    let s = set_of c.args.kind (get_or c.args.self.now c.args.k no_row) in
    let top = top (goal.at.returns-else-d-w c).After-word-top in
    le-ltb (c.word-top.result - c.args.t) c.args.w c.if-d-w.false
    ∙ sym (ap (λ (h : ℕ). eqb h 1) (holds_below c.args.w s c.args.t (omega (arith, top))))
