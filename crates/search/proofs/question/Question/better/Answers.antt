-- `Question::better` of greatest.rt meets its contract: the search that is left finds what the whole search would.
use mathlib.Core.Path.{◌≡◌, sym, ap, ap₂, ◌∙◌}
use mathlib.Core.Bool.{Bool, false, ◌&&◌, and-false}
use Prim.Native.Nat.{◌+◌, ◌-◌}
use native.Mathlib.Omega.{arith}
use lib.Dec.{eqb, leb}
use Rattle.sets.specs.Sets.{held_by}
use Rattle.sets.specs.Ticks.{holds}
use Rattle.evidence.specs.Holders.{holders, first_down, shared, best_of}
use Rattle.evidence.proofs.Earliest.{full_told}
use Rattle.evidence.proofs.Down.{down_stop, down_end, down_hit, down_miss}
use Rattle.search.proofs.question.Question.better.Goals.{Joined-else-holds}
use Rattle.search.proofs.question.Question.better.Goals.{else-holds-via-then-holds+else-decide, else-holds-via-else-holds}
use Rattle.search.proofs.question.Question.better.Goals as goal

pub loop-d-init : goal.loop-d-init
unfolding best_of
loop-d-init c =
    let a = c.args in
    let ask = c.args.self.now in
    ap₂ (first_down (shared ask.w ask.kind a.m ask.rows.now (held_by a.s)) a.low) {x = ask.w} {y = ask.w - 0} (omega arith) (omega arith)

pub returns-then-x-low : goal.returns-then-x-low
returns-then-x-low c =
    let a = c.args in
    let ask = c.args.self.now in
    let l = c.loop-d in
    let goes = shared ask.w ask.kind a.m ask.rows.now (held_by a.s) in
    omega (arith, l.invariant, down_end goes a.low (ask.w - l.d) (a.s.top + 1 - l.d) (omega (arith, c.saturating_sub-x.ensures)))

pub returns-then-decide : goal.returns-then-decide
returns-then-decide c =
    let a = c.args in
    let ask = c.args.self.now in
    let l = c.loop-d in
    let x = c.saturating_sub-x.result in
    let goes = shared ask.w ask.kind a.m ask.rows.now (held_by a.s) in
    let held = sym c.holds.ensures ∙ c.if-holds.true in
    let enough = full_told ask.w ask.kind (x - 1) a.m ask.rows.now c.decide.ensures ∙ c.if-decide.true in
    let hit = down_hit goes a.low (ask.w - l.d) x (omega arith) (omega arith) (ap₂ (λ (p q : Bool). p && q) held enough) in
    omega (arith, l.invariant, hit, ap (first_down goes a.low (ask.w - l.d)) c.saturating_sub-x.ensures)

-- the tick in hand is not it: the set does not hold it, or too few rows do
missed : (c : Joined-else-holds) →
    let a = c.args in
    let ask = c.args.self.now in
    shared ask.w ask.kind a.m ask.rows.now (held_by a.s) (c.saturating_sub-x.result - 1) ≡ false
missed c =
    let a = c.args in
    let ask = c.args.self.now in
    let t = c.saturating_sub-x.result - 1 in
    let own = eqb (holds ask.w (held_by a.s) t) 1 in
    elim c.else-holds.branch [
      | else-holds-via-then-holds+else-decide w ↦
          ap (λ (q : Bool). own && q) (full_told ask.w ask.kind t a.m ask.rows.now w.decide.ensures ∙ w.if-decide.false) ∙ and-false own
      | else-holds-via-else-holds w ↦
          ap (λ (p : Bool). p && leb a.m (holders ask.w ask.kind t ask.rows.now)) (sym c.holds.ensures ∙ w.if-holds.false)
    ]

pub loop-d-preserved : goal.loop-d-preserved
loop-d-preserved c =
    let a = c.args in
    let ask = c.args.self.now in
    let l = c.loop-d in
    let x = c.saturating_sub-x.result in
    let goes = shared ask.w ask.kind a.m ask.rows.now (held_by a.s) in
    let miss = down_miss goes a.low (ask.w - l.d) x (omega arith) (omega arith) (missed c) in
    l.invariant ∙ ap (first_down goes a.low (ask.w - l.d)) (sym c.saturating_sub-x.ensures) ∙ miss
    ∙ ap₂ (first_down goes a.low) {x = ask.w - l.d - 1} {y = ask.w - (l.d + 1)} (omega arith) (omega (arith, c.saturating_sub-x.ensures))

pub returns : goal.returns
returns c =
    let a = c.args in
    let ask = c.args.self.now in
    let l = c.loop-d in
    let goes = shared ask.w ask.kind a.m ask.rows.now (held_by a.s) in
    omega (arith, l.invariant, down_stop goes a.low (ask.w - l.d) (a.s.top + 1 - l.d) (omega arith))
