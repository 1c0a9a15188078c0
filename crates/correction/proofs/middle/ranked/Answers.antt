-- `middle::ranked` meets its contract: the loop goes from the last reading to the first, and holds the greatest of those from its place on
-- that have at most k of all below them.
use Rattle.std.proofs.Common.{◌≡◌, ℕ, ◌-◌, ◌<◌, ◌≤◌, Bool, true, false, cond, ◌&&◌, leb, List, length, get_or, drop, ℤ, sym, refl, ap, ◌∙◌, ap₂, arith, w64, to_z, of_z, le-leb}
use Rattle.std.proofs.lemmas.Int.{ints}
use lib.Signed.{lt_z}
use borrow.Author.Tests.{lt-leb}
use Rattle.correction.specs.Counter.{difference, differences}
use Rattle.correction.specs.Middle.{below, greatest_of}
use Rattle.correction.proofs.Steps.{greatest_end, greatest_step}
use Rattle.correction.proofs.middle.ranked.Goals.{else-best-d-via-then-best-d+else-below-k, else-best-d-via-else-best-d}
use Rattle.correction.proofs.middle.ranked.Goals as goal

-- of all differences at most k are below d
abbrev kept : ℕ → List ℕ → ℕ → ℤ → Bool
kept expected readings k d = leb (below d (differences expected readings)) k

-- one reading more is looked at
looked : (e k : ℕ) (readings : List ℕ) (place : ℕ) → 0 < place → place ≤ length readings → (best : ℤ) →
    best ≡ greatest_of (kept e readings k) (differences e (drop place readings)) →
    let d = difference (get_or readings (place - 1) 0) e in
    (s t : Bool) → lt_z best d ≡ s → kept e readings k d ≡ t →
    cond (s && t) d best ≡ greatest_of (kept e readings k) (differences e (drop (place - 1) readings))
looked e k readings place p q best b s t u v =
    let keeps = kept e readings k in
    let d = difference (get_or readings (place - 1) 0) e in
    ap₂ (λ (u v : Bool). cond (u && v) d best) (sym u) (sym v)
    ∙ ap (λ (z : ℤ). cond (lt_z z d && keeps d) d z) b
    ∙ sym (greatest_step e readings place p q keeps)

pub loop-place-init : goal.loop-place-init
loop-place-init c =
    let a = c.args in
    sym (greatest_end a.expected a.readings.now (kept a.expected a.readings.now a.k))

pub loop-place-preserved-then-below-k : goal.loop-place-preserved-then-below-k
loop-place-preserved-then-below-k c =
    let a = c.args in
    let l = c.loop-place in
    let all = differences a.expected a.readings.now in
    let best = to_z w64 l.best-bits in
    let read : to_z w64 (of_z w64 c.difference-d.result) ≡ difference (get_or a.readings.now (l.place - 1) 0) a.expected =
    omega (arith, ints, c.difference-d.ensures) in
    let above = ap (λ (z : ℤ). lt_z best z) (sym read) ∙ c.if-best-d.true in
    let few = ap (λ (z : ℤ). leb (below z all) a.k) (sym read) ∙ ap (λ (n : ℕ). leb n a.k) (sym c.below.ensures) ∙ le-leb _ _ c.if-below-k.true in
    read ∙ looked a.expected a.k a.readings.now l.place c.loop-place-test.true l.auto.place best l.invariant true true above few

pub loop-place-preserved : goal.loop-place-preserved
loop-place-preserved c =
    let a = c.args in
    let l = c.loop-place in
    let all = differences a.expected a.readings.now in
    let best = to_z w64 l.best-bits in
    let read : to_z w64 (of_z w64 c.difference-d.result) ≡ difference (get_or a.readings.now (l.place - 1) 0) a.expected =
    omega (arith, ints, c.difference-d.ensures) in
    let look = looked a.expected a.k a.readings.now l.place c.loop-place-test.true l.auto.place best l.invariant in
    elim c.else-best-d.branch [
      | else-best-d-via-then-best-d+else-below-k w ↦
          look true false (ap (λ (z : ℤ). lt_z best z) (sym read) ∙ w.if-best-d.true)
          (ap (λ (z : ℤ). leb (below z all) a.k) (sym read) ∙ ap (λ (n : ℕ). leb n a.k) (sym w.below.ensures) ∙ lt-leb _ _ w.if-below-k.false)
      | else-best-d-via-else-best-d w ↦
          look false _ (ap (λ (z : ℤ). lt_z best z) (sym read) ∙ w.if-best-d.false) refl
    ]
