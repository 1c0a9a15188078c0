-- `Question::walk_down` of greatest.rt meets its contract: look by look no tick that enough rows hold is left above x.
use borrow.Author.Rules.{rules}
use mathlib.Core.Path.{◌≡◌, sym, ap₂, subst, ◌∙◌}
use mathlib.Core.List.{List}
use Prim.Native.Nat.{ℕ, ◌+◌, ◌-◌, ◌≤◌, max}
use native.Mathlib.Omega.{arith}
use lib.ListN.{take}
use Rattle.evidence.specs.Holders.{best_of}
use Rattle.evidence.specs.Rows.{Row}
use Rattle.search.specs.Order.{places, reaching}
use Rattle.search.specs.Tops.{CoveredFrom}
use Rattle.search.specs.Scan.{view}
use Rattle.search.proofs.Found.{NoneFrom, none_covered, none_left, looked_at, Looked, none_seen, none_better, found}
use Rattle.search.proofs.Orders.{reach_down}
use Rattle.search.proofs.question.Question.walk_down.Goals.{After-pass-ended, After-scan-held, then-held-ne0+in_default, else-held-ne0}
use Rattle.search.proofs.question.Question.walk_down.Goals as goal

-- those that have ended above the tick in hand are told by the order
passed : (c : After-pass-ended) →
    let ask = c.args.self.now in
    c.pass-ended.result ≡ reaching ask.kind (take places ask.rows.now) (c.loop-x.x - 1 + ask.w)
passed c =
    let ask = c.args.self.now in
    c.pass-ended.ensures (reaching ask.kind (take places ask.rows.now)) places c.requires c.loop-x.invariant.2

-- and no fewer have ended above a tick further down
behind : (c : After-pass-ended) (z : ℕ) → z ≤ c.loop-x.x →
    let ask = c.args.self.now in
    c.pass-ended.result ≤ reaching ask.kind (take places ask.rows.now) (z - 1 + ask.w)
behind c z p =
    let ask = c.args.self.now in
    omega (arith, passed c, reach_down ask.kind (z - 1 + ask.w) (c.loop-x.x - 1 + ask.w) (take places ask.rows.now) (omega arith))

pub covered_from-from-requires : goal.covered_from-from-requires
covered_from-from-requires c =
    (c.loop-x.invariant.1, omega (arith, c.max-enough.ensures), record { some = omega arith; order = c.requires; passed = passed c })

-- ---- too few windows cover the tick in hand

pub loop-x-preserved-then-from-x : goal.loop-x-preserved-then-from-x
loop-x-preserved-then-from-x c =
    let pass = (goal.at.loop-x-preserved-then-from-x c).After-pass-ended in
    let a = c.args in
    let ask = c.args.self.now in
    let l = c.loop-x in
    let from = c.covered_from-from in
    let enough : c.max-enough.result ≡ max 1 a.m = omega arith in
    let covered = subst (λ (k : ℕ). CoveredFrom ask.w ask.kind k l.x ask.rows.now from.result) enough from.ensures in (
      none_covered ask.w ask.kind a.m a.low ask.rows.now l.x from.result l.invariant.0 covered,
      omega arith,
      behind pass from.result (omega arith),
    )

-- ---- enough do: their masks are looked at

-- what the look shows; the counters are not asked for more than is enough
looked : (c : After-scan-held) →
    let a = c.args in
    let ask = c.args.self.now in
    Looked ask.w ask.kind a.m a.low ask.rows.now c.loop-x.x c.scan-held.result
looked c =
    record {
      above = c.loop-x.invariant.0;
      positive = omega arith;
      small = search rules;
      shown = λ t p q r. c.scan-held.ensures t p q (omega arith);
    }

-- what is found among the ticks looked at
best : (w kind m low x : ℕ) (rows : List Row) {enough mask held told : ℕ}
    → told ≡ best_of w kind enough low rows (looked_at x mask)
    → enough ≡ max 1 m
    → mask ≡ held
    → told ≡ best_of w kind (max 1 m) low rows (looked_at x held)
best w kind m low x rows told enough one_word =
    told ∙ ap₂ (λ (n mask : ℕ). best_of w kind n low rows (looked_at x mask)) enough one_word

pub returns-in-Some : goal.returns-in-Some
returns-in-Some c =
    let look = looked (goal.at.returns-in-Some c).After-scan-held in
    let a = c.args in
    let ask = c.args.self.now in
    found look c.in-Some.t (best ask.w ask.kind a.m a.low c.loop-x.x ask.rows.now c.in-Some.ensures (omega arith) c.from.ensures)

pub loop-x-preserved : goal.loop-x-preserved
loop-x-preserved c =
    let at = goal.at.loop-x-preserved c in
    let look = looked at.After-scan-held in
    let a = c.args in
    let ask = c.args.self.now in
    let x = c.loop-x.x in
    let none : NoneFrom ask.w ask.kind a.m a.low ask.rows.now (x - view ask.w) =
    elim c.if-held-ne0.branch [
      | then-held-ne0+in_default w ↦
          none_better look (best ask.w ask.kind a.m a.low x ask.rows.now w.in_default.ensures (omega arith) w.from.ensures)
      | else-held-ne0 w ↦ none_seen look (omega arith)
    ] in (
      λ t p. none t (omega arith),
      omega arith,
      behind at.After-pass-ended c.saturating_sub-x.result (omega arith),
    )

pub returns : goal.returns
returns c =
    let a = c.args in
    let ask = c.args.self.now in
    let l = c.loop-x in
    sym (none_left ask.w ask.kind a.m a.low ask.rows.now l.x l.invariant.0 (omega arith))
