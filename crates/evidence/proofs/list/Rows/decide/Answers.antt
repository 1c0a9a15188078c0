-- `Rows::decide` of early.rt meets its contract: the rows read so far, and what the definition says of those left and what is lacking,
-- make up all.
use mathlib.Core.Path.{◌≡◌, sym, ap, ◌∙◌}
use mathlib.Core.Bool.{true, false}
use Prim.Native.Nat.{ℕ, ◌+◌, ◌-◌, ◌<◌}
use native.Mathlib.Decide.{dec_le}
use native.Mathlib.Omega.{arith}
use borrow.Author.Tests.{eqb-true, eqb-false}
use lib.ListN.{get_or, drop, length-drop}
use Rattle.sets.specs.Ticks.{holds}
use Rattle.sets.proofs.Members.{holds_le}
use Rattle.evidence.specs.Early.{decided_as, decide}
use Rattle.evidence.specs.declared.early.Decided.{Decided}
use Rattle.evidence.specs.Rows.{no_row, set_of}
use Rattle.evidence.proofs.Earliest.{read_before, decide_yes, decide_no, decide_enough, decide_too_few, decide_down}
use Rattle.evidence.proofs.list.Rows.decide.Goals.{After-holds, Joined-holds}
use Rattle.evidence.proofs.list.Rows.decide.Goals.{then-holds+else-lacking-eq0, else-holds+else-spare-eq0}
use Rattle.evidence.proofs.list.Rows.decide.Goals as goal

pub returns-then-m-eq0 : goal.returns-then-m-eq0
returns-then-m-eq0 c =
    let a = c.args in
    sym (decide_yes a.w a.kind a.t a.m a.self.now c.if-m-eq0.true)

pub returns-then-n-m : goal.returns-then-n-m
returns-then-n-m c =
    let a = c.args in
    sym (decide_no a.w a.kind a.t a.m a.self.now (omega (arith, c.len-n.ensures)))

none_before : (d : Decided) → read_before 0 d ≡ d
none_before d = ap (decided_as d.held) (none d.read)
  where
    none : (k : ℕ) → 0 + k ≡ k
    none k = omega arith

pub loop-k-init : goal.loop-k-init
loop-k-init c =
    let a = c.args in
    (none_before (decide a.w a.kind a.t a.m a.self.now), omega arith, omega arith)

-- whether the row in hand holds the tick, as a number
abbrev its : After-holds → ℕ
its c = let a = c.args in holds a.w (set_of a.kind (get_or a.self.now c.loop-k.k no_row)) a.t

-- with it read, the rest and what it leaves lacking make up all
next : (c : After-holds) →
    let a = c.args in
    let l = c.loop-k in
    read_before (l.k + 1) (decide a.w a.kind a.t (l.lacking - its c) (drop (l.k + 1) a.self.now)) ≡ decide a.w a.kind a.t a.m a.self.now
next c =
    let a = c.args in
    let l = c.loop-k in
    sym
    (decide_down a.w a.kind a.t l.lacking l.k a.self.now
    (omega (arith, c.len-n.ensures))
    l.invariant.1
    (omega (arith, c.len-n.ensures, l.invariant.2)))
    ∙ l.invariant.0

-- a row without the tick counts nothing, and one with it counts once
without : (c : After-holds) → c.holds.result ≡ false → its c ≡ 0
without c e =
    let a = c.args in
    let few = holds_le a.w (set_of a.kind (get_or a.self.now c.loop-k.k no_row)) a.t in
    let not = eqb-false (its c) 1 (sym c.holds.ensures ∙ e) in
    elim (dec_le (its c) 0) [ yes q ↦ omega arith | no q ↦ absurd (not (omega (arith, few))) ]

with : (c : After-holds) → c.holds.result ≡ true → its c ≡ 1
with c e = eqb-true (its c) 1 (sym c.holds.ensures ∙ e)

pub returns-then-lacking-eq0 : goal.returns-then-lacking-eq0
returns-then-lacking-eq0 c =
    let here = (goal.at.returns-then-lacking-eq0 c).After-holds in
    let a = c.args in
    let l = c.loop-k in
    let one = with here c.if-holds.true in
    let none = c.if-lacking-eq0.true in
    sym
    (decide_enough a.w a.kind a.t (l.lacking - its here) (l.k + 1) (drop (l.k + 1) a.self.now) (omega (arith, one, none)))
    ∙ next here

pub returns-then-spare-eq0 : goal.returns-then-spare-eq0
returns-then-spare-eq0 c =
    let here = (goal.at.returns-then-spare-eq0 c).After-holds in
    let a = c.args in
    let l = c.loop-k in
    let none = without here c.if-holds.false in
    let left = drop (l.k + 1) a.self.now in
    sym
    (decide_too_few a.w a.kind a.t (l.lacking - its here) (l.k + 1) left
    (omega (arith, length-drop (l.k + 1) a.self.now, c.len-n.ensures, c.if-spare-eq0.true, l.invariant.2, none)))
    ∙ next here

-- a row that holds the tick is no longer lacking, and one that does not is one to spare less
went : (c : Joined-holds) →
    (c.if-holds.lacking ≡ c.loop-k.lacking - its (goal.at.loop-k-preserved c).After-holds) × (0 < c.if-holds.lacking)
    × (c.loop-k.k + 1 + c.if-holds.lacking + c.if-holds.spare ≡ c.len-n.result)
went c =
    let here = (goal.at.loop-k-preserved c).After-holds in
    let l = c.loop-k in
    elim c.if-holds.branch [
      | then-holds+else-lacking-eq0 w ↦
          let one = with here w.if-holds.true in
          let some = w.if-lacking-eq0.false in
          let lacking : c.if-holds.lacking ≡ l.lacking - 1 = w.lacking-is in
          let spare : c.if-holds.spare ≡ l.spare = w.spare-is in
          (omega (arith, one), omega (arith, some), omega (arith, l.invariant))
      | else-holds+else-spare-eq0 w ↦
          let none = without here w.if-holds.false in
          let some = w.if-spare-eq0.false in
          let lacking : c.if-holds.lacking ≡ l.lacking = w.lacking-is in
          let spare : c.if-holds.spare ≡ l.spare - 1 = w.spare-is in
          (omega (arith, none), omega (arith, l.invariant), omega (arith, some, l.invariant))
    ]

pub loop-k-preserved : goal.loop-k-preserved
loop-k-preserved c =
    let here = (goal.at.loop-k-preserved c).After-holds in
    let a = c.args in
    let l = c.loop-k in
    let w = went c in (
      ap (λ (m : ℕ). read_before (l.k + 1) (decide a.w a.kind a.t m (drop (l.k + 1) a.self.now))) w.0 ∙ next here,
      w.1,
      w.2,
    )
