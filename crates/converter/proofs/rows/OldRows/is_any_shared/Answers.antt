-- `rows::OldRows::is_any_shared` meets its contract: a tick that m rows hold is held by none of the rows that show nothing, so it is held
-- by m of the rows left, which are all that a search has to count; and fewer than m rows hold none.
use mathlib.Core.Path.{◌≡◌, refl, sym, ap, ap₂, ◌∙◌}
use mathlib.Core.List.{List}
use Prim.Native.Nat.{ℕ, zero, suc, ◌+◌, ◌-◌, ◌≤◌, ◌<◌}
use native.Mathlib.Decide.{ℕ_discrete}
use native.Mathlib.Omega.{arith}
use borrow.Author.Tests.{lt-ltb, ltb-true, ltb-false}
use lib.Dec.{ltb}
use lib.ListN.{get_or, take, drop, length-drop}
use lib.Seq.{get_or-drop}
use Rattle.std.specs.Prelude.{Option, Some, None}
use Rattle.std.specs.Option.{is_some}
use Rattle.std.proofs.lemmas.List.{take_rest}
use Rattle.sets.specs.Ticks.{Held, holds}
use Rattle.sets.proofs.Members.{holds_le}
use Rattle.evidence.specs.Holders.{holders, best_of, greatest}
use Rattle.evidence.specs.Rows.{Row, set_of}
use Rattle.evidence.proofs.Columns.{holders_few}
use Rattle.evidence.proofs.Greatest.{best_held, best_most, greatest_most, greatest_none}
use Rattle.rules.specs.Describe.{window}
use Rattle.evidence.specs.Holders.{tick_told}
use Rattle.evidence.specs.Rows.{no_row}
use Rattle.evidence.proofs.Lists.{holders_next}
use Rattle.converter.proofs.rows.OldRows.is_any_shared.Invariants.{Part}
use Rattle.converter.proofs.rows.OldRows.is_any_shared.Goals.{After-find_shared}
use Rattle.converter.proofs.rows.OldRows.is_any_shared.Goals as goal

-- ---- one set
module _ (kind m low : ℕ) (rest : List Row) (s : Held) where
  -- a tick that it shows is one that m of the rows left hold, and so m of all
  some-shared :
      (all : List Row) → Part kind all rest → 0 < m → (x : ℕ) → best_of window kind m low rest s ≡ x → 0 < x →
      0 < greatest window kind m low all
  some-shared all part p zero e q = absurd (omega arith)
  some-shared all part p (suc t) e q =
      let held = best_held window kind m low rest t s e in
      let many : m ≤ holders window kind t all = omega (arith, held.1, part t) in
      omega (arith, greatest_most window kind m low all t held.0 many (omega arith))

  -- where it shows none, it holds no such tick
  none-held : best_of window kind m low rest s ≡ 0 → (t : ℕ) → low ≤ t → m ≤ holders window kind t rest → holds window s t ≡ 0
  none-held e t l p =
      elim (ℕ_discrete (holds window s t) 1) [
        | yes h ↦ absurd (omega (arith, e, best_most window kind m low rest t s l p h))
        | no n ↦ omega (arith, holds_le window s t)
      ]

-- there is a tick where it is told as one
told : (t : Option ℕ) → is_some t ≡ ltb 0 (tick_told t)
told (Some t) = sym (lt-ltb 0 (suc t) (omega arith))
told None = refl

-- the search goes over the rows left, and the set of the row in hand
here : (c : After-find_shared) →
    let a = c.args in
    let k = c.loop-k.k in
    tick_told c.find_shared.result
    ≡ best_of window a.kind a.m a.low (drop k a.self.now) (set_of a.kind (get_or a.self.now k no_row))
here c =
    let a = c.args in
    let k = c.loop-k.k in
    let left : c.part-rest.result ≡ drop k a.self.now =
    c.part-rest.ensures ∙ ap (λ (n : ℕ). take (n - k) (drop k a.self.now)) c.len-n.ensures ∙ take_rest a.self.now k in
    let row : get_or c.part-rest.result 0 no_row ≡ get_or a.self.now k no_row =
    ap (λ (rows : List Row). get_or rows 0 no_row) left ∙ get_or-drop k a.self.now 0 no_row
    ∙ ap (λ (i : ℕ). get_or a.self.now i no_row) (omega arith) in
    c.find_shared.ensures
    ∙ ap₂ (λ (rows : List Row) (row : Row). best_of window a.kind a.m a.low rows (set_of a.kind row)) left row

pub returns-then-is_some : goal.returns-then-is_some
returns-then-is_some c =
    let found = (goal.at.returns-then-is_some c).After-find_shared in
    let a = c.args in
    let l = c.loop-k in
    let s = set_of a.kind (get_or a.self.now l.k no_row) in
    let some = ltb-true 0 _ (sym (told c.find_shared.result) ∙ sym c.is_some.ensures ∙ c.if-is_some.true) in
    sym
    (lt-ltb 0 (greatest window a.kind a.m a.low a.self.now)
    (some-shared a.kind a.m a.low (drop l.k a.self.now) s a.self.now l.invariant.1 c.requires _ (sym (here found)) some))

pub loop-k-preserved : goal.loop-k-preserved
loop-k-preserved c =
    let found = (goal.at.loop-k-preserved c).After-find_shared in
    let a = c.args in
    let l = c.loop-k in
    let rest = drop l.k a.self.now in
    let s = set_of a.kind (get_or a.self.now l.k no_row) in
    let none : tick_told c.find_shared.result ≡ 0 =
    omega (arith, ltb-false 0 _ (sym (told c.find_shared.result) ∙ sym c.is_some.ensures ∙ c.if-is_some.false)) in
    let nothing = sym (here found) ∙ none in
    let next : (t : ℕ) → holders window a.kind t rest ≡ holds window s t + holders window a.kind t (drop (l.k + 1) a.self.now) =
    λ t. holders_next window a.kind t a.self.now l.k (omega (arith, c.len-n.ensures, c.saturating_sub-k-end.ensures)) in (
      λ t low p.
          let as_many = l.invariant.0 t low p in
          omega (arith, as_many, none-held a.kind a.m a.low rest s nothing t low (omega (arith, p, as_many)), next t),
      λ t. omega (arith, l.invariant.1 t, next t),
    )

pub returns : goal.returns
returns c =
    let a = c.args in
    let l = c.loop-k in
    rw (greatest_none window a.kind a.m a.low a.self.now (λ t low p h.
    omega (
      arith,
      p,
      l.invariant.0 t low p,
      holders_few window a.kind t (drop l.k a.self.now),
      length-drop l.k a.self.now,
      c.saturating_sub-k-end.ensures,
      c.len-n.ensures,
    )))
