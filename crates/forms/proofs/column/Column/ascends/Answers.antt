-- `Column::ascends` meets its contract: each line is above the one before it, or one is not.
use mathlib.Core.Path.{◌≡◌, refl, sym}
use mathlib.Core.Bool.{Bool, true, false}
use mathlib.Core.List.{List}
use Prim.Native.Nat.{ℕ, ◌+◌, ◌-◌, ◌<◌, ◌≤◌}
use native.Mathlib.Omega.{arith}
use lib.ListN.{length, get_or}
use borrow.Author.Tests.{tests}
use Rattle.std.proofs.Common.{rules}
use Rattle.std.specs.Bool.{MatchBool}
use Rattle.std.specs.List.{range_with_len, AllWithin, HoldsAt}
use Rattle.std.proofs.lemmas.Iterator.{cases_from_all, YieldsList-from_range}
use Rattle.std.proofs.lemmas.List.FromFn.{length-range_with_len}
use Rattle.forms.specs.Column.{ascends}
use Rattle.forms.proofs.Columns.{line_at, each_line, ascends_all, ascends_not}
use Rattle.forms.proofs.column.Column.ascends.Goals as goal

told : (l : List ℕ) (n : ℕ) → n ≡ length l - 1 → (r : Bool) →
    let Yes : ℕ → Type 0 = λ k. get_or l (k - 1) 0 < get_or l k 0 in
    let No : ℕ → Type 0 = λ k. get_or l k 0 ≤ get_or l (k - 1) 0 in
    let lines = range_with_len 1 n in
    MatchBool r (AllWithin Yes lines 0 (length lines)) ((k : ℕ) × (k < length lines) × HoldsAt No lines k) → r ≡ ascends l
told l n e true h =
    sym
    (ascends_all l
    (λ j p. rw (here j) at (each_line (λ k. get_or l (k - 1) 0 < get_or l k 0) 1 n h (j + 1) (omega arith) (omega arith))))
  where
    here : (j : ℕ) → j + 1 - 1 ≡ j
    here j = omega arith
told l n e false h =
    let p : h.0 < n = omega (arith, h.1, length-range_with_len 1 n) in
    let here : h.0 + 1 - 1 ≡ h.0 = omega arith in
    let down = line_at (λ k. get_or l k 0 ≤ get_or l (k - 1) 0) 1 n h.0 (h.0 + 1) p (omega arith) h.2 in
    sym (ascends_not l h.0 (omega arith) (rw here at down))

pub returns : goal.returns
returns c =
    let l = c.args.self.now in
    told l (c.len.result - 1) (omega arith) c.all.result
    (cases_from_all _ _ _ (λ k. get_or l (k - 1) 0 < get_or l k 0) (λ k. get_or l k 0 ≤ get_or l (k - 1) 0) c.all.ensures.ran
    (YieldsList-from_range 1 c.len.result (c.len.result - 1) refl refl)
    (λ y q k. search (rules, tests)) (λ y q k. search (rules, tests)))
