-- `Column::contains` meets its contract: a line that holds x is counted, and where none does the count is 0.
use mathlib.Core.Path.{◌≡◌, refl, sym}
use mathlib.Core.Bool.{Bool, true, false}
use mathlib.Core.List.{List}
use mathlib.Core.Logic.{◌≢◌}
use Prim.Native.Nat.{ℕ, ◌<◌}
use native.Mathlib.Omega.{arith}
use lib.Dec.{ltb}
use lib.ListN.{length, get_or}
use borrow.Author.Tests.{lt-ltb}
use Rattle.std.proofs.Common.{rules}
use Rattle.std.specs.Bool.{MatchBool}
use Rattle.std.specs.List.{range_with_len, AllWithin, HoldsAt}
use Rattle.std.proofs.lemmas.Iterator.{cases_from_any, YieldsList-from_range}
use Rattle.std.proofs.lemmas.List.FromFn.{length-range_with_len}
use Rattle.forms.specs.Column.{count}
use Rattle.forms.proofs.Columns.{line_at, each_line, count_at, count_none}
use Rattle.forms.proofs.column.Column.contains.Goals as goal

told : (l : List ℕ) (x n : ℕ) → n ≡ length l → (r : Bool) →
    let Yes : ℕ → Type 0 = λ k. get_or l k 0 ≡ x in
    let No : ℕ → Type 0 = λ k. get_or l k 0 ≢ x in
    let lines = range_with_len 0 n in
    MatchBool r ((k : ℕ) × (k < length lines) × HoldsAt Yes lines k) (AllWithin No lines 0 (length lines)) → r ≡ ltb 0 (count x l)
unfolding count
told l x n e true h =
    let p : h.0 < n = omega (arith, h.1, length-range_with_len 0 n) in
    let same = line_at (λ k. get_or l k 0 ≡ x) 0 n h.0 h.0 p (omega arith) h.2 in
    sym (lt-ltb 0 (count x l) (rw same at (count_at l h.0 (omega arith))))
told l x n e false h =
    rw (count_none x l (λ k p. each_line (λ k. get_or l k 0 ≢ x) 0 n h k (omega arith) (omega arith)))

pub returns : goal.returns
returns c =
    let l = c.args.self.now in
    let x = c.args.x in
    told l x c.len.result c.len.ensures c.any.result
    (cases_from_any _ _ _ (λ k. get_or l k 0 ≡ x) (λ k. get_or l k 0 ≢ x) c.any.ensures.ran
    (YieldsList-from_range 0 c.len.result c.len.result refl (omega arith))
    (λ y q k. search rules) (λ y q k. search rules))
