-- Two groups of a roster that are large enough share a controller that is not faulty, whichever the faulty ones are (003, Lemma A.1).
-- Assumes nothing.
use mathlib.Core.Bool.{Bool, true, false, cond, not, ◌&&◌, and-eq-true_iff}
use mathlib.Core.List.{List, [], ◌∷◌}
use Prim.Native.Nat.{ℕ, ◌+◌, ◌≤◌, ◌<◌}
use native.Mathlib.Omega.{arith}
use lib.ListN.{length}
use borrow.Author.Tests.{not-true}
use Rattle.forms.specs.Column.{how_many}
use Rattle.forms.specs.Groups.{Shared}
use Rattle.forms.proofs.Columns.{passing_found}

abbrev both : (ℕ → Bool) → (ℕ → Bool) → ℕ → Bool
both p q x = p x && q x

abbrev without : (ℕ → Bool) → (ℕ → Bool) → ℕ → Bool
without p q x = p x && not (q x)

-- what two groups have in common makes up for what is more than the list
overlap : (p q : ℕ → Bool) (l : List ℕ) → how_many p l + how_many q l ≤ length l + how_many (both p q) l
unfolding how_many
overlap p q [] = omega arith
overlap p q (x ∷ l) = omega (arith, here (p x) (q x), overlap p q l)
  where
    here : (s t : Bool) → cond s 1 0 + cond t 1 0 ≤ 1 + cond (s && t) 1 0
    here true true = omega arith
    here true false = omega arith
    here false true = omega arith
    here false false = omega arith

-- a group less another lacks no more than the other has
left : (p q : ℕ → Bool) (l : List ℕ) → how_many p l ≤ how_many (without p q) l + how_many q l
unfolding how_many
left p q [] = omega arith
left p q (x ∷ l) = omega (arith, here (p x) (q x), left p q l)
  where
    here : (s t : Bool) → cond s 1 0 ≤ cond (s && not t) 1 0 + cond t 1 0
    here true true = omega arith
    here true false = omega arith
    here false t = omega arith

-- two groups that together are more than the roster and the faulty ones share one that is not faulty
pub share : (one other faulty : ℕ → Bool) (roster : List ℕ) →
    length roster + how_many faulty roster < how_many one roster + how_many other roster →
    Shared one other faulty roster
share one other faulty roster h =
    let m = passing_found (without (both one other) faulty) roster
    (omega (arith, overlap one other roster, left (both one other) faulty roster)) in
    let found = (and-eq-true_iff _ _).0 m.2 in
    let groups = (and-eq-true_iff _ _).0 found.0 in
    record {
      serial = m.0;
      listed = m.1;
      in_one = groups.0;
      in_other = groups.1;
      correct = not-true _ found.1;
    }
