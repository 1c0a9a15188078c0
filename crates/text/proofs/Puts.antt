-- Laws of text that is put: none, more room or the same text, and what two writers put of which the second goes on where the first stopped.
-- Assumes nothing.
use mathlib.Core.Path.{◌≡◌, sym, ap₂, ◌∙◌, subst}
use mathlib.Core.List.{List, [], ◌++◌}
use Prim.Native.Nat.{ℕ, ◌+◌, ◌≤◌}
use native.Mathlib.Omega.{arith}
use lib.ListN.{length, length-append}
use Rattle.text.specs.Lay.{lay}
use Rattle.text.specs.Puts.{Puts}
use Rattle.text.proofs.Lays.{lay_none, lay_append}

pub puts_none : {out : List ℕ} {i : ℕ} → Puts out i [] 0 out i
puts_none {out} {i} = record { behind = omega arith; within = omega arith; left = sym (lay_none out i) }

pub puts_as : {out : List ℕ} {i : ℕ} {xs ys : List ℕ} {r s : ℕ} {after : List ℕ} {next : ℕ} →
    xs ≡ ys → r ≤ s → Puts out i xs r after next → Puts out i ys s after next
puts_as {out} {i} {s = s} {after} {next} same wider put =
    subst (λ (text : List ℕ). Puts out i text s after next) same (record { behind = put.behind; within = omega arith; left = put.left })

pub puts_then : {out : List ℕ} {i : ℕ} {xs : List ℕ} {r : ℕ} {middle : List ℕ} {j : ℕ} {ys : List ℕ} {s : ℕ}
    {after : List ℕ} {next : ℕ} →
    next ≤ length out → Puts out i xs r middle j → Puts middle j ys s after next → Puts out i (xs ++ ys) (r + s) after next
puts_then {out} {i} {xs} {r} {middle} {j} {ys} {s} {after} {next} room p q =
    record {
      behind = omega (arith, length-append xs ys);
      within = omega arith;
      left = q.left ∙ ap₂ (λ (l : List ℕ) (n : ℕ). lay l n ys) p.left p.behind ∙ sym (lay_append out i xs ys (omega arith));
    }
