-- `roster::judge_limits` meets its contract: each test is one case of the numbers of n and f.
use mathlib.Core.Path.{◌≡◌, sym}
use Prim.Native.Nat.{ℕ}
use native.Mathlib.Omega.{arith}
use Rattle.forms.specs.Roster.{limits_then}
use Rattle.forms.proofs.Rosters.{Limits, limits_two, limits_understated, limits_kept}
use Rattle.forms.proofs.roster.judge_limits.Goals as goal

-- a test of the limits that fails
outside : (f n : ℕ) → (Limits f n → ⊥) → 2 ≡ limits_then n f 0
outside f n h = sym (limits_two n f 0 h)

pub returns-then-n-lt1 : goal.returns-then-n-lt1
returns-then-n-lt1 c = let a = c.args in outside a.f a.n (omega arith)

pub returns-then-n-gt-MOST_LINES : goal.returns-then-n-gt-MOST_LINES
returns-then-n-gt-MOST_LINES c = let a = c.args in outside a.f a.n (omega arith)

pub returns-then-n-f : goal.returns-then-n-f
returns-then-n-f c = let a = c.args in outside a.f a.n (omega arith)

pub returns-then-f-n : goal.returns-then-f-n
returns-then-f-n c = let a = c.args in sym (limits_understated a.n a.f 0 (omega arith) (omega arith))

pub returns : goal.returns
returns c = let a = c.args in sym (limits_kept a.n a.f 0 (omega arith) (omega arith))
