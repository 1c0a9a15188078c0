-- The call of a correction (02, A13): its number, and by how much the counter is to be set.
use Rattle.std.specs.Prelude.{ℕ, cond, not, List, length, ℤ, pos, neg_ℤ, ◌==◌}
use Rattle.forms.specs.Roster.{limits_then}
use Rattle.correction.specs.Counter.{differences}
use Rattle.correction.specs.Middle.{middle}

pub record Corrected : Type 0 where
  pub number : ℕ
  pub correction : ℤ

-- the first of 2, 21 and 29 that applies, or 0: there have to be n readings, no more and no fewer
abbrev pub correct_number : ℕ → ℕ → ℕ → ℕ
correct_number n f readings = limits_then n f (cond (not (readings == n)) 29 0)

-- the negative of the middle; with a refusal 0
unfoldable pub corrected : ℕ → ℕ → List ℕ → ℕ → Corrected
corrected n f readings expected =
    let number = correct_number n f (length readings) in
    record { number = number; correction = cond (number == 0) (neg_ℤ (middle f (differences expected readings))) (pos 0) }
