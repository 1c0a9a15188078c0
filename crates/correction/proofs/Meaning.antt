-- A number is given exactly when the request says, and in no other case: the call gives what rows 2, 21 and 29 of the table give.
-- Assumes nothing.
use Rattle.std.proofs.Common.{ℕ, eqb, List, length, arith}
use Rattle.forms.specs.Table.{Says}
use Rattle.forms.proofs.Meaning.{limits_then_lem, in_front, none, opposite, equal}
use Rattle.correction.specs.Correct.{corrected}
use Rattle.correction.specs.Table.{correct_checks}

pub correct_says : (n f : ℕ) (readings : List ℕ) (expected : ℕ) →
    Says (corrected n f readings expected).number (correct_checks n f readings)
unfolding corrected
correct_says n f readings expected =
    limits_then_lem n f (λ g. omega (arith, g.1)) (λ g. omega (arith, g.1))
    (in_front 29 (opposite (eqb (length readings) n) (equal (length readings) n)) (λ z. omega (arith, z)) none)
