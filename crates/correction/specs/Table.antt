-- The rows of the table of numbers that a correction gives (02, A13), as plain propositions: 2 and 21 of n and f, and 29 behind them.
use Rattle.std.specs.Prelude.{ℕ, ◌≢◌, List, [], ◌∷◌, length}
use Rattle.forms.specs.Table.{Check, ◌when◌, limits_checks}

-- 29: there are not n readings
abbrev pub Miscounted : ℕ → List ℕ → Type 0
Miscounted n readings = length readings ≢ n

abbrev pub correct_checks : ℕ → ℕ → List ℕ → List Check
correct_checks n f readings = limits_checks n f (29 when Miscounted n readings ∷ [])
