-- The numbers of refusals (02, A13): those of n and f are a roster's, and 29 stands behind them. Number 0 is success.
use Rattle.std.specs.Prelude.{ℕ, Result, Ok, Err}
use Rattle.forms.specs.Number.{number_of as roster_number_of}
use Rattle.correction.specs.declared.refusal.Refusal.{Refusal}
use Rattle.correction.specs.declared.refusal.Refusal.TheVariants.{Roster, Readings}

abbrev pub number_of : Refusal → ℕ
number_of (Roster why) = roster_number_of why
number_of Readings = 29

-- the number of an answer, whatever comes with success
abbrev pub verdict_of : {T : Type 0} → Result T Refusal → ℕ
verdict_of (Ok _) = 0
verdict_of (Err why) = number_of why
