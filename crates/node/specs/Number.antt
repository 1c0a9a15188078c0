-- The numbers that the calls give back (01, "Numbers given back", and 02, A7), a number for each refusal. What a reader of forms and frames
-- refuses keeps its number.
use Rattle.std.specs.Prelude.{ℕ, Result, Ok, Err}
use Rattle.forms.specs.Number as wire
use Rattle.node.specs.declared.answer.Refusal.{Refusal}
use Rattle.node.specs.declared.answer.Refusal.TheVariants.{Misread, Short, Room, Unsound, Port, Passive}

abbrev pub number_of : Refusal → ℕ
number_of (Misread why) = wire.number_of why
number_of Short = 6
number_of Room = 7
number_of Unsound = 8
number_of Port = 9
number_of Passive = 12

-- the number of an answer, whatever comes with success
abbrev pub verdict_of : {T : Type 0} → Result T Refusal → ℕ
verdict_of (Ok _) = 0
verdict_of (Err why) = number_of why
