-- The numbers that this layer gives back (01, "Numbers given back", and 02, A7), a number for each refusal.
-- Number 0 is success. What comes with a refusal is fixed where the answer is defined: every field 0.
use Rattle.std.specs.Prelude.{ℕ, zero, suc, Result, Ok, Err}
use Rattle.forms.specs.declared.answer.Refusal.{Refusal}
use Rattle.forms.specs.declared.answer.Refusal.TheVariants.{Layout, Limits, Understated, Zero, Twice, Stranger, Room, Shape, Late}

abbrev pub number_of : Refusal → ℕ
number_of Layout = 1
number_of Limits = 2
number_of Understated = 21
number_of Zero = 3
number_of Twice = 4
number_of Stranger = 5
number_of Room = 7
number_of Shape = 10
number_of Late = 11

-- the number of an answer, whatever comes with success
abbrev pub verdict_of : {T : Type 0} → Result T Refusal → ℕ
verdict_of (Ok _) = 0
verdict_of (Err why) = number_of why

-- the first of two numbers that is not 0: checks run one after the other, and the first that applies is given
abbrev pub or_else : ℕ → ℕ → ℕ
or_else zero next = next
or_else (suc n) next = suc n
