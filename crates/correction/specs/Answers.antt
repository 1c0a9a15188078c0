-- What the answer that C is given says, as the definition of the call has it.
use Rattle.correction.specs.Correct.{Corrected}
use Rattle.correction.specs.declared.calls.Correction.{Correction}

abbrev pub corrected_by : Correction → Corrected
corrected_by a = record { number = a.number; correction = a.correction }
