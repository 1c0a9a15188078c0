-- What the answer of a conversion says, as its definition has it; and how it is made of what came of the call. A refusal reports its number
-- alone.
use Rattle.std.specs.Prelude.{List, ℕ, Result, Ok, Err}
use Rattle.node.specs.Number.{number_of}
use Rattle.node.specs.declared.answer.Refusal.{Refusal}
use Rattle.converter.specs.Convert.{Converted}
use Rattle.converter.specs.declared.calls.Conversion.{Conversion}

abbrev pub converted_by : Conversion → List ℕ → Converted
converted_by c image = record { number = c.number; written = c.written; image = image }

abbrev pub conversion_told : Result ℕ Refusal → Conversion
conversion_told (Ok written) = record { number = 0; written = written }
conversion_told (Err why) = record { number = number_of why; written = 0 }
