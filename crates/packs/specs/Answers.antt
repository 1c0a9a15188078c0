-- What the answers that C is given say, as the definitions of the calls have it.
use Rattle.std.specs.Prelude.{ℕ, List}
use Rattle.forms.specs.Form.{WriteTold}
use Rattle.packs.specs.Question.{PackTold}
use Rattle.packs.specs.declared.calls.PackAnswer.{PackAnswer}
use Rattle.packs.specs.declared.calls.SheetAnswer.{SheetAnswer}

abbrev pub pack_by : PackAnswer → PackTold
pack_by a = record { number = a.number; licence = a.licence }

abbrev pub sheet_by : SheetAnswer → List ℕ → WriteTold
sheet_by a out = record { number = a.number; written = a.written; out = out }
