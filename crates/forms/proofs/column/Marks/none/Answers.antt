-- `Marks::none` meets its contract: no bit is set in a word that is 0.
use mathlib.Core.Path.{refl}
use Rattle.forms.specs.Marks.{mark, marks}
use Rattle.forms.proofs.column.Marks.none.Goals as goal

pub returns : goal.returns
unfolding mark marks
returns c = refl
