-- `Column::len` meets its contract.
use mathlib.Core.Path.{sym}
use Rattle.fields.proofs.Words.{length_words}
use Rattle.forms.proofs.column.Column.len.Goals as goal

pub returns : goal.returns
returns c = rw (← c.self.view_is) (sym (length_words _ _ _ _))
