-- `list::Rows::serial` meets its contract: a row begins with its serial.
use mathlib.Core.Path.{ap, ◌∙◌}
use Rattle.evidence.specs.Rows.{Row, row_at}
use Rattle.evidence.proofs.list.Rows.serial.Goals as goal

pub returns : goal.returns
unfolding row_at
returns c = c.word.ensures ∙ ap (λ (row : Row). row.serial) c.row.ensures.row
