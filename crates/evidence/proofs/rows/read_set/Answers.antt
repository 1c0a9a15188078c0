-- `rows::read_set` meets its contract: its two fields are read where they stand.
use Rattle.evidence.specs.Rows.{set_at}
use Rattle.evidence.proofs.rows.read_set.Goals as goal

pub returns : goal.returns
unfolding set_at
returns c = λ d. record { top = c.word.ensures d; mask = c.read.ensures d }
