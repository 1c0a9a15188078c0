-- `line::put_column` meets its contract: the space is put behind the digits.
use native.Mathlib.Omega.{arith}
use Rattle.logs.specs.Listing.{column}
use Rattle.text.proofs.Pages.{wrote_then}
use Rattle.logs.proofs.line.put_column.Goals as goal

pub returns : goal.returns
unfolding column
returns c = wrote_then c.put_decimal.ensures (omega arith) c.push.ensures
