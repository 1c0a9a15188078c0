-- `line::put_refusal` meets its contract: the digits are put behind the word.
use Rattle.std.proofs.Common.{arith}
use Rattle.text.proofs.Pages.{wrote_then}
use Rattle.pack.specs.Line.{refusal}
use Rattle.pack.proofs.line.put_refusal.Goals as goal

pub returns : goal.returns
unfolding refusal
returns c = rw (← c.from.ensures) (wrote_then c.put.ensures (omega arith) c.put_decimal.ensures)
