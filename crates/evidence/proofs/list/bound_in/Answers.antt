-- `list::bound_in` meets its contract: a byte is a byte.
use Rattle.evidence.proofs.list.bound_in.Goals as goal

pub returns-clause-bytes : goal.returns-clause-bytes
returns-clause-bytes c k = (c.type_inv.b k).fits
