-- `list::Rows::set` meets its contract: the set of a kind stands at the kind's place.
use mathlib.Core.Path.{◌∙◌}
use native.Mathlib.Omega.{arith}
use Rattle.sets.specs.Sets.{mask_bytes}
use Rattle.evidence.proofs.Lists.{set_is}
use Rattle.evidence.proofs.list.Rows.set.Goals as goal

pub read_set-requires : goal.read_set-requires
read_set-requires c = omega (arith, c.set_place.ensures.1, c.row.ensures.size)

pub returns : goal.returns
returns c = c.read_set.ensures ∙ set_is mask_bytes c.row.result.now c.args.kind c.set_place.result _ c.row.ensures.row c.set_place.ensures.0
