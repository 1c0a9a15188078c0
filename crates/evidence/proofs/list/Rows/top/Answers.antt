-- `list::Rows::top` meets its contract: a set begins with its top.
use mathlib.Core.Path.{ap, ◌∙◌}
use native.Mathlib.Omega.{arith}
use Rattle.sets.specs.Ticks.{Held}
use Rattle.evidence.specs.Rows.{set_at}
use Rattle.sets.specs.Sets.{mask_bytes}
use Rattle.evidence.proofs.Lists.{set_is}
use Rattle.evidence.proofs.list.Rows.top.Goals as goal

pub word-requires : goal.word-requires
word-requires c = omega (arith, c.set_place.ensures.1, c.row.ensures.size)

pub returns : goal.returns
unfolding set_at
returns c =
    let its = set_is mask_bytes c.row.result.now c.args.kind c.set_place.result _ c.row.ensures.row c.set_place.ensures.0 in
    c.word.ensures ∙ ap (λ (s : Held). s.top) its
