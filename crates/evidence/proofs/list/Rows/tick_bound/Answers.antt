-- `list::Rows::tick_bound` meets its contract: no row of bytes holds a tick that no top can tell.
use mathlib.Core.Path.{sym, ap, ◌∙◌}
use Rattle.sets.specs.Sets.{mask_bytes}
use Rattle.evidence.specs.Holders.{holders}
use Rattle.evidence.proofs.Columns.{holders_far}
use Rattle.evidence.proofs.list.Rows.tick_bound.Goals as goal

pub returns-clause-bound : goal.returns-clause-bound
returns-clause-bound c w kind t p =
    let r = c.self.inside in
    sym (ap (holders w kind t) c.self.view_is) ∙ holders_far w kind t mask_bytes r.count r.bytes.now r.from c.bound_in.ensures.bytes p
