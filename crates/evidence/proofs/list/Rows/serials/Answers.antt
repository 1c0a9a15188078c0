-- `list::Rows::serials` meets its contract: the serials of rows are a column of words a row apart.
use mathlib.Core.Path.{sym, ap, ◌∙◌}
use Rattle.sets.specs.Sets.{mask_bytes}
use Rattle.evidence.specs.Serials.{serials_in}
use Rattle.evidence.proofs.Layouts.{serials_of_rows}
use Rattle.evidence.proofs.list.Rows.serials.Goals as goal

pub returns : goal.returns
returns c =
    let r = c.self.inside in
    c.new.ensures ∙ sym (serials_of_rows mask_bytes r.count r.bytes.now r.from) ∙ ap serials_in c.self.view_is
