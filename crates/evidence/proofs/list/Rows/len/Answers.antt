-- `list::Rows::len` meets its contract: the list has as many rows as are counted.
use Rattle.sets.specs.Sets.{mask_bytes}
use Rattle.evidence.proofs.Lists.{count_is}
use Rattle.evidence.proofs.list.Rows.len.Goals as goal

pub returns : goal.returns
returns c =
    let r = c.self.inside in
    count_is mask_bytes r.count r.bytes.now r.from c.args.self.now c.self.view_is
