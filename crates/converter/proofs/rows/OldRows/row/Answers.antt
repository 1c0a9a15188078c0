-- `rows::OldRows::row` meets its contract: row k lies inside the bytes, as all rows do, and is the row that stands there.
use mathlib.Core.Path.{sym, ◌∙◌}
use Prim.Native.Nat.{◌+◌, ◌-◌, ◌*◌}
use native.Mathlib.Omega.{arith}
use Rattle.node.specs.Layout.{old_layout}
use Rattle.evidence.proofs.Lists.{row_cut}
use Rattle.converter.proofs.OldRows.{masks, row_bytes}
use Rattle.evidence.proofs.Lists.{row_is}
use Rattle.converter.proofs.rows.OldRows.row.Goals as goal

pub returns-clause-row : goal.returns-clause-row
returns-clause-row c =
    let r = c.self.inside in
    let at = r.from + c.args.k * row_bytes in
    row_cut old_layout.masks (at + row_bytes - at) at r.bytes.now (omega arith)
    ∙ sym (row_is masks r.count r.bytes.now r.from c.args.self.now c.self.view_is c.args.k c.requires)
