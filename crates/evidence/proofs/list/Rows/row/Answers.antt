-- `list::Rows::row` meets its contract: row k lies inside the bytes, as all rows do, and is the row that stands there.
use mathlib.Core.Path.{sym, ◌∙◌}
use Prim.Native.Nat.{◌+◌, ◌-◌, ◌*◌}
use native.Mathlib.Omega.{arith}
use borrow.Author.Rules.{rules}
use Rattle.sets.specs.Sets.{mask_bytes}
use Rattle.evidence.specs.Rows.{row_bytes}
use Rattle.evidence.proofs.Lists.{row_inside, row_is, row_cut}
use Rattle.evidence.proofs.list.Rows.row.Goals as goal

pub overflow_mul-at : goal.overflow_mul-at
overflow_mul-at c =
    let r = c.self.inside in
    omega (arith, row_inside r.count r.bytes.now r.from c.args.self.now c.self.view_is c.args.k c.requires c.self.invariant)

pub overflow_add-at : goal.overflow_add-at
overflow_add-at c =
    let r = c.self.inside in
    omega (arith, row_inside r.count r.bytes.now r.from c.args.self.now c.self.view_is c.args.k c.requires c.self.invariant)

pub overflow_add-result : goal.overflow_add-result
overflow_add-result c =
    let r = c.self.inside in
    omega (arith, row_inside r.count r.bytes.now r.from c.args.self.now c.self.view_is c.args.k c.requires c.self.invariant)

pub slice_bounds-result-end : goal.slice_bounds-result-end
slice_bounds-result-end c =
    let r = c.self.inside in
    let h = row_inside r.count r.bytes.now r.from c.args.self.now c.self.view_is c.args.k c.requires c.self.invariant in
    search rules

pub returns-clause-row : goal.returns-clause-row
returns-clause-row c =
    let r = c.self.inside in
    let at = r.from + c.args.k * row_bytes in
    row_cut mask_bytes (at + row_bytes - at) at r.bytes.now (omega arith)
    ∙ sym (row_is mask_bytes r.count r.bytes.now r.from c.args.self.now c.self.view_is c.args.k c.requires)
