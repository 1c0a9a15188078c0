-- `rows::OldRows::part` meets its contract: some of the rows lie inside the bytes, as all do.
use Prim.Native.Nat.{◌+◌, ◌*◌, ◌≤◌}
use native.Mathlib.Omega.{arith}
use lib.ListN.{length}
use Rattle.converter.proofs.OldRows.{row_bytes, part_inside}
use Rattle.converter.proofs.rows.OldRows.part.Goals.{After-self}
use Rattle.converter.proofs.rows.OldRows.part.Goals as goal

inside : (c : After-self) →
    let r = c.self.inside in
    r.from + c.args.k * row_bytes + c.args.many * row_bytes ≤ length r.bytes.now
inside c =
    let r = c.self.inside in
    let a = c.args in
    part_inside r.count r.bytes.now r.from a.self.now c.self.view_is a.k a.many c.requires c.self.invariant

pub overflow_mul-result : goal.overflow_mul-result
overflow_mul-result c = omega (arith, inside (goal.at.overflow_mul-result c).After-self)

pub overflow_add-result : goal.overflow_add-result
overflow_add-result c = omega (arith, inside (goal.at.overflow_add-result c).After-self)

pub invariant_of-result : goal.invariant_of-result
invariant_of-result c = inside (goal.at.invariant_of-result c).After-self
