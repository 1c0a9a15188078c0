-- `rows::OldRows::count` meets its contract: what is counted so far and the holders among the rows left make up all.
use mathlib.Core.Path.{◌≡◌, refl, ap, ◌∙◌}
use Prim.Native.Nat.{ℕ, zero, suc, ◌≤◌}
use native.Mathlib.Omega.{arith}
use mir.Val.{bool_byte}
use lib.Dec.{eqb}
use lib.ListN.{get_or}
use Rattle.sets.proofs.Members.{holds_le}
use Rattle.evidence.specs.Rows.{set_of}
use Rattle.rules.specs.Describe.{window}
use Rattle.evidence.specs.Rows.{no_row}
use Rattle.evidence.proofs.Lists.{holders_next, holders_done}
use Rattle.converter.proofs.rows.OldRows.count.Goals as goal

-- a test for 1, as a number again
as_number : (h : ℕ) → h ≤ 1 → bool_byte (eqb h 1) ≡ h
as_number zero p = refl
as_number (suc zero) p = refl
as_number (suc (suc h)) p = absurd (omega arith)

pub loop-k-preserved : goal.loop-k-preserved
loop-k-preserved c =
    let a = c.args in
    let k = c.loop-k.k in
    let few = holds_le window (set_of a.kind (get_or a.self.now k no_row)) a.t in
    let one = c.from-found.ensures ∙ ap bool_byte c.holds.ensures ∙ as_number _ few in
    omega (arith, c.loop-k.invariant, one, few, holders_next window a.kind a.t a.self.now k (omega (arith, c.len-k-end.ensures)))

pub returns : goal.returns
returns c =
    let a = c.args in
    let k = c.loop-k.k in
    omega (arith, c.loop-k.invariant, holders_done window a.kind a.t a.self.now k (omega (arith, c.len-k-end.ensures)))
