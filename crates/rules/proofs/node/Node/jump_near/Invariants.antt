-- `Node::jump_near` meets its contract: no tick above k + 1 but j, j - 1 and j - 2 is held by f + 1, so the first of them that is, from j
-- down, is the greatest.
use mathlib.Core.List.{List}
use Prim.Native.Nat.{ℕ, ◌+◌, ◌≤◌, ◌<◌}
use Rattle.fields.specs.Kind.{ECHO}
use Rattle.evidence.specs.Holders.{holders}
use Rattle.evidence.specs.Rows.{Row}
use Rattle.rules.specs.Describe.{window}
use Rattle.rules.proofs.node.Node.jump_near.Given as goal

-- where a turn begins: no tick that R4 may take stands above j less the turns gone, and all that stood there were above k + 1
pub record Looked (rows : List Row) (j enough next back : ℕ) : Type 0 where
  pub below : (t : ℕ) → next < t → enough ≤ holders window ECHO t rows → t + back ≤ j
  pub above : back ≤ j

abbrev pub invariant-loop-back : goal.invariant-loop-back
invariant-loop-back r = Looked r.rows r.j r.enough r.next r.back
