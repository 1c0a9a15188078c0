-- Rows whose sets are proper in a window have the same first rule in every wider one, at every node (02, A8).
-- Assumes nothing.
use mathlib.Core.Path.{◌≡◌}
use mathlib.Core.Bool.{true}
use mathlib.Core.List.{List}
use Prim.Native.Nat.{ℕ, ◌≤◌}
use Rattle.evidence.specs.Rows.{Row, proper_rows}
use Rattle.evidence.proofs.Wider.{holders_wider}
use Rattle.rules.specs.Rules.{first_rule}
use Rattle.rules.specs.declared.node.Node.{Node}
use Rattle.rules.proofs.Firing.{rule_same}

pub rule_wider :
    (v w last : ℕ)
    → v ≤ w
    → (rows : List Row)
    → proper_rows v last rows ≡ true
    → (p : Node)
    → first_rule w last rows p ≡ first_rule v last rows p
rule_wider v w last wider rows proper = rule_same w v last rows rows (holders_wider v w last wider rows proper)
