-- What settling and a delivery do to the clock: the node stays who it is, mode is 0 or 1, active stays active, k never falls, and
-- last echo ≤ k ≤ last tick, where no set holds a tick above the last.
-- Assumes nothing.
use mathlib.Core.List.{List}
use Prim.Native.Nat.{ℕ, ◌+◌, ◌≤◌, ◌<◌}
use native.Mathlib.Omega.{arith}
use Rattle.fields.specs.Kind.{INIT, ECHO}
use Rattle.forms.specs.declared.frame.Frame.{Frame}
use Rattle.evidence.specs.Rows.{Row}
use Rattle.evidence.proofs.Greatest.{greatest_held}
use Rattle.evidence.proofs.Growth.{AllKept, credit_kept, held_bounded}
use Rattle.rules.specs.Clock.{InOrder, Ordered}
use Rattle.rules.specs.Delivery.{State, credited, settled, delivered}
use Rattle.rules.specs.Describe.{most_firings}
use Rattle.rules.specs.Rules.{first_rule, fired, settle}
use Rattle.rules.specs.declared.node.Node.{Node}
use Rattle.rules.specs.declared.node.Rule.{Rule}
use Rattle.rules.specs.declared.node.Rule.TheVariants.{Rest, Echo, Tick, Jump, Wake}
use Rattle.rules.proofs.Firing.{Told, told, settle_induction}

module _ (w last : ℕ) (rows : List Row) (sets : AllKept w last rows) where
  pub fire_ordered : (p : Node) (r : Rule) → InOrder last p → Told w last rows p r → Ordered last p (fired p r)
  unfolding fired
  fire_ordered p Rest h t = omega arith
  fire_ordered p Echo h t = omega arith
  fire_ordered p Tick h t = omega arith
  fire_ordered p (Jump l) h t =
      let held = greatest_held w ECHO (p.faults + 1) (p.tick + 2) rows l t in
      omega (arith, held_bounded w last ECHO l rows sets held.2)
  fire_ordered p (Wake x) h t =
      let held = greatest_held w INIT (p.faults + 1) 0 rows x t.1 in
      omega (arith, held_bounded w last INIT x rows sets held.2)

  pub settle_ordered : (c : ℕ) (p : Node) → InOrder last p → Ordered last p (settle w last rows c p).node
  settle_ordered =
      settle_induction w last rows (λ c p s. InOrder last p → Ordered last p s.node) (λ p h. omega arith) (λ c p e h. omega arith)
      (λ c p e ih h.
      let one = fire_ordered p (first_rule w last rows p) h (told w last rows p) in
      let rest = ih (omega arith) in
      omega arith)

-- 003's own words: k never falls, active stays active, and the roster stays
module _
    (w last : ℕ) (s : State) (port : ℕ) (frame : Frame)
    (wide : 0 < w) (sets : AllKept w last s.rows) (late : frame.tick ≤ last) where
  pub delivered_ordered : InOrder last s.node → Ordered last s.node (delivered w last s port frame).state.node
  unfolding delivered settled
  delivered_ordered =
      settle_ordered w last (credited w s port frame)
      (credit_kept w last port frame.kind frame.tick s.rows wide late sets) most_firings s.node
