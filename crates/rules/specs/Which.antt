-- Which rule fires, in the paper's words (01, "One delivery"): the conditions of R1 to R5 as propositions over distinct serials, and
-- the first of them that holds, R4 and R5 at the greatest tick. proofs/Which.antt shows that `first_rule` answers just this.
-- w is the window, last the last tick; p is the node (n lines, f faults, k its tick, the last echo sent).
use Rattle.std.specs.Prelude.{◌≡◌, List, ℕ, ◌+◌, ◌-◌, ◌<◌}
use Rattle.fields.specs.Kind.{INIT, ECHO}
use Rattle.forms.specs.Table.{◌or◌}
use Rattle.evidence.specs.Rows.{Row}
use Rattle.evidence.specs.Serials.{HeldBy}
use Rattle.rules.specs.declared.node.Node.{Node}
use Rattle.rules.specs.declared.node.Rule.{Rule}
use Rattle.rules.specs.declared.node.Rule.TheVariants.{Rest, Echo, Tick, Jump, Wake}

-- the greatest tick at which a condition holds
pub record Greatest (condition : ℕ → Type 0) (t : ℕ) : Type 0 where
  pub holds : condition t
  pub none_above : (u : ℕ) → t < u → condition u → ⊥

module _ (w last : ℕ) (rows : List Row) (p : Node) where
  -- (init, k) held by f + 1 and echo k unsent
  pub record R1 : Type 0 where
    pub held : HeldBy w INIT p.tick (p.faults + 1) rows
    pub unsent : p.sent < p.tick

  -- (echo, k) held by f + 1 and echo k unsent
  pub record R2 : Type 0 where
    pub held : HeldBy w ECHO p.tick (p.faults + 1) rows
    pub unsent : p.sent < p.tick

  -- (echo, k) held by n - f and k below the last tick
  pub record R3 : Type 0 where
    pub held : HeldBy w ECHO p.tick (p.lines - p.faults) rows
    pub early : p.tick < last

  -- l > k + 1 with (echo, l) held by f + 1
  pub record R4 (l : ℕ) : Type 0 where
    pub ahead : p.tick + 1 < l
    pub held : HeldBy w ECHO l (p.faults + 1) rows

  -- passive, and (init, x) held by f + 1
  pub record R5 (x : ℕ) : Type 0 where
    pub passive : p.mode ≡ 0
    pub held : HeldBy w INIT x (p.faults + 1) rows

  -- the rule that fires is the first of the list that can. R1 and R2 are one rule of the code: both broadcast echo k
  abbrev pub Fires : Rule → Type 0
  Fires Echo = R1 or R2
  Fires Tick = (R1 → ⊥) × (R2 → ⊥) × R3
  Fires (Jump l) = (R1 → ⊥) × (R2 → ⊥) × (R3 → ⊥) × Greatest R4 l
  Fires (Wake x) = (R1 → ⊥) × (R2 → ⊥) × (R3 → ⊥) × ((l : ℕ) → R4 l → ⊥) × Greatest R5 x
  Fires Rest = (R1 → ⊥) × (R2 → ⊥) × (R3 → ⊥) × ((l : ℕ) → R4 l → ⊥) × ((x : ℕ) → R5 x → ⊥)
