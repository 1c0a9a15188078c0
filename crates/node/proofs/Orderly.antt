-- The order of rows decides nothing in a delivery: the rule that comes first, whether a state is sound, all that settling sends and leaves,
-- and what is held under each serial are the same for every permutation of the rows.
-- Assumes nothing.
use mathlib.Core.Path.{◌≡◌, refl, sym, ap, ◌∙◌, fun_ext}
use mathlib.Core.Bool.{cond}
use mathlib.Core.List.Permᴰ
use mathlib.Core.List.{List, ◌++◌, Permᴰ}
use Prim.Native.Nat.{ℕ, suc, ◌+◌}
use native.Mathlib.Omega.{arith}
use lib.Dec.{eqb}
use Rattle.forms.specs.declared.frame.Frame.{Frame}
use Rattle.sets.specs.Ticks.{holds}
use Rattle.evidence.specs.Rows.{Row, set_of}
use Rattle.forms.proofs.Order.{roster_order}
use Rattle.evidence.proofs.Orders.{joined_order, holders_order, proper_order, credit_order}
use Rattle.rules.specs.Delivery.{State, answer, settled, delivered}
use Rattle.rules.specs.Describe.{most_firings}
use Rattle.rules.specs.Rules.{first_rule, Settled, follows, settle}
use Rattle.rules.proofs.Firing.{rule_same, settle_none, settle_rest, settle_fires, settle_induction}
use Rattle.node.specs.Image.{sound_state}
use Rattle.node.specs.Matched.{Matched}
use Rattle.node.specs.Runs.{under}
use Rattle.rules.specs.declared.node.Node.{Node}

module _ (w last : ℕ) {rows others : List Row} (order : Permᴰ rows others) where
  rule_order : (p : Node) → first_rule w last rows p ≡ first_rule w last others p
  rule_order = rule_same w w last rows others (λ kind t. holders_order w kind t order)

  settle_order : (c : ℕ) (p : Node) → settle w last rows c p ≡ settle w last others c p
  settle_order =
      settle_induction w last rows (λ c p s. s ≡ settle w last others c p) (λ p. sym (settle_none w last others p))
      (λ c p e. sym (settle_rest w last others (suc c) p (sym (rule_order p) ∙ e)))
      (λ c p e ih.
      rw (settle_fires w last others c p (rw (rule_order p) at e), ← rule_order p) (ap (follows p (first_rule w last rows p)) ih))

-- whether a state is sound
module _ (w last : ℕ) where
  with_order :
      (p : Node) {rows others : List Row}
      → Permᴰ rows others
      → sound_state w last (record { node = p; rows = rows }) ≡ sound_state w last (record { node = p; rows = others })
  unfolding sound_state
  with_order p order =
      rw (
        roster_order p.faults p.own (Permᴰ.map (λ (row : Row). row.serial) order),
        proper_order w last order,
        rule_order w last order p,
      )

  pub sound_order : {s t : State} → Matched s t → sound_state w last s ≡ sound_state w last t
  sound_order {s} {t} h =
      ap (λ (p : Node). sound_state w last (record { node = p; rows = s.rows })) h.node ∙ with_order t.node h.rows

-- what a delivery leaves and sends: the same node, records and firings, and rows in the same order as before
pub delivery_order :
    (w last : ℕ) (p : Node) {rows others : List Row} (port : ℕ) (frame : Frame)
    → Permᴰ rows others
    → let one = delivered w last (record { node = p; rows = rows }) port frame in
    let other = delivered w last (record { node = p; rows = others }) port frame in
    (one.state.node ≡ other.state.node) × (one.records ≡ other.records) × (one.firings ≡ other.firings)
    × Permᴰ one.state.rows other.state.rows
unfolding delivered settled
delivery_order w last p port frame order =
    let after = credit_order w port frame.kind frame.tick order in
    let s = settle_order w last after most_firings p in (
      ap (λ (x : Settled). x.node) s,
      ap (λ (x : Settled). answer p port frame ++ x.records) s,
      ap (λ (x : Settled). x.firings) s,
      after,
    )

-- ---- evidence under a serial

share : ℕ → ℕ → ℕ → ℕ → Row → ℕ
share w serial kind t row = cond (eqb row.serial serial) (holds w (set_of kind row) t) 0

under_at :
    (w serial kind t : ℕ) {rows others : List Row}
    → Permᴰ rows others
    → under w rows serial kind t ≡ under w others serial kind t
unfolding under share
under_at w serial kind t p =
    joined_order (λ rows. under w rows serial kind t) (share w serial kind t) ◌+◌ (λ row rows. refl) (λ a b c. omega arith) p

pub under_order : (w : ℕ) {rows others : List Row} → Permᴰ rows others → under w rows ≡ under w others
under_order w order = fun_ext (λ serial. fun_ext (λ kind. fun_ext (λ t. under_at w serial kind t order)))
