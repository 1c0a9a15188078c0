-- A node comes to rest within so many firings: the laws of that, and the plain case, in which no jump and no wake is left. Then R3 and
-- echoes alone take turns, up to a tick at which R3 can't fire.
-- Assumes nothing.
use mathlib.Core.Path.{◌≡◌, subst}
use mathlib.Core.Logic.{inl, inr}
use mathlib.Core.Bool.{false, true≢false}
use mathlib.Core.List.{List}
use Prim.Native.Nat.{ℕ, zero, suc, ◌+◌, ◌-◌, ◌*◌, ◌≤◌, ◌<◌, min}
use native.Mathlib.Decide.{ℕ_discrete}
use native.Mathlib.Omega.{arith}
use Rattle.fields.specs.Kind.{ECHO}
use Rattle.evidence.specs.Rows.{Row}
use Rattle.evidence.specs.Holders.{holders}
use Rattle.evidence.proofs.Greatest.{none_higher}
use Rattle.rules.specs.Rules.{jump_to, wake_at, first_rule, at_rest, fired, settle}
use Rattle.rules.specs.declared.node.Node.{Node}
use Rattle.rules.specs.declared.node.Rule.{Rule}
use Rattle.rules.specs.declared.node.Rule.TheVariants.{Rest, Echo, Tick, Jump, Wake}
use Rattle.rules.proofs.Firing.{Told, told, wake_told, rest_or, settle_rest, settle_down}

-- ---- within so many firings

module _ (w last : ℕ) (rows : List Row) where
  -- p comes to rest within b firings, however many more may fire
  abbrev pub RestsIn : ℕ → Node → Type 0
  RestsIn b p =
      (c : ℕ)
      → b ≤ c
      → let s = settle w last rows c p in
      (first_rule w last rows s.node ≡ Rest) × (s.firings ≤ b)

  rests_now : (b : ℕ) (p : Node) → first_rule w last rows p ≡ Rest → RestsIn b p
  rests_now b p e c q = rw (settle_rest w last rows c p e) ((e, omega arith))

  rests_after :
      (b : ℕ) (p : Node)
      → let rule = first_rule w last rows p in
      at_rest rule ≡ false
      → RestsIn b (fired p rule)
      → RestsIn (suc b) p
  rests_after b p fires h c q =
      let next = h (c - 1) (omega arith) in
      rw (settle_down w last rows c p (omega arith) fires) ((next.0, omega (arith, next.1)))

  pub rests_sooner : (a b : ℕ) (p : Node) → a ≤ b → RestsIn a p → RestsIn b p
  rests_sooner a b p q h c r = let s = h c (omega arith) in (s.0, omega (arith, s.1))

  -- whichever rule fires first
  pub rests_by :
      (a b : ℕ) (p : Node)
      → b < a
      → ((rule : Rule) → at_rest rule ≡ false → Told w last rows p rule → RestsIn b (fired p rule))
      → RestsIn a p
  rests_by a b p q each =
      elim (rest_or (first_rule w last rows p)) [
        | inl e ↦ rests_now a p e
        | inr fires ↦ rests_sooner (suc b) a p q (rests_after b p fires (each (first_rule w last rows p) fires (told w last rows p)))
      ]

  -- R3 could fire at tick t of this node
  abbrev pub TicksAt : Node → ℕ → Type 0
  TicksAt p t = (p.lines - p.faults ≤ holders w ECHO t rows) × (t < last)

  -- ---- R3 and echo alone, up to a tick at which R3 can't fire

  module _ (end : ℕ) where
    pub record Quiet (p : Node) : Type 0 where
      pub no_jump : jump_to w p rows ≡ 0
      pub no_wake : wake_at w p rows ≡ 0
      pub before : p.tick ≤ end
      pub stops : TicksAt p end → ⊥

    -- two for each tick to the end, and one for an echo unsent
    abbrev left : Node → ℕ
    left p = 2 * (end - p.tick) + min 1 (p.tick - p.sent)

    record Lower (p q : Node) : Type 0 where
      quiet : Quiet q
      lower : left q < left p

    fire_lowers : (p : Node) (rule : Rule) → Quiet p → at_rest rule ≡ false → Told w last rows p rule → Lower p (fired p rule)
    unfolding fired
    fire_lowers p Rest h fires t = absurd (true≢false fires)
    fire_lowers p Echo h fires t =
        record {
          quiet = record { no_jump = h.no_jump; no_wake = h.no_wake; before = h.before; stops = h.stops };
          lower = omega arith;
        }
    fire_lowers p Tick h fires t =
        record {
          quiet =
              record {
                no_jump = none_higher w ECHO (p.faults + 1) (omega arith) (p.tick + 2) (p.tick + 1 + 2) rows (omega arith) h.no_jump;
                no_wake = h.no_wake;
                before = omega (arith, early);
                stops = h.stops;
              };
          lower = omega (arith, early);
        }
      where
        early : p.tick < end
        early =
            elim (ℕ_discrete p.tick end) [
              | yes e ↦ absurd (h.stops (subst (TicksAt p) e t))
              | no n ↦ omega (arith, h.before)
            ]
    fire_lowers p (Jump l) h fires t = absurd (omega (arith, t, h.no_jump))
    fire_lowers p (Wake x) h fires t = absurd (omega (arith, wake_told w last rows p x t, h.no_wake))

    pub quiet_rests : (b : ℕ) (p : Node) → left p ≤ b → Quiet p → RestsIn b p
    quiet_rests zero p q h =
        elim (rest_or (first_rule w last rows p)) [
          | inl e ↦ rests_now zero p e
          | inr fires ↦ absurd (omega (arith, (fire_lowers p (first_rule w last rows p) h fires (told w last rows p)).lower))
        ]
    quiet_rests (suc b) p q h =
        rests_by (suc b) b p (omega arith)
        (λ rule fires t. let f = fire_lowers p rule h fires t in quiet_rests b (fired p rule) (omega (arith, f.lower)) f.quiet)
