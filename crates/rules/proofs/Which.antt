-- The rule that fires first is the one that the paper names (01, "One delivery"): for rows with no serial twice, `first_rule` answers
-- a rule exactly where its condition holds, none before it in the list does, and its tick is the greatest.
-- Assumes nothing.
use mathlib.Core.Path.{◌≡◌, refl, sym, subst}
use mathlib.Core.Logic.Iff
use mathlib.Core.Logic.{◌↔◌, inl, inr, ⊎_elim}
use mathlib.Core.Bool.{Bool, true, false, cond, ◌&&◌, ◌||◌, false≢true}
use mathlib.Core.List.{List}
use Prim.Native.Nat.{ℕ, zero, suc, ◌+◌, ◌≤◌, ◌<◌}
use native.Mathlib.Decide.{dec_lt}
use native.Mathlib.Omega.{arith}
use borrow.Author.Tests.{leb-true, le-leb, eqb-true, eqb-false, not-true}
use lib.Dec.{leb, ltb, eqb}
use Rattle.fields.specs.Kind.{INIT, ECHO}
use Rattle.forms.specs.Table.{◌or◌, Twice}
use Rattle.forms.proofs.Meaning.{Decides, less, opposite, either, both}
use Rattle.evidence.specs.Rows.{Row}
use Rattle.evidence.specs.Holders.{holders, greatest}
use Rattle.evidence.specs.Serials.{serials_in, HeldBy}
use Rattle.evidence.proofs.Greatest.{greatest_held, greatest_most}
use Rattle.evidence.proofs.Serials.{held_by_says}
use Rattle.rules.specs.Rules.{can_r1, can_r2, can_r3, jump_to, wake_at, or_jump, or_wake, first_rule}
use Rattle.rules.specs.Which.{Greatest, R1, R2, R3, R4, R5, Fires}
use Rattle.rules.specs.declared.node.Node.{Node}
use Rattle.rules.specs.declared.node.Rule.{Rule}
use Rattle.rules.specs.declared.node.Rule.TheVariants.{Rest, Echo, Tick, Jump, Wake}
use Rattle.rules.proofs.Firing.{first_rule_lem}

-- ---- tests that fail

fails : (t : Bool) {C : Type 0} → Decides t C → (C → ⊥) → t ≡ false
fails t d n = not-true t ((opposite t d).1 n)

failed : {C : Type 0} → Decides false C → C → ⊥
failed d c = false≢true (d.1 c)

-- ---- the greatest tick

-- what a number says that stands for the greatest tick of a condition: tick + 1, and 0 where it holds nowhere
abbrev Stands : (ℕ → Type 0) → ℕ → Type 0
Stands condition zero = (t : ℕ) → condition t → ⊥
Stands condition (suc t) = Greatest condition t

-- it is one number
stands_once : (condition : ℕ → Type 0) (m n : ℕ) → Stands condition m → Stands condition n → m ≡ n
stands_once condition zero zero g h = refl
stands_once condition zero (suc n) g h = absurd (g n h.holds)
stands_once condition (suc m) zero g h = absurd (h m g.holds)
stands_once condition (suc m) (suc n) g h =
    elim (dec_lt m n) [
      | yes p ↦ absurd (g.none_above n p h.holds)
      | no p ↦ elim (dec_lt n m) [ yes q ↦ absurd (h.none_above m q g.holds) | no q ↦ omega arith ]
    ]

module _ (w : ℕ) (rows : List Row) (once : Twice (serials_in rows) → ⊥) where
  -- `greatest` stands for the greatest tick of a condition that asks for a tick from low on and some serials that hold it
  greatest_stands : (kind m low : ℕ) (condition : ℕ → Type 0) →
      ((t : ℕ) → ((low ≤ t) × HeldBy w kind t (m + 1) rows) ↔ condition t) →
      Stands condition (greatest w kind (m + 1) low rows)
  greatest_stands kind m low condition says = go (greatest w kind (m + 1) low rows) refl
    where
      most : (t : ℕ) → condition t → t < greatest w kind (m + 1) low rows
      most t c =
          let h = (says t).1 c in
          let held = (held_by_says w kind t (m + 1) rows once).1 h.1 in
          greatest_most w kind (m + 1) low rows t h.0 held (omega arith)

      go : (n : ℕ) → greatest w kind (m + 1) low rows ≡ n → Stands condition n
      go zero e = λ t c. omega (arith, most t c)
      go (suc t) e =
          let h = greatest_held w kind (m + 1) low rows t e in
          record {
            holds = (says t).0 (h.0, (held_by_says w kind t (m + 1) rows once).0 h.1);
            none_above = λ u q c. omega (arith, most u c);
          }

  -- the test of R1, R2 and R3: enough rows hold a tick, and one number is below another
  test_says : (kind t m a b : ℕ) → Decides (leb m (holders w kind t rows) && ltb a b) (HeldBy w kind t m rows × (a < b))
  test_says kind t m a b = both _ _ (Iff.trans (leb-true _ _, le-leb _ _) (held_by_says w kind t m rows once)) (less a b)

module _ (w last : ℕ) (rows : List Row) (p : Node) (once : Twice (serials_in rows) → ⊥) where
  -- ---- each condition is what its test says

  r1_says : Decides (can_r1 w p rows) (R1 w last rows p)
  r1_says = Iff.trans (test_says w rows once INIT _ _ _ _) (λ h. record { held = h.0; unsent = h.1 }, λ h. (h.held, h.unsent))

  r2_says : Decides (can_r2 w p rows) (R2 w last rows p)
  r2_says = Iff.trans (test_says w rows once ECHO _ _ _ _) (λ h. record { held = h.0; unsent = h.1 }, λ h. (h.held, h.unsent))

  echo_says : Decides (can_r1 w p rows || can_r2 w p rows) (R1 w last rows p or R2 w last rows p)
  echo_says = either _ _ r1_says r2_says

  r3_says : Decides (can_r3 w last p rows) (R3 w last rows p)
  r3_says = Iff.trans (test_says w rows once ECHO _ _ _ _) (λ h. record { held = h.0; early = h.1 }, λ h. (h.held, h.early))

  r4_stands : Stands (R4 w last rows p) (jump_to w p rows)
  r4_stands =
      greatest_stands w rows once ECHO p.faults (p.tick + 2) (R4 w last rows p)
      (λ l. (λ h. record { ahead = omega (arith, h.0); held = h.1 }, λ h. (omega (arith, h.ahead), h.held)))

  r5_stands : Stands (R5 w last rows p) (wake_at w p rows)
  r5_stands = go (eqb p.mode 0) refl
    where
      go : (t : Bool) → eqb p.mode 0 ≡ t → Stands (R5 w last rows p) (cond t (greatest w INIT (p.faults + 1) 0 rows) 0)
      go true e =
          greatest_stands w rows once INIT p.faults 0 (R5 w last rows p)
          (λ x. (λ h. record { passive = eqb-true _ _ e; held = h.1 }, λ h. (omega arith, h.held)))
      go false e = λ x h. eqb-false _ _ e h.passive

  -- ---- the first rule

  first_fires : Fires w last rows p (first_rule w last rows p)
  first_fires =
      subst (Fires w last rows p) (sym (first_rule_lem w last rows p))
      (go _ echo_says _ r3_says (jump_to w p rows) r4_stands (wake_at w p rows) r5_stands)
    where
      go : (a : Bool) → Decides a (R1 w last rows p or R2 w last rows p) →
          (b : Bool) → Decides b (R3 w last rows p) →
          (l : ℕ) → Stands (R4 w last rows p) l →
          (x : ℕ) → Stands (R5 w last rows p) x →
          Fires w last rows p (cond a Echo (cond b Tick (or_jump l (or_wake x))))
      go true echo b r3 l r4 x r5 = echo.0 refl
      go false echo true r3 l r4 x r5 = (λ h. failed echo (inl h), λ h. failed echo (inr h), r3.0 refl)
      go false echo false r3 (suc l) r4 x r5 = (λ h. failed echo (inl h), λ h. failed echo (inr h), failed r3, r4)
      go false echo false r3 zero r4 (suc x) r5 = (λ h. failed echo (inl h), λ h. failed echo (inr h), failed r3, r4, r5)
      go false echo false r3 zero r4 zero r5 = (λ h. failed echo (inl h), λ h. failed echo (inr h), failed r3, r4, r5)

  no_echo : (R1 w last rows p → ⊥) → (R2 w last rows p → ⊥) → (can_r1 w p rows || can_r2 w p rows) ≡ false
  no_echo r1 r2 = fails _ echo_says (⊎_elim r1 r2)

  jumps : (n : ℕ) → Stands (R4 w last rows p) n → jump_to w p rows ≡ n
  jumps n h = stands_once (R4 w last rows p) (jump_to w p rows) n r4_stands h

  wakes : (n : ℕ) → Stands (R5 w last rows p) n → wake_at w p rows ≡ n
  wakes n h = stands_once (R5 w last rows p) (wake_at w p rows) n r5_stands h

  fires_first : (rule : Rule) → Fires w last rows p rule → first_rule w last rows p ≡ rule
  fires_first Echo h = rw (first_rule_lem w last rows p, echo_says.1 h)
  fires_first Tick h = rw (first_rule_lem w last rows p, no_echo h.0 h.1, r3_says.1 h.2)
  fires_first (Jump l) h = rw (first_rule_lem w last rows p, no_echo h.0 h.1, fails _ r3_says h.2, jumps (suc l) h.3)
  fires_first (Wake x) h =
      rw (first_rule_lem w last rows p, no_echo h.0 h.1, fails _ r3_says h.2, jumps 0 h.3, wakes (suc x) h.4)
  fires_first Rest h = rw (first_rule_lem w last rows p, no_echo h.0 h.1, fails _ r3_says h.2, jumps 0 h.3, wakes 0 h.4)

-- the first rule is the one that the paper names
pub which_says : (w last : ℕ) (rows : List Row) (p : Node) (rule : Rule) →
    (Twice (serials_in rows) → ⊥) →
    (first_rule w last rows p ≡ rule) ↔ Fires w last rows p rule
which_says w last rows p rule once =
    (λ e. subst (Fires w last rows p) e (first_fires w last rows p once), fires_first w last rows p once rule)
