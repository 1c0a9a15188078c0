-- The counter of `settle` never decides: a delivery to a node at rest comes to rest within 7 firings, and within 4 where n ≥ 2.
-- On rows at rest no tick above k + 1 has f + 1 holders of its echo, and a frame gives one holder more to at most three ticks j, j - 1,
-- j - 2, of its own kind alone (AfterFrame). So at k an echo may be sent, and then R3, R4 or R5 fires, once: after that no jump and no wake
-- is left, and R3 and echoes take turns up to a tick that n - f do not hold. That tick is near. After R3 it is k + 2 and after R4 it is l
-- where n ≥ 2, since f + 1 < n - f there, and one further for a node alone; after R5 it is k where that stays, else the tick behind the
-- new one. And where n ≥ 2 and echo k is unsent R3 can't fire at k: R2 could not, so at most f held k, and now at most f + 1.
-- Assumes nothing.
use mathlib.Core.Path.{◌≡◌, refl, ap, ◌∙◌, subst}
use mathlib.Core.Bool.{Bool, true, false, true≢false}
use mathlib.Core.List.{List}
use Prim.Native.Nat.{ℕ, suc, ◌+◌, ◌-◌, ◌*◌, ◌≤◌, ◌<◌, max}
use native.Mathlib.Decide.{dec_le, ℕ_discrete}
use native.Mathlib.Omega.{arith}
use lib.Dec.{eqb}
use Rattle.fields.specs.Kind.{ECHO}
use Rattle.forms.specs.Column.{count}
use Rattle.forms.specs.declared.frame.Frame.{Frame}
use Rattle.evidence.specs.Rows.{Row, credit}
use Rattle.evidence.specs.Holders.{holders, greatest}
use Rattle.evidence.specs.Serials.{serials_in}
use Rattle.evidence.proofs.Greatest.{greatest_held, greatest_most, greatest_none, few_none, none_higher}
use Rattle.evidence.proofs.Growth.{holders_more}
use Rattle.rules.specs.Delivery.{State, credited, settled, delivered}
use Rattle.rules.specs.Describe.{most_firings}
use Rattle.rules.specs.Rules.{jump_to, wake_at, first_rule, at_rest, clocked, fired, settle}
use Rattle.rules.specs.Steps.{JustCredited}
use Rattle.rules.specs.declared.node.Node.{Node}
use Rattle.rules.specs.declared.node.Rule.{Rule}
use Rattle.rules.specs.declared.node.Rule.TheVariants.{Rest, Echo, Tick, Jump, Wake}
use Rattle.rules.proofs.AfterFrame.{few, still, unsent_few, near, calm, echo_asleep, echoes_stay, init_no_tick, init_no_jump}
use Rattle.rules.proofs.Firing.{Told, wake_told, settle_further}
use Rattle.rules.proofs.Within.{RestsIn, TicksAt, rests_sooner, rests_by, quiet_rests}

-- ---- the figures

-- how many rules fire at most: of a node alone on its roster, which is the most of any node, and of one of two or more
abbrev pub firings_alone : ℕ
firings_alone = 7

abbrev pub firings_together : ℕ
firings_together = 4

-- and how many records are sent: a node alone has nobody to answer
abbrev pub records_alone : ℕ
records_alone = firings_alone

abbrev pub records_together : ℕ
records_together = firings_together + 1

-- ---- one delivery to a node at rest

-- after the greatest jump there is none
jump_done : (w m low l : ℕ) (rows : List Row) → greatest w ECHO m low rows ≡ suc l → greatest w ECHO m (l - 1 + 2) rows ≡ 0
jump_done w m low l rows e =
    greatest_none w ECHO m (l - 1 + 2) rows (λ t p q r. omega (arith, e, greatest_most w ECHO m low rows t (below t p) q r))
  where
    below : (t : ℕ) → l - 1 + 2 ≤ t → low ≤ t
    below t p = let h = greatest_held w ECHO m low rows l e in omega (arith, h.0)

module _
    (w last : ℕ) (s : State) (port kind j : ℕ) (wide : 0 < w) (many : 3 * s.node.faults + 1 ≤ s.node.lines)
    (once : count port (serials_in s.rows) ≤ 1) (rest : first_rule w last s.rows s.node ≡ Rest)
  where
    abbrev p : Node
    p = s.node

    abbrev rows : List Row
    rows = credit w port kind j s.rows

    abbrev enough : ℕ
    enough = p.faults + 1

    abbrev TicksNow : ℕ → Type 0
    TicksNow t = TicksAt w last rows p t

    -- ---- the frame

    -- the rows are those just after it, be it an echo or an init
    abbrev after : (echo : Bool) → eqb kind ECHO ≡ echo → JustCredited w last p rows echo j
    after echo e = record { before = s.rows; rest = rest; port = port; kind = kind; which = e; after = refl }

    abbrev just : JustCredited w last p rows (eqb kind ECHO) j
    just = after (eqb kind ECHO) refl

    -- two cases of it
    by_kind : {A : Type 0} → (JustCredited w last p rows true j → A) → (JustCredited w last p rows false j → A) → A
    by_kind {A = A} echo init = go (eqb kind ECHO) refl
      where
        go : (e : Bool) → eqb kind ECHO ≡ e → A
        go true q = echo (after true q)
        go false q = init (after false q)

    -- it gives a tick one holder more at most
    more : (t : ℕ) → holders w ECHO t rows ≤ holders w ECHO t s.rows + 1
    more t = omega (arith, holders_more w port kind j ECHO t s.rows, once)

    -- where R3 can fire at k, k is one of its ticks
    ticks_near : TicksNow p.tick → (p.tick ≤ j) × (j ≤ p.tick + 2)
    ticks_near h =
        near w last just wide ECHO p.tick
        (elim (dec_le (holders w ECHO p.tick rows) (holders w ECHO p.tick s.rows)) [
          | yes q ↦ absurd (still w last just (omega (arith, h.0), h.1))
          | no q ↦ omega arith
        ])

    -- ---- where the clock stops after it has left k: one tick further for a node alone

    record Stops (further : ℕ) : Type 0 where
      ticked : TicksNow p.tick → TicksNow (p.tick + 2 + further) → ⊥
      jumped : (l : ℕ) → jump_to w p rows ≡ suc l → TicksNow (l + further) → ⊥
      -- with others, a node whose echo is unsent has too few holders for R3
      either : further ≡ 0 → p.sent < p.tick → TicksNow p.tick → ⊥

    stops_alone : Stops 1
    stops_alone =
        record {
          ticked = λ h g.
              omega (arith, (ticks_near h).1, (calm w last just wide (p.tick + 2 + 1) (omega arith) (omega (arith, g.0))).0);
          jumped = λ l e g.
              let held = greatest_held w ECHO enough (p.tick + 2) rows l e in
              omega (
                arith,
                e,
                greatest_most w ECHO enough (p.tick + 2) rows (l + 1) (omega (arith, held.0)) (omega (arith, g.0))
                    (omega (arith, g.0)),
              );
          either = λ e late h. omega (arith, e);
        }

    stops_together : 2 ≤ p.lines → Stops 0
    stops_together others =
        record {
          ticked = λ h g. omega (arith, few w last just (p.tick + 2 + 0) (omega arith), more (p.tick + 2 + 0), g.0);
          jumped = λ l e g.
              let held = greatest_held w ECHO enough (p.tick + 2) rows l e in
              omega (arith, few w last just (l + 0) (omega (arith, held.0)), more (l + 0), g.0);
          either = λ e late h. omega (arith, unsent_few w last just late, more p.tick, h.0);
        }

    -- ---- the clock leaves k, once

    -- the node at k with this last echo
    abbrev at : ℕ → Node
    at e = clocked p p.mode p.tick e

    after_wake : (e x : ℕ) → Told w last rows (at e) (Wake x) → RestsIn w last rows 2 (fired (at e) (Wake x))
    unfolding fired
    after_wake e x t = by_kind (λ h. absurd (omega (arith, awake, echo_asleep w last h))) (λ h. woken h (dec_le (x - 1) p.tick))
      where
        awake : wake_at w p rows ≡ suc x
        awake = wake_told w last rows (at e) x t

        k : ℕ
        k = max (x - 1) p.tick

        no_jump : JustCredited w last p rows false j → greatest w ECHO enough (k + 2) rows ≡ 0
        no_jump h = none_higher w ECHO enough (omega arith) (p.tick + 2) (k + 2) rows (omega arith) (init_no_jump w last h)

        woken : JustCredited w last p rows false j → Dec (x - 1 ≤ p.tick) → RestsIn w last rows 2 (clocked p 1 k (max e k))
        woken h (yes q) =
            quiet_rests w last rows k 2 (clocked p 1 k (max e k)) (omega arith)
            (record {
              no_jump = no_jump h;
              no_wake = refl;
              before = omega arith;
              stops = λ t. init_no_tick w last h (subst TicksNow (omega arith) t);
            })
        woken h (no q) =
            quiet_rests w last rows (k + 1) 2 (clocked p 1 k (max e k)) (omega arith)
            (record {
              no_jump = no_jump h;
              no_wake = refl;
              before = omega arith;
              stops = λ t. omega (arith, t.0, echoes_stay w last h (k + 1), few w last h (k + 1) (omega arith));
            })

    module _ (further : ℕ) (st : Stops further) where
      after_tick : (e : ℕ) → TicksNow p.tick → RestsIn w last rows (2 * further + 3) (fired (at e) Tick)
      unfolding fired
      after_tick e h = by_kind ticked (λ f. absurd (init_no_tick w last f h))
        where
          far : (t : ℕ) → p.tick + 1 + 2 ≤ t → holders w ECHO t rows < enough
          far t q =
              elim (dec_le enough (holders w ECHO t rows)) [
                | yes g ↦ absurd (omega (arith, (calm w last just wide t (omega arith) g).0, (ticks_near h).1))
                | no g ↦ omega arith
              ]

          ticked : JustCredited w last p rows true j → RestsIn w last rows (2 * further + 3) (clocked p p.mode (p.tick + 1) e)
          ticked f =
              quiet_rests w last rows (p.tick + 2 + further) (2 * further + 3) (clocked p p.mode (p.tick + 1) e) (omega arith)
              (record {
                no_jump = few_none w ECHO enough (omega arith) (p.tick + 1 + 2) rows far;
                no_wake = echo_asleep w last f;
                before = omega arith;
                stops = st.ticked h;
              })

      after_jump : (e l : ℕ) → jump_to w p rows ≡ suc l → RestsIn w last rows (2 * further + 2) (fired (at e) (Jump l))
      unfolding fired
      after_jump e l q = by_kind jumped (λ f. absurd (omega (arith, q, init_no_jump w last f)))
        where
          jumped : JustCredited w last p rows true j → RestsIn w last rows (2 * further + 2) (clocked p p.mode (l - 1) (l - 1))
          jumped f =
              let held = greatest_held w ECHO enough (p.tick + 2) rows l q in
              quiet_rests w last rows (l + further) (2 * further + 2) (clocked p p.mode (l - 1) (l - 1)) (omega (arith, held.0))
              (record {
                no_jump = jump_done w enough (p.tick + 2) l rows q;
                no_wake = echo_asleep w last f;
                before = omega arith;
                stops = st.jumped l q;
              })

      -- whichever rule fires at k
      moved :
          (b e : ℕ)
          → (e < p.tick → RestsIn w last rows b (at p.tick))
          → (TicksNow p.tick → 2 * further + 3 ≤ b)
          → 2 * further + 2 ≤ b
          → (rule : Rule)
          → at_rest rule ≡ false
          → Told w last rows (at e) rule
          → RestsIn w last rows b (fired (at e) rule)
      unfolding fired
      moved b e echo tick most Rest fires t = absurd (true≢false fires)
      moved b e echo tick most Echo fires t = echo t
      moved b e echo tick most Tick fires t = rests_sooner w last rows (2 * further + 3) b (fired (at e) Tick) (tick t) (after_tick e t)
      moved b e echo tick most (Jump l) fires t =
          rests_sooner w last rows (2 * further + 2) b (fired (at e) (Jump l)) most (after_jump e l t)
      moved b e echo tick most (Wake x) fires t = rests_sooner w last rows 2 b (fired (at e) (Wake x)) (omega arith) (after_wake e x t)

      -- an echo, and then the clock leaves k; or the clock leaves k at once
      comes_to_rest : RestsIn w last rows (3 * further + 4) p
      comes_to_rest =
          rests_by w last rows (3 * further + 4) (3 * further + 3) p (omega arith)
          (moved (3 * further + 3) p.sent echoed (λ h. omega arith) (omega arith))
        where
          echoed : p.sent < p.tick → RestsIn w last rows (3 * further + 3) (at p.tick)
          echoed late =
              rests_by w last rows (3 * further + 3) (3 * further + 2) (at p.tick) (omega arith)
              (moved (3 * further + 2) p.tick (λ q. absurd (omega arith)) ticks (omega arith))
            where
              ticks : TicksNow p.tick → 2 * further + 3 ≤ 3 * further + 2
              ticks h = elim (ℕ_discrete further 0) [ yes e ↦ absurd (st.either e late h) | no n ↦ omega arith ]

-- ---- what a delivery promises

module _
    (w last : ℕ) (s : State) (port : ℕ) (frame : Frame) (wide : 0 < w) (many : 3 * s.node.faults + 1 ≤ s.node.lines)
    (once : count port (serials_in s.rows) ≤ 1) (rest : first_rule w last s.rows s.node ≡ Rest)
  where
    within : (further : ℕ) → Stops w last s port frame.kind frame.tick wide many once rest further →
        RestsIn w last (credited w s port frame) (3 * further + 4) s.node
    within = comes_to_rest w last s port frame.kind frame.tick wide many once rest

    soon : RestsIn w last (credited w s port frame) firings_alone s.node
    soon = within 1 (stops_alone w last s port frame.kind frame.tick wide many once rest)

    -- no rule can fire after it
    pub delivered_rests : let d = delivered w last s port frame in first_rule w last d.state.rows d.state.node ≡ Rest
    unfolding delivered settled
    delivered_rests = (soon most_firings (omega arith)).0

    -- and few did
    pub delivered_firings :
        let d = delivered w last s port frame in
        (d.firings ≤ firings_alone) × (2 ≤ s.node.lines → d.firings ≤ firings_together)
    unfolding delivered settled
    delivered_firings = ((soon most_firings (omega arith)).1, λ others. (within 0 (together others) most_firings (omega arith)).1)
      where
        together : 2 ≤ s.node.lines → Stops w last s port frame.kind frame.tick wide many once rest 0
        together = stops_together w last s port frame.kind frame.tick wide many once rest

    -- as many as with any greater counter
    pub counter_never_decides :
        (c : ℕ)
        → most_firings ≤ c
        → settle w last (credited w s port frame) c s.node ≡ settled w last s port frame
    unfolding settled
    counter_never_decides c q =
        ap (λ (n : ℕ). settle w last (credited w s port frame) n s.node) (omega arith)
        ∙ settle_further w last (credited w s port frame) most_firings s.node (soon most_firings (omega arith)).0 (c - most_firings)
