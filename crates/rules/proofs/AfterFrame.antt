-- What a frame can do to a node that was at rest. Before it no tick above k + 1 had f + 1 holders of its echo; it gives holders to at most
-- three ticks j, j - 1, j - 2, an init to j alone, and only of its own kind. So after an echo R1 and R5 can't fire, nor can any rule where
-- j is below k, and R4 only to one of the three; after an init R2, R3 and R4 can't, and R1 and R5 only at j.
-- Assumes nothing.
use mathlib.Core.Path.{◌≡◌, refl, sym, ap, ◌∙◌, subst}
use mathlib.Core.Logic.{◌⊎◌, inl, inr}
use mathlib.Core.Bool.{Bool, true, false, cond, ◌&&◌, true≢false, false≢true, and-eq-true_iff, and-false}
use mathlib.Core.List.Memᴰ
use mathlib.Core.List.{List, [], Memᴰ}
use Prim.Native.Nat.{ℕ, zero, suc, ◌+◌, ◌-◌, ◌≤◌, ◌<◌}
use native.Mathlib.Decide.{dec_le, ℕ_discrete}
use native.Mathlib.Omega.{arith}
use borrow.Author.Tests.{leb-true, leb-false, le-leb, lt-ltb, eqb-true, eq-eqb}
use lib.Dec.{leb, eqb}
use Rattle.fields.specs.Kind.{INIT, ECHO}
use Rattle.sets.specs.Ticks.{run, added}
use Rattle.evidence.specs.Rows.{Row}
use Rattle.evidence.specs.Holders.{holders, greatest}
use Rattle.evidence.proofs.Greatest.{greatest_none, greatest_is, none_few, few_none}
use Rattle.evidence.proofs.Growth.{added_near, holders_less, holders_other}
use Rattle.rules.specs.Rules.{unsent, can_r1, can_r2, can_r3, jump_to, wake_at, or_jump, or_wake, first_rule}
use Rattle.rules.specs.Steps.{JustCredited}
use Rattle.rules.specs.declared.node.Node.{Node}
use Rattle.rules.specs.declared.node.Rule.TheVariants.{Rest, Echo, Tick}
use Rattle.rules.proofs.Firing.{Told, told}
use Rattle.rules.proofs.Within.{TicksAt}

-- ---- tests of two parts

-- a test of two parts that fails
not_both : (a b : Bool) → (a && b) ≡ false → a ≡ true → b ≡ true → ⊥
not_both a b e f g = false≢true (sym e ∙ (and-eq-true_iff a b).1 (f, g))

-- fails where fewer hold, too
fails_too : (m x y : ℕ) (b : Bool) → x ≤ y → (leb m y && b) ≡ false → (leb m x && b) ≡ false
fails_too m x y b p e = go (leb m x) refl b e
  where
    go : (a : Bool) → leb m x ≡ a → (b : Bool) → (leb m y && b) ≡ false → (a && b) ≡ false
    go false f b e = refl
    go true f false e = refl
    go true f true e = absurd (not_both (leb m y) true e (le-leb m y (omega (arith, leb-true m x f))) refl)

-- ---- an init adds one tick

init_adds : (kind j t : ℕ) → eqb kind ECHO ≡ false → Memᴰ t (added kind j) → t ≡ j
unfolding added run
init_adds kind j t e m = go j (subst (λ (echo : Bool). Memᴰ t (run (cond echo 3 1) j)) e m)
  where
    last_one : (x : ℕ) → (t ≡ x) ⊎ Memᴰ t [] → t ≡ x
    last_one x (inl e) = e
    last_one x (inr n) = absurd (Memᴰ.not-nil n)

    go : (j : ℕ) → Memᴰ t (run 1 j) → t ≡ j
    go zero m = last_one zero (Memᴰ.cases_cons m)
    go (suc j) m = last_one (suc j) (Memᴰ.cases_cons m)

module _ (w last : ℕ) {p : Node} {rows : List Row} {echo : Bool} {j : ℕ} (h : JustCredited w last p rows echo j) where
  -- ---- before the frame no rule could fire

  none : Told w last h.before p Rest
  none = subst (Told w last h.before p) h.rest (told w last h.before p)

  -- above k + 1 no tick had f + 1 holders
  pub few : (t : ℕ) → p.tick + 2 ≤ t → holders w ECHO t h.before < p.faults + 1
  few = none_few w ECHO (p.faults + 1) (omega arith) (p.tick + 2) h.before none.2

  pub still : TicksAt w last h.before p p.tick → ⊥
  still t = not_both _ _ none.1 (le-leb _ _ t.0) (lt-ltb _ _ t.1)

  pub unsent_few : p.sent < p.tick → holders w ECHO p.tick h.before < p.faults + 1
  unsent_few late =
      elim (dec_le (p.faults + 1) (holders w ECHO p.tick h.before)) [
        | yes q ↦ absurd (not_both _ _ none.0 (le-leb _ _ q) (lt-ltb _ _ late))
        | no q ↦ omega arith
      ]

  -- ---- the frame

  -- no tick gains a holder but those that it adds
  less : 0 < w → (k t : ℕ) → (Memᴰ t (added h.kind j) → ⊥) → holders w k t rows ≤ holders w k t h.before
  less wide k t n = omega (arith, ap (holders w k t) h.after, holders_less w h.port h.kind j k t h.before wide n)

  -- and those are near its own
  pub near : 0 < w → (k t : ℕ) → holders w k t h.before < holders w k t rows → (t ≤ j) × (j ≤ t + 2)
  near wide k t gained = go (dec_le t j) (dec_le j (t + 2))
    where
      away : ((t ≤ j) × (j ≤ t + 2) → ⊥) → ⊥
      away n = omega (arith, less wide k t (λ m. n (added_near h.kind j t m)))

      go : Dec (t ≤ j) → Dec (j ≤ t + 2) → (t ≤ j) × (j ≤ t + 2)
      go (yes a) (yes b) = (a, b)
      go (yes a) (no b) = absurd (away (λ q. b q.1))
      go (no a) d = absurd (away (λ q. a q.0))

  -- so above k + 1 only its ticks have f + 1 holders
  pub calm : 0 < w → (t : ℕ) → p.tick + 2 ≤ t → p.faults + 1 ≤ holders w ECHO t rows → (t ≤ j) × (j ≤ t + 2)
  calm wide t q enough = near wide ECHO t (omega (arith, few t q))

  -- nothing of the other kind gains or loses a holder
  other : (k t : ℕ) → (echo ≡ eqb k ECHO → ⊥) → holders w k t rows ≡ holders w k t h.before
  other k t n = ap (holders w k t) h.after ∙ holders_other w h.port h.kind j k t h.before (λ e. n (sym h.which ∙ e))

-- ---- after an echo

module _ (w last : ℕ) {p : Node} {rows : List Row} {j : ℕ} (h : JustCredited w last p rows true j) where
  inits_stay : (t : ℕ) → holders w INIT t rows ≡ holders w INIT t h.before
  inits_stay t = other w last h INIT t true≢false

  no_R1 : can_r1 w p rows ≡ false
  no_R1 = fails_too (p.faults + 1) _ _ (unsent p) (omega (arith, inits_stay p.tick)) (none w last h).4

  -- it wakes nobody
  pub echo_asleep : wake_at w p rows ≡ 0
  echo_asleep = go (eqb p.mode 0) (none w last h).3
    where
      go :
          (passive : Bool) → cond passive (greatest w INIT (p.faults + 1) 0 h.before) 0 ≡ 0 →
          cond passive (greatest w INIT (p.faults + 1) 0 rows) 0 ≡ 0
      go true z =
          few_none w INIT (p.faults + 1) (omega arith) 0 rows
          (λ t q. omega (arith, inits_stay t, none_few w INIT (p.faults + 1) (omega arith) 0 h.before z t q))
      go false z = refl

  pub echo_first :
      first_rule w last rows p ≡ cond (can_r2 w p rows) Echo (cond (can_r3 w last p rows) Tick (or_jump (jump_to w p rows) Rest))
  unfolding first_rule
  echo_first = rw (no_R1, echo_asleep)

  -- an echo below k changes nothing from k on
  pub echo_late : 0 < w → j < p.tick → first_rule w last rows p ≡ Rest
  echo_late wide late = echo_first ∙ rw (no_R2, no_R3, no_R4)
    where
      same : holders w ECHO p.tick rows ≤ holders w ECHO p.tick h.before
      same = less w last h wide ECHO p.tick (λ m. omega (arith, added_near h.kind j p.tick m))

      no_R2 : can_r2 w p rows ≡ false
      no_R2 = fails_too (p.faults + 1) _ _ (unsent p) same (none w last h).0

      no_R3 : can_r3 w last p rows ≡ false
      no_R3 = fails_too (p.lines - p.faults) _ _ _ same (none w last h).1

      no_R4 : jump_to w p rows ≡ 0
      no_R4 = greatest_none w ECHO (p.faults + 1) (p.tick + 2) rows (λ t q r s. omega (arith, calm w last h wide t q r))

-- ---- after an init

module _ (w last : ℕ) {p : Node} {rows : List Row} {j : ℕ} (h : JustCredited w last p rows false j) where
  pub echoes_stay : (t : ℕ) → holders w ECHO t rows ≡ holders w ECHO t h.before
  echoes_stay t = other w last h ECHO t false≢true

  -- it moves no clock but by waking the node
  pub init_no_tick : TicksAt w last rows p p.tick → ⊥
  init_no_tick t = still w last h (omega (arith, t.0, echoes_stay p.tick), t.1)

  pub init_no_jump : jump_to w p rows ≡ 0
  init_no_jump =
      few_none w ECHO (p.faults + 1) (omega arith) (p.tick + 2) rows (λ t q. omega (arith, few w last h t q, echoes_stay t))

  init_first : first_rule w last rows p ≡ cond (can_r1 w p rows) Echo (or_wake (wake_at w p rows))
  unfolding first_rule
  init_first = rw (no_R2, no_R3, init_no_jump)
    where
      no_R2 : can_r2 w p rows ≡ false
      no_R2 = fails_too (p.faults + 1) _ _ (unsent p) (omega (arith, echoes_stay p.tick)) (none w last h).0

      no_R3 : can_r3 w last p rows ≡ false
      no_R3 = fails_too (p.lines - p.faults) _ _ _ (omega (arith, echoes_stay p.tick)) (none w last h).1

  -- its own tick alone has a new holder
  only : 0 < w → (t : ℕ) → holders w INIT t h.before < holders w INIT t rows → t ≡ j
  only wide t gained =
      elim (ℕ_discrete t j) [
        | yes e ↦ e
        | no n ↦ absurd (omega (arith, less w last h wide INIT t (λ m. n (init_adds h.kind j t h.which m))))
      ]

  -- so R5 fires at that tick or not at all
  init_wakes :
      0 < w → wake_at w p rows ≡ cond (eqb p.mode 0) (cond (leb (p.faults + 1) (holders w INIT j rows)) (suc j) 0) 0
  init_wakes wide = go (eqb p.mode 0) (none w last h).3
    where
      found :
          ((t : ℕ) → p.faults + 1 ≤ holders w INIT t rows → t ≡ j) → (held : Bool) →
          leb (p.faults + 1) (holders w INIT j rows) ≡ held →
          greatest w INIT (p.faults + 1) 0 rows ≡ cond held (suc j) 0
      found one true e =
          let held = leb-true (p.faults + 1) (holders w INIT j rows) e in
          greatest_is w INIT (p.faults + 1) 0 rows j (omega arith) held (omega arith) (λ t q r s. omega (arith, one t r))
      found one false e =
          greatest_none w INIT (p.faults + 1) 0 rows
          (λ t q r s.
          let held = subst (λ (u : ℕ). p.faults + 1 ≤ holders w INIT u rows) (one t r) r in
          omega (arith, leb-false (p.faults + 1) (holders w INIT j rows) e))

      go :
          (passive : Bool) → cond passive (greatest w INIT (p.faults + 1) 0 h.before) 0 ≡ 0 →
          cond passive (greatest w INIT (p.faults + 1) 0 rows) 0
          ≡ cond passive (cond (leb (p.faults + 1) (holders w INIT j rows)) (suc j) 0) 0
      go true z =
          found
          (λ t r. only wide t (omega (arith, none_few w INIT (p.faults + 1) (omega arith) 0 h.before z t (omega arith))))
          (leb (p.faults + 1) (holders w INIT j rows)) refl
      go false z = refl

  -- and R1 only where it is k and echo k is unsent
  pub init_awaited :
      0 < w → (eqb j p.tick && unsent p) ≡ true →
      first_rule w last rows p ≡ cond (leb (p.faults + 1) (holders w INIT j rows)) Echo Rest
  init_awaited wide e =
      init_first ∙ rw (asks, init_wakes wide) (go (leb (p.faults + 1) (holders w INIT j rows)) (eqb p.mode 0))
    where
      both : (j ≡ p.tick) × (unsent p ≡ true)
      both = let t = (and-eq-true_iff (eqb j p.tick) (unsent p)).0 e in (eqb-true j p.tick t.0, t.1)

      asks : can_r1 w p rows ≡ (leb (p.faults + 1) (holders w INIT j rows) && true)
      asks d = leb (p.faults + 1) (holders w INIT (sym both.0 d) rows) && both.1 d

      go :
          (held passive : Bool) →
          cond (held && true) Echo (or_wake (cond passive (cond held (suc j) 0) 0)) ≡ cond held Echo Rest
      go true passive = refl
      go false true = refl
      go false false = refl

  pub init_not_awaited :
      0 < w → (eqb j p.tick && unsent p) ≡ false →
      first_rule w last rows p
      ≡ or_wake (cond (eqb p.mode 0) (cond (leb (p.faults + 1) (holders w INIT j rows)) (suc j) 0) 0)
  init_not_awaited wide e = init_first ∙ rw (no_R1, init_wakes wide)
    where
      no_R1 : can_r1 w p rows ≡ false
      no_R1 =
          elim (dec_le (holders w INIT p.tick rows) (holders w INIT p.tick h.before)) [
            | yes q ↦ fails_too (p.faults + 1) _ _ (unsent p) q (none w last h).4
            | no q ↦ sent (only wide p.tick (omega arith))
          ]
        where
          sent : p.tick ≡ j → can_r1 w p rows ≡ false
          sent q =
              let unsaid : unsent p ≡ false = rw (eq-eqb j p.tick (sym q)) at e in
              ap (λ (b : Bool). leb (p.faults + 1) (holders w INIT p.tick rows) && b) unsaid
              ∙ and-false (leb (p.faults + 1) (holders w INIT p.tick rows))
