-- Laws of the rules: which fires first and what that tells, what a firing keeps, and firing until none can, with the one induction
-- over it that every other law about settling cites.
-- Assumes nothing.
use mathlib.Core.Path.{◌≡◌, refl, sym, ap, ◌∙◌, subst}
use mathlib.Core.Bool.{Bool, true, false, cond, ◌&&◌, ◌||◌, false≢true, and-eq-true_iff}
use mathlib.Core.Logic.{◌⊎◌, inl, inr}
use mathlib.Core.List.{List, [], ◌∷◌}
use Prim.Native.Nat.{ℕ, zero, suc, ◌+◌, ◌-◌, ◌≤◌, ◌<◌}
use native.Mathlib.Omega.{arith}
use borrow.Author.Tests.{leb-true, ltb-true, eqb-true, eq-eqb}
use lib.Dec.{ltb, leb, eqb}
use lib.ListN.{length}
use Rattle.fields.specs.Kind.{INIT, ECHO}
use Rattle.evidence.specs.Rows.{Row}
use Rattle.evidence.specs.Holders.{holders, greatest}
use Rattle.evidence.proofs.Greatest.{greatest_held, greatest_same}
use Rattle.rules.specs.Record.{Outgoing, Every, broadcast}
use Rattle.rules.specs.Rules.{can_r1, can_r2, can_r3, jump_to, wake_at, or_jump, or_wake, first_rule, at_rest, woken}
use Rattle.rules.specs.Rules.{fired, said, Settled, still, follows, firing, settle}
use Rattle.rules.specs.Steps.{CanFire}
use Rattle.rules.specs.declared.node.Node.{Node}
use Rattle.rules.specs.declared.node.Rule.{Rule}
use Rattle.rules.specs.declared.node.Rule.TheVariants.{Rest, Echo, Tick, Jump, Wake}
use Rattle.rules.proofs.Every.{every_append}

less : (n : ℕ) → n ≡ suc n - 1
less n = omega arith

-- ---- the first rule

pub jump_some : (l : ℕ) (rule : Rule) → 0 < l → or_jump l rule ≡ Jump (l - 1)
jump_some zero rule p = absurd (omega arith)
jump_some (suc l) rule p = ap Jump (less l)

-- R1 and R2 have the same effect
pub first_rule_lem :
    (w last : ℕ) (rows : List Row) (p : Node)
    → let others = cond (can_r3 w last p rows) Tick (or_jump (jump_to w p rows) (or_wake (wake_at w p rows))) in
    first_rule w last rows p ≡ cond (can_r1 w p rows || can_r2 w p rows) Echo others
unfolding first_rule
first_rule_lem w last rows p =
    go (can_r1 w p rows) (can_r2 w p rows) (cond (can_r3 w last p rows) Tick (or_jump (jump_to w p rows) (or_wake (wake_at w p rows))))
  where
    go : (a b : Bool) (rule : Rule) → cond a Echo (cond b Echo rule) ≡ cond (a || b) Echo rule
    go true b rule = refl
    go false b rule = refl

-- it looks at rows through counts alone: where each tick has as many holders of either kind, be it in another window too, it is the same
pub rule_same :
    (v w last : ℕ) (rows others : List Row)
    → ((kind t : ℕ) → holders v kind t rows ≡ holders w kind t others)
    → (p : Node)
    → first_rule v last rows p ≡ first_rule w last others p
unfolding first_rule
rule_same v w last rows others same p =
    λ d.
    cond (leb (p.faults + 1) (same INIT p.tick d) && ltb p.sent p.tick) Echo
    (cond (leb (p.faults + 1) (same ECHO p.tick d) && ltb p.sent p.tick) Echo
    (cond (leb (p.lines - p.faults) (same ECHO p.tick d) && ltb p.tick last) Tick
    (or_jump (greatest_same v w ECHO (p.faults + 1) (p.tick + 2) rows others (same ECHO) d)
    (or_wake (cond (eqb p.mode 0) (greatest_same v w INIT (p.faults + 1) 0 rows others (same INIT) d) 0)))))

-- ---- what a rule that comes first tells

abbrev pub Told : ℕ → ℕ → List Row → Node → Rule → Type 0
Told w last rows p Rest =
    (can_r2 w p rows ≡ false) × (can_r3 w last p rows ≡ false) × (jump_to w p rows ≡ 0) × (wake_at w p rows ≡ 0) × (can_r1 w p rows ≡ false)
Told w last rows p Echo = p.sent < p.tick
Told w last rows p Tick = (p.lines - p.faults ≤ holders w ECHO p.tick rows) × (p.tick < last)
Told w last rows p (Jump l) = jump_to w p rows ≡ suc l
Told w last rows p (Wake x) = (p.mode ≡ 0) × (greatest w INIT (p.faults + 1) 0 rows ≡ suc x)

pub told : (w last : ℕ) (rows : List Row) (p : Node) → Told w last rows p (first_rule w last rows p)
unfolding first_rule
told w last rows p =
    go (can_r1 w p rows) refl (can_r2 w p rows) refl (can_r3 w last p rows) refl (jump_to w p rows) refl (wake_at w p rows) refl
  where
    woke :
        (x : ℕ) (t : Bool)
        → eqb p.mode 0 ≡ t
        → cond t (greatest w INIT (p.faults + 1) 0 rows) 0 ≡ suc x
        → Told w last rows p (Wake x)
    woke x true e f = (eqb-true p.mode 0 e, f)
    woke x false e f = absurd (omega arith)

    go :
        (a : Bool)
        → can_r1 w p rows ≡ a
        → (b : Bool)
        → can_r2 w p rows ≡ b
        → (c : Bool)
        → can_r3 w last p rows ≡ c
        → (l : ℕ)
        → jump_to w p rows ≡ l
        → (x : ℕ)
        → wake_at w p rows ≡ x
        → Told w last rows p (cond a Echo (cond b Echo (cond c Tick (or_jump l (or_wake x)))))
    go true e b f c g l h x i =
        ltb-true p.sent p.tick ((and-eq-true_iff (leb (p.faults + 1) (holders w INIT p.tick rows)) _).0 e).1
    go false e true f c g l h x i =
        ltb-true p.sent p.tick ((and-eq-true_iff (leb (p.faults + 1) (holders w ECHO p.tick rows)) _).0 f).1
    go false e false f true g l h x i =
        let both = (and-eq-true_iff (leb (p.lines - p.faults) (holders w ECHO p.tick rows)) (ltb p.tick last)).0 g in
        (leb-true (p.lines - p.faults) (holders w ECHO p.tick rows) both.0, ltb-true p.tick last both.1)
    go false e false f false g (suc l) h x i = h
    go false e false f false g zero h (suc x) i = woke x (eqb p.mode 0) refl i
    go false e false f false g zero h zero i = (f, g, h, i, e)

pub wake_told : (w last : ℕ) (rows : List Row) (p : Node) (x : ℕ) → Told w last rows p (Wake x) → wake_at w p rows ≡ suc x
wake_told w last rows p x t = rw (eq-eqb p.mode 0 t.0) t.1

-- the first rule can fire: a jump goes past the next tick, so that it is none to 0
pub can_fire : (w last : ℕ) (rows : List Row) (p : Node) → CanFire last p (first_rule w last rows p)
can_fire w last rows p = go (first_rule w last rows p) (told w last rows p)
  where
    go : (rule : Rule) → Told w last rows p rule → CanFire last p rule
    go Rest t = tt
    go Echo t = tt
    go Tick t = t.1
    go (Jump l) t = omega (arith, greatest_held w ECHO (p.faults + 1) (p.tick + 2) rows l t)
    go (Wake x) t = tt

-- no rule, or one that fires
pub rest_or : (rule : Rule) → (rule ≡ Rest) ⊎ (at_rest rule ≡ false)
rest_or Rest = inl refl
rest_or Echo = inr refl
rest_or Tick = inr refl
rest_or (Jump l) = inr refl
rest_or (Wake x) = inr refl

pub rest_true : (rule : Rule) → at_rest rule ≡ true → rule ≡ Rest
rest_true rule e = elim (rest_or rule) [ inl rest ↦ rest | inr fires ↦ absurd (false≢true (sym fires ∙ e)) ]

-- ---- one firing

-- what holds of one record where a test passes, and of none, holds of one that is sent where the test says so
pub one_or_none : (Q : List Outgoing → Type 0) (t : Bool) (r : Outgoing) → (t ≡ true → Q (r ∷ [])) → Q [] → Q (cond t (r ∷ []) [])
one_or_none Q true r one none = one refl
one_or_none Q false r one none = none

pub said_few : (p : Node) (rule : Rule) → length (said p rule) ≤ 1
unfolding said
said_few p Rest = omega arith
said_few p Echo = omega arith
said_few p Tick = omega arith
said_few p (Jump l) = omega arith
said_few p (Wake x) =
    one_or_none (λ l. length l ≤ 1) (ltb p.sent (woken p x)) (broadcast ECHO (woken p x)) (λ e. omega arith) (omega arith)

-- two states of one node: who it is stays
pub record Same (p q : Node) : Type 0 where
  pub lines : p.lines ≡ q.lines
  pub faults : p.faults ≡ q.faults
  pub own : p.own ≡ q.own

pub same_trans : {p q r : Node} → Same p q → Same q r → Same p r
same_trans h k = record { lines = h.lines ∙ k.lines; faults = h.faults ∙ k.faults; own = h.own ∙ k.own }

pub fired_same : (p : Node) (rule : Rule) → Same (fired p rule) p
unfolding fired
fired_same p Rest = omega arith
fired_same p Echo = omega arith
fired_same p Tick = omega arith
fired_same p (Jump l) = omega arith
fired_same p (Wake x) = omega arith

-- ---- firing until none can

module _ (w last : ℕ) (rows : List Row) where
  pub settle_none : (p : Node) → settle w last rows 0 p ≡ still p
  unfolding settle
  settle_none p = refl

  -- a node at which no rule can fire stays as it is
  pub settle_rest : (c : ℕ) (p : Node) → first_rule w last rows p ≡ Rest → settle w last rows c p ≡ still p
  unfolding settle firing
  settle_rest zero p e = refl
  settle_rest (suc c) p e = ap (λ (rule : Rule). firing p rule (settle w last rows c (fired p rule))) e

  -- a rule that can fire does
  pub settle_fires :
      (c : ℕ) (p : Node)
      → let rule = first_rule w last rows p in
      at_rest rule ≡ false
      → settle w last rows (suc c) p ≡ follows p rule (settle w last rows c (fired p rule))
  unfolding settle firing
  settle_fires c p e = rw (e, firing)

  -- the same for a count that is not 0
  pub settle_down :
      (c : ℕ) (p : Node)
      → 0 < c
      → let rule = first_rule w last rows p in
      at_rest rule ≡ false
      → settle w last rows c p ≡ follows p rule (settle w last rows (c - 1) (fired p rule))
  settle_down zero p h e = absurd (omega arith)
  settle_down (suc c) p h e = rw (← less c) (settle_fires c p e)

  -- the step of the induction: a rule fires, and P holds of what follows
  abbrev pub FiringStep : (ℕ → Node → Settled → Type 0) → Type 0
  FiringStep P =
      (c : ℕ) (p : Node)
      → let rule = first_rule w last rows p in
      let next = settle w last rows c (fired p rule) in
      at_rest rule ≡ false
      → P c (fired p rule) next
      → P (suc c) p (follows p rule next)

  -- induction over settling: P of the count, the node and what comes of it
  pub settle_induction :
      (P : ℕ → Node → Settled → Type 0)
      -- the count is used up
      → ((p : Node) → P 0 p (still p))
      -- no rule can fire
      → ((c : ℕ) (p : Node) → first_rule w last rows p ≡ Rest → P (suc c) p (still p))
      → FiringStep P
      → (c : ℕ) (p : Node)
      → P c p (settle w last rows c p)
  settle_induction P used rests fires zero p = subst (P 0 p) (sym (settle_none p)) (used p)
  settle_induction P used rests fires (suc c) p =
      go (rest_or (first_rule w last rows p)) (settle_induction P used rests fires c (fired p (first_rule w last rows p)))
    where
      go :
          let rule = first_rule w last rows p in
          (rule ≡ Rest) ⊎ (at_rest rule ≡ false)
          → P c (fired p rule) (settle w last rows c (fired p rule))
          → P (suc c) p (settle w last rows (suc c) p)
      go (inl e) ih = subst (P (suc c) p) (sym (settle_rest (suc c) p e)) (rests c p e)
      go (inr e) ih = subst (P (suc c) p) (sym (settle_fires c p e)) (fires c p e ih)

  -- once at rest, a greater count changes nothing
  pub settle_further :
      (c : ℕ) (p : Node)
      → first_rule w last rows (settle w last rows c p).node ≡ Rest
      → (d : ℕ)
      → settle w last rows (c + d) p ≡ settle w last rows c p
  settle_further =
      settle_induction Further (λ p e d. settle_rest (0 + d) p e) (λ c p e _ d. settle_rest (suc c + d) p e)
      (λ c p fires ih e d.
      ap (λ (n : ℕ). settle w last rows n p) (onwards c d)
      ∙ settle_fires (c + d) p fires
      ∙ ap (follows p (first_rule w last rows p)) (ih e d))
    where
      Further : ℕ → Node → Settled → Type 0
      Further c p s = first_rule w last rows s.node ≡ Rest → (d : ℕ) → settle w last rows (c + d) p ≡ s

      onwards : (c d : ℕ) → suc c + d ≡ suc (c + d)
      onwards c d = omega arith

  -- what holds of each record that the first rule says, seen from the node in the end, holds of each record of settling. `Kept` is what
  -- firing keeps of the node
  pub settle_every :
      (Kept : Node → Type 0) (P : Node → Outgoing → Type 0)
      → ((p : Node) → Kept p → Kept (fired p (first_rule w last rows p)))
      → ((c : ℕ) (p : Node)
      → Kept p
      → let rule = first_rule w last rows p in
      Every (P (settle w last rows c (fired p rule)).node) (said p rule))
      → (c : ℕ) (p : Node)
      → Kept p
      → let s = settle w last rows c p in
      Every (P s.node) s.records
  settle_every Kept P keeps says =
      settle_induction (λ c p s. Kept p → Every (P s.node) s.records) (λ p k. tt) (λ c p e k. tt)
      (λ c p e ih k.
      let rule = first_rule w last rows p in
      let next = settle w last rows c (fired p rule) in
      every_append (P next.node) (said p rule) next.records (says c p k) (ih (keeps p k)))
