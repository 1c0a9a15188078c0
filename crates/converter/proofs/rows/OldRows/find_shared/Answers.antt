-- `rows::OldRows::find_shared` meets its contract: the search that is left finds what the whole search would. What is left of the mask has
-- the bits of the ticks from the one in hand down, which is the lowest bit; so where nothing is left of it, the search would find nothing.
use mathlib.Core.Path.{◌≡◌, refl, sym, ap, ap₂, ◌∙◌}
use mathlib.Core.Bool.{Bool, false, ◌&&◌, and-false}
use mathlib.Core.List.{List}
use Prim.Native.Nat.{ℕ, zero, suc, ◌+◌, ◌-◌, ◌/◌, ◌%◌, ◌^◌, ◌≤◌, ◌<◌}
use native.Mathlib.Nat.{div-one, div-eq_of_lt, div-lt_iff_lt-mul, lt_of_lt_of_le, mod-eq_of_lt}
use native.Mathlib.Decide.{dec_le, dec_lt}
use native.Mathlib.Omega.{arith}
use borrow.Author.Tests.{eq-eqb, ne_eqb, le-leb, lt-leb}
use lib.Dec.{eqb, leb}
use lib.Pow.{pow_mono, pow_pos, shr-shr}
use Rattle.sets.specs.Ticks.{Held, bit, holds}
use Rattle.sets.proofs.Masks.{bit_out}
use Rattle.sets.proofs.Members.{Place, above, below, inside, place, holds_at, holds_above, holds_below}
use Rattle.evidence.specs.Holders.{holders, first_down, shared, best_of}
use Rattle.evidence.specs.Rows.{Row}
use Rattle.evidence.proofs.Down.{down_stop, down_end, down_hit, down_miss}
use Rattle.rules.specs.Describe.{window}
use Rattle.node.specs.Layout.{old_layout}
use Rattle.converter.proofs.rows.OldRows.find_shared.Invariants.{first, finds}
use Rattle.converter.proofs.rows.OldRows.find_shared.Goals.{Then-rest-gt0, Joined-else-rest-eq1}
use Rattle.converter.proofs.rows.OldRows.find_shared.Goals.{else-rest-eq1-via-then-rest-eq1+else-m-count, else-rest-eq1-via-else-rest-eq1}
use Rattle.converter.proofs.rows.OldRows.find_shared.Goals as goal

-- ---- a search finds nothing where nothing below passes
down-never : (passes : ℕ → Bool) (low c x : ℕ) → ((t : ℕ) → t < x → passes t ≡ false) → first_down passes low c x ≡ 0
down-never passes low zero x none = down_stop passes low 0 x refl
down-never passes low (suc c) x none =
    elim (dec_le x low) [
      | yes p ↦ down_end passes low (suc c) x p
      | no p ↦
          down_miss passes low (suc c) x (omega arith) (omega arith) (none (x - 1) (omega arith))
          ∙ ap (λ (n : ℕ). first_down passes low n (x - 1)) (less c)
          ∙ down-never passes low c (x - 1) (λ t q. none t (omega arith))
    ]
  where
    less : (n : ℕ) → suc n - 1 ≡ n
    less n = omega arith

-- where something is left of a mask of v bits, fewer than v ticks are looked at
still : (mask v d : ℕ) → mask < 2 ^ v → 0 < mask / 2 ^ d → d < v
still mask v d small some =
    elim (dec_lt d v) [
      | yes p ↦ p
      | no p ↦ absurd (omega (arith, div-eq_of_lt (lt_of_lt_of_le small (pow_mono {i = v} {j = d} (omega arith)))))
    ]

-- ---- a set of which d ticks are looked at, from the top down: x - 1, the tick in hand, is d below the top
module _ (s : Held) (d x : ℕ) (there : x + d ≡ s.top + 1) where
  -- the lowest bit of what is left says whether the set holds the tick in hand
  lowest : 0 < x → d < window → holds window s (x - 1) ≡ s.mask / 2 ^ d % 2
  unfolding bit
  lowest p q = holds_at window s (x - 1) d (omega arith) q

  -- where nothing is left, no tick from there down is held
  bare : s.mask / 2 ^ d ≡ 0 → (t : ℕ) → t < x → holds window s t ≡ 0
  bare e t p = go (place window s t)
    where
      small : s.mask < 2 ^ d
      small = omega (arith, (div-lt_iff_lt-mul {k = 2 ^ d} {x = s.mask} {y = 1} (pow_pos d)).0 (omega arith))

      go : Place window s t → holds window s t ≡ 0
      go (above q) = holds_above window s t q
      go (below q) = holds_below window s t q
      go (inside i f q) = holds_at window s t i f q ∙ bit_out s.mask d i small (omega arith)

  -- what the search finds from there down
  module _ (kind m low : ℕ) (all : List Row) where
    hit :
        low < x → d < window → s.mask / 2 ^ d % 2 ≡ 1 → m ≤ holders window kind (x - 1) all →
        finds kind m low all s d x ≡ x
    hit p q own many =
        let held = eq-eqb (holds window s (x - 1)) 1 (lowest (omega arith) q ∙ own) in
        down_hit (shared window kind m all s) low (window - d) x (omega arith) p
        (ap₂ (λ (a b : Bool). a && b) held (le-leb m (holders window kind (x - 1) all) many))

    miss :
        low < x → d < window → shared window kind m all s (x - 1) ≡ false →
        finds kind m low all s d x ≡ finds kind m low all s (d + 1) (x - 1)
    miss p q e =
        let less : window - d - 1 ≡ window - (d + 1) = omega arith in
        down_miss (shared window kind m all s) low (window - d) x (omega arith) p e
        ∙ ap (λ (c : ℕ). first_down (shared window kind m all s) low c (x - 1)) less

    ended : s.mask / 2 ^ d ≡ 0 → finds kind m low all s d x ≡ 0
    ended e =
        down-never (shared window kind m all s) low (window - d) x
        (λ t p. ap (λ (b : Bool). b && leb m (holders window kind t all))
        (ne_eqb (holds window s t) 1 (λ one. omega (arith, bare e t p))))

-- ---- the loop
-- a mask of one word is that word
one_word : (mask v : ℕ) → mask < 2 ^ v → mask / 2 ^ 0 % 2 ^ v ≡ mask
one_word mask v p = ap (λ (x : ℕ). x % 2 ^ v) (div-one mask) ∙ mod-eq_of_lt p

-- as that of the set in hand is
narrow : {read s : Held} → read ≡ s → read.mask < 2 ^ old_layout.window → s.mask < 2 ^ old_layout.window
narrow e p = rw (ap (λ (s : Held). s.mask) (sym e)) p

-- so fewer ticks are looked at than an old window has
near : (c : Then-rest-gt0) → (first c.args.kind c.args.self.now).top + 1 - c.loop-x.x < window
near c =
    let s = first c.args.kind c.args.self.now in
    let some : 0 < c.loop-x.rest = c.if-rest-gt0.true in
    let small = narrow c.set-s.ensures.set c.set-s.ensures.narrow in
    omega (arith, still s.mask old_layout.window (s.top + 1 - c.loop-x.x) small (rw (← c.loop-x.invariant.2) some))

-- the tick in hand is not it: the set does not hold it, or too few rows do
missed : (c : Joined-else-rest-eq1) →
    let a = c.args in
    shared window a.kind a.m a.self.now (first a.kind a.self.now) (c.loop-x.x - 1) ≡ false
missed c =
    let a = c.args in
    let l = c.loop-x in
    let s = first a.kind a.self.now in
    let many = holders window a.kind (l.x - 1) a.self.now in
    let own = holds window s (l.x - 1) in
    let lowest = lowest s (s.top + 1 - l.x) l.x (omega arith) (omega arith) (near (goal.at.loop-x-preserved c).Then-rest-gt0) in
    elim c.else-rest-eq1.branch [
      | else-rest-eq1-via-then-rest-eq1+else-m-count w ↦
          ap (λ (q : Bool). eqb own 1 && q) (lt-leb a.m many (omega (arith, w.if-m-count.false, w.count.ensures.0)))
          ∙ and-false (eqb own 1)
      | else-rest-eq1-via-else-rest-eq1 w ↦
          ap (λ (p : Bool). p && leb a.m many)
          (ne_eqb own 1 (λ e. w.if-rest-eq1.false (ap (λ (r : ℕ). r % 2) l.invariant.2 ∙ sym lowest ∙ e)))
    ]

pub loop-x-init : goal.loop-x-init
unfolding best_of
loop-x-init c =
    let s = first c.args.kind c.args.self.now in
    let none : s.top + 1 - (s.top + 1) ≡ 0 = omega arith in
    let top = ap (λ (s : Held). s.top) c.set-s.ensures.set in
    let mask = one_word _ old_layout.window c.set-s.ensures.narrow ∙ ap (λ (s : Held). s.mask) c.set-s.ensures.set in
    rw (top, c.word_at-rest.ensures ∙ mask, none) (refl, omega arith, sym (div-one s.mask))

pub returns-then-m-count : goal.returns-then-m-count
returns-then-m-count c =
    let a = c.args in
    let l = c.loop-x in
    let s = first a.kind a.self.now in
    let own = ap (λ (r : ℕ). r % 2) (sym l.invariant.2) ∙ c.if-rest-eq1.true in
    let enough : a.m ≤ holders window a.kind (l.x - 1) a.self.now = omega (arith, c.if-m-count.true, c.count.ensures.0) in
    let near = near (goal.at.returns-then-m-count c).Then-rest-gt0 in
    let hit = hit s (s.top + 1 - l.x) l.x (omega arith) a.kind a.m a.low a.self.now (omega arith) near own enough in
    omega (arith, l.invariant.0, hit)

pub loop-x-preserved : goal.loop-x-preserved
loop-x-preserved c =
    let a = c.args in
    let l = c.loop-x in
    let s = first a.kind a.self.now in
    let d = s.top + 1 - l.x in
    let near = near (goal.at.loop-x-preserved c).Then-rest-gt0 in
    let next = miss s d l.x (omega arith) a.kind a.m a.low a.self.now (omega arith) near (missed c) in
    let further : s.top + 1 - (l.x - 1) ≡ d + 1 = omega arith in
    rw further (sym next ∙ l.invariant.0, omega arith, ap (λ (r : ℕ). r / 2) l.invariant.2 ∙ shr-shr s.mask d 1)

pub returns-else-rest-gt0 : goal.returns-else-rest-gt0
returns-else-rest-gt0 c =
    let a = c.args in
    let l = c.loop-x in
    let s = first a.kind a.self.now in
    let none : l.rest ≡ 0 = omega arith in
    sym (ended s (s.top + 1 - l.x) l.x (omega arith) a.kind a.m a.low a.self.now (sym l.invariant.2 ∙ none)) ∙ l.invariant.0

pub returns-after-loop-x : goal.returns-after-loop-x
returns-after-loop-x c =
    let a = c.args in
    let l = c.loop-x in
    let s = first a.kind a.self.now in
    let goes = shared window a.kind a.m a.self.now s in
    sym (down_end goes a.low (window - (s.top + 1 - l.x)) l.x (omega arith)) ∙ l.invariant.0
