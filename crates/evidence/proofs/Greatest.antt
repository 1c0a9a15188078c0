-- The greatest tick is what its name says: it is at least low, at least m rows hold it and at least one does, and none above
-- it is held so. As in the definition, the answer is tick + 1, and 0 where there is none.
-- Assumes nothing.
use mathlib.Core.Path.{◌≡◌, refl, subst}
use mathlib.Core.Bool.{Bool, true, false, cond, and-eq-true_iff}
use mathlib.Core.List.{List, [], ◌∷◌}
use Prim.Native.Nat.{ℕ, zero, suc, ◌+◌, ◌-◌, ◌≤◌, ◌<◌}
use native.Mathlib.Decide.{dec_le, dec_lt, ℕ_discrete}
use native.Mathlib.Omega.{arith}
use borrow.Author.Tests.{le-leb, eq-eqb, leb-true, leb-false, eqb-true}
use lib.Dec.{leb, eqb}
use Rattle.sets.specs.Ticks.{Held, holds}
use Rattle.evidence.specs.Rows.{Row, set_of}
use Rattle.evidence.specs.Holders.{holders, first_down, best_of, best_among, greatest}
use Rattle.sets.proofs.Members.{Place, above, below, inside, place, holds_above, holds_below, holds_le}

-- ---- a search downwards

module _ (passes : ℕ → Bool) (low : ℕ) where
  -- what it finds passes
  down_passes : (c x t : ℕ) → first_down passes low c x ≡ suc t → (low ≤ t) × (passes t ≡ true)
  unfolding first_down
  down_passes zero x t e = absurd (omega arith)
  down_passes (suc c) x t e = go (leb x low) refl (passes (x - 1)) refl (down_passes c (x - 1) t) e
    where
      go :
          (a : Bool) → leb x low ≡ a → (b : Bool) → passes (x - 1) ≡ b →
          (first_down passes low c (x - 1) ≡ suc t → (low ≤ t) × (passes t ≡ true)) →
          cond a 0 (cond b x (first_down passes low c (x - 1))) ≡ suc t →
          (low ≤ t) × (passes t ≡ true)
      go true p b q ih f = absurd (omega arith)
      go false p true q ih f = (omega (arith, leb-false x low p), subst (λ (n : ℕ). passes n ≡ true) (omega arith) q)
      go false p false q ih f = ih f

  -- and it leaves out none
  down_most : (c x t : ℕ) → low ≤ t → t < x → x ≤ t + c → passes t ≡ true → t < first_down passes low c x
  unfolding first_down
  down_most zero x t l p q e = absurd (omega arith)
  down_most (suc c) x t l p q e = go (leb x low) refl (passes (x - 1)) refl (λ r. down_most c (x - 1) t l r (omega arith) e)
    where
      go :
          (a : Bool) → leb x low ≡ a → (b : Bool) → passes (x - 1) ≡ b →
          (t < x - 1 → t < first_down passes low c (x - 1)) →
          t < cond a 0 (cond b x (first_down passes low c (x - 1)))
      go true f b g ih = absurd (omega (arith, leb-true x low f))
      go false f true g ih = p
      go false f false g ih = ih (elim (ℕ_discrete t (x - 1)) [ yes d ↦ absurd (never d) | no n ↦ omega arith ])
        where
          never : t ≡ x - 1 → ⊥
          never d = let z : ◌≡◌ {A = ℕ} 0 1 = cc in omega arith

-- a set holds a tick only inside the window below its top
pub held_place : (w : ℕ) (s : Held) (t : ℕ) → holds w s t ≡ 1 → (t ≤ s.top) × (s.top < t + w)
held_place w s t e = go (place w s t)
  where
    go : Place w s t → (t ≤ s.top) × (s.top < t + w)
    go (above p) = absurd (omega (arith, holds_above w s t p))
    go (below p) = absurd (omega (arith, holds_below w s t p))
    go (inside i f p) = omega arith

module _ (w kind m low : ℕ) where
  module _ (all : List Row) (t : ℕ) where
    -- ---- of one set

    pub best_held :
        (s : Held) → best_of w kind m low all s ≡ suc t → (low ≤ t) × (m ≤ holders w kind t all) × (holds w s t ≡ 1)
    unfolding best_of
    best_held s e =
        let found = down_passes _ low w (s.top + 1) t e in
        let both = (and-eq-true_iff (eqb (holds w s t) 1) (leb m (holders w kind t all))).0 found.1 in
        (found.0, leb-true _ _ both.1, eqb-true _ _ both.0)

    -- the search starts at the top, so it comes by every tick that the set holds
    pub best_most : (s : Held) → low ≤ t → m ≤ holders w kind t all → holds w s t ≡ 1 → t < best_of w kind m low all s
    unfolding best_of
    best_most s l p e =
        let near = held_place w s t e in
        let both = (and-eq-true_iff (eqb (holds w s t) 1) (leb m (holders w kind t all))).1 (eq-eqb _ _ e, le-leb _ _ p) in
        down_most _ low w (s.top + 1) t l (omega arith) (omega arith) both

    -- ---- over rows

    among_held :
        (rows : List Row) → best_among w kind m low all rows ≡ suc t →
        (low ≤ t) × (m ≤ holders w kind t all) × (0 < holders w kind t rows)
    unfolding best_among holders
    among_held [] e = absurd (omega arith)
    among_held (row ∷ rows) e =
        elim (ℕ_discrete (best_of w kind m low all (set_of kind row)) (suc t)) [
          | yes f ↦ let here = best_held (set_of kind row) f in (here.0, here.1, omega arith)
          | no n ↦ let later = among_held rows (omega arith) in (later.0, later.1, omega arith)
        ]

    among_most :
        (rows : List Row) → low ≤ t → m ≤ holders w kind t all → 0 < holders w kind t rows → t < best_among w kind m low all rows
    unfolding best_among holders
    among_most [] l p h = absurd (omega arith)
    among_most (row ∷ rows) l p h =
        elim (ℕ_discrete (holds w (set_of kind row) t) 1) [
          | yes e ↦ omega (arith, best_most (set_of kind row) l p e)
          | no n ↦ omega (arith, among_most rows l p (omega (arith, holds_le w (set_of kind row) t)))
        ]

  module _ (rows : List Row) where
    -- ---- the greatest tick

    pub greatest_held :
        (t : ℕ) → greatest w kind m low rows ≡ suc t → (low ≤ t) × (m ≤ holders w kind t rows) × (0 < holders w kind t rows)
    unfolding greatest
    greatest_held t e = among_held rows t rows e

    pub greatest_most :
        (t : ℕ) → low ≤ t → m ≤ holders w kind t rows → 0 < holders w kind t rows → t < greatest w kind m low rows
    unfolding greatest
    greatest_most t l p h = among_most rows t rows l p h

    pub greatest_none :
        ((t : ℕ) → low ≤ t → m ≤ holders w kind t rows → 0 < holders w kind t rows → ⊥) → greatest w kind m low rows ≡ 0
    greatest_none f = go (greatest w kind m low rows) refl
      where
        go : (n : ℕ) → greatest w kind m low rows ≡ n → n ≡ 0
        go zero e = refl
        go (suc t) e = let found = greatest_held t e in absurd (f t found.0 found.1 found.2)

    pub greatest_is :
        (t : ℕ) → low ≤ t → m ≤ holders w kind t rows → 0 < holders w kind t rows →
        ((u : ℕ) → t < u → m ≤ holders w kind u rows → 0 < holders w kind u rows → ⊥) →
        greatest w kind m low rows ≡ suc t
    greatest_is t l p h f = go (greatest w kind m low rows) refl
      where
        go : (n : ℕ) → greatest w kind m low rows ≡ n → n ≡ suc t
        go zero e = absurd (omega (arith, greatest_most t l p h))
        go (suc u) e =
            elim (dec_lt t u) [
              | yes q ↦ let found = greatest_held u e in absurd (f u q found.1 found.2)
              | no n ↦ omega (arith, greatest_most t l p h)
            ]

-- ---- it looks at rows through counts alone: where each tick has as many holders, be it in another window too, it is the same

pub greatest_same :
    (v w kind m low : ℕ) (rows others : List Row) → ((t : ℕ) → holders v kind t rows ≡ holders w kind t others) →
    greatest v kind m low rows ≡ greatest w kind m low others
greatest_same v w kind m low rows others same = go (greatest w kind m low others) refl
  where
    -- what is held by m of the one is held by m of the other, so no tick of the one stands above the greatest of the other
    below : (t : ℕ) → low ≤ t → m ≤ holders v kind t rows → 0 < holders v kind t rows → t < greatest w kind m low others
    below t l p h = greatest_most w kind m low others t l (rw (← same t) p) (rw (← same t) h)

    go : (n : ℕ) → greatest w kind m low others ≡ n → greatest v kind m low rows ≡ n
    go zero e = greatest_none v kind m low rows (λ t l p h. omega (arith, below t l p h))
    go (suc t) e =
        let found = greatest_held w kind m low others t e in
        greatest_is v kind m low rows t found.0 (rw (same t) found.1) (rw (same t) found.2)
        (λ u q p h. omega (arith, below u (omega arith) p h))

-- ---- no tick from low on is held by m

module _ (w kind m : ℕ) (positive : 0 < m) where
  pub none_few : (low : ℕ) (rows : List Row) → greatest w kind m low rows ≡ 0 → (t : ℕ) → low ≤ t → holders w kind t rows < m
  none_few low rows e t p =
      elim (dec_le m (holders w kind t rows)) [
        | yes h ↦ absurd (omega (arith, e, greatest_most w kind m low rows t p h (omega arith)))
        | no h ↦ omega arith
      ]

  pub few_none : (low : ℕ) (rows : List Row) → ((t : ℕ) → low ≤ t → holders w kind t rows < m) → greatest w kind m low rows ≡ 0
  few_none low rows few = greatest_none w kind m low rows (λ t p q r. omega (arith, few t p))

  -- nor from a higher tick on
  pub none_higher : (low high : ℕ) (rows : List Row) → low ≤ high → greatest w kind m low rows ≡ 0 → greatest w kind m high rows ≡ 0
  none_higher low high rows p e = few_none high rows (λ t q. none_few low rows e t (omega arith))
