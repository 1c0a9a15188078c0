-- Laws of the looks at tops: one row at a time, and that a tick is held by no more rows than those whose tops allow it.
-- Assumes nothing.
use mathlib.Core.Path.{◌≡◌, ap, ◌∙◌}
use mathlib.Core.Bool.{Bool, true, false, cond}
use mathlib.Core.List.{List, [], ◌∷◌}
use Prim.Native.Nat.{ℕ, ◌+◌, ◌≤◌, ◌<◌, max}
use native.Mathlib.Decide.{dec_le, dec_lt}
use native.Mathlib.Omega.{arith}
use borrow.Author.Tests.{le-leb, lt-leb, lt-ltb, le-ltb}
use lib.Dec.{ltb, leb}
use lib.ListN.{length, get_or, drop}
use Rattle.sets.specs.Ticks.{Held, holds}
use Rattle.sets.proofs.Members.{Place, above, below, inside, place, holds_above, holds_below, holds_le}
use Rattle.evidence.specs.Holders.{holders}
use Rattle.evidence.specs.Rows.{Row, no_row, set_of}
use Rattle.evidence.proofs.Lists.{row_and_rest, none_left}
use Rattle.search.specs.Tops.{many_tops, covers, next_top}

-- ---- a top covers tick x - 1, or is below it, or its window is above it

module _ (w x top : ℕ) where
  covers_here : x ≤ top + 1 → top + 1 < x + w → covers w x top ≡ true
  unfolding covers
  covers_here p q = rw (le-leb x (top + 1) p, lt-ltb (top + 1) (x + w) q)

  covers_below : top + 1 < x → covers w x top ≡ false
  unfolding covers
  covers_below p = rw (lt-leb x (top + 1) p)

  covers_above : x + w ≤ top + 1 → covers w x top ≡ false
  unfolding covers
  covers_above p = rw (le-leb x (top + 1) (omega arith), le-ltb (top + 1) (x + w) p)

  -- an empty window covers none
  covers_none : w ≡ 0 → covers w x top ≡ false
  covers_none e =
      elim (dec_lt (top + 1) x) [ yes p ↦ covers_below p | no p ↦ covers_above (omega arith) ]

-- ---- a walk over the rows: the one in hand, and those behind it

module _ (kind : ℕ) (rows : List Row) (k : ℕ) (some : k < length rows) where
  abbrev top : ℕ
  top = (set_of kind (get_or rows k no_row)).top

  module _ (passes : ℕ → Bool) where
    pub many_down : many_tops passes kind (drop k rows) ≡ cond (passes top) 1 0 + many_tops passes kind (drop (k + 1) rows)
    unfolding many_tops
    many_down = ap (many_tops passes kind) (row_and_rest rows k some)

    -- its top passes, or it does not
    pub many_passed : passes top ≡ true → many_tops passes kind (drop k rows) ≡ 1 + many_tops passes kind (drop (k + 1) rows)
    many_passed e = many_down ∙ rw e

    pub many_missed : passes top ≡ false → many_tops passes kind (drop k rows) ≡ many_tops passes kind (drop (k + 1) rows)
    many_missed e = many_down ∙ rw e (omega arith)

  module _ (x : ℕ) where
    next_down : next_top x kind (drop k rows) ≡ max (cond (ltb (top + 1) x) (top + 1) 0) (next_top x kind (drop (k + 1) rows))
    unfolding next_top
    next_down = ap (next_top x kind) (row_and_rest rows k some)

    next_same : x ≤ top + 1 → next_top x kind (drop k rows) ≡ next_top x kind (drop (k + 1) rows)
    next_same p = next_down ∙ rw (le-ltb (top + 1) x p) (omega arith)

    module _ (w : ℕ) where
      -- it adds so many that cover tick x - 1, and this as the next top
      abbrev Step : ℕ → ℕ → Type 0
      Step more next =
          (many_tops (covers w x) kind (drop k rows) ≡ more + many_tops (covers w x) kind (drop (k + 1) rows))
          × (next_top x kind (drop k rows) ≡ max next (next_top x kind (drop (k + 1) rows)))

      -- its top is below tick x - 1, or covers it, or its window is above it
      pub look_below : top + 1 < x → Step 0 (top + 1)
      look_below p =
          (many_missed (covers w x) (covers_below w x top p) ∙ omega arith, next_down ∙ rw (lt-ltb (top + 1) x p))

      pub look_here : x ≤ top + 1 → top + 1 < x + w → Step 1 0
      look_here p q = (many_passed (covers w x) (covers_here w x top p q), next_same p ∙ omega arith)

      pub look_above : x + w ≤ top + 1 → Step 0 0
      look_above p = (many_missed (covers w x) (covers_above w x top p) ∙ omega arith, next_same (omega arith) ∙ omega arith)

-- ---- no rows are left

module _ (kind : ℕ) (rows : List Row) (k : ℕ) (none : length rows ≤ k) where
  pub many_end : (passes : ℕ → Bool) → many_tops passes kind (drop k rows) ≡ 0
  unfolding many_tops
  many_end passes = ap (many_tops passes kind) (none_left rows k none)

  pub next_end : (x : ℕ) → next_top x kind (drop k rows) ≡ 0
  unfolding next_top
  next_end x = ap (next_top x kind) (none_left rows k none)

-- ---- holders, by their tops

-- a tick from low on is held only by rows whose top is at least low
pub held_reach : (w kind low t : ℕ) (rows : List Row) → low ≤ t → holders w kind t rows ≤ many_tops (leb low) kind rows
unfolding holders many_tops
held_reach w kind low t [] p = omega arith
held_reach w kind low t (row ∷ rows) p = omega (arith, one (set_of kind row), held_reach w kind low t rows p)
  where
    one : (s : Held) → holds w s t ≤ cond (leb low s.top) 1 0
    one s =
        elim (dec_le low s.top) [
          | yes q ↦ rw (le-leb low s.top q) (holds_le w s t)
          | no q ↦ omega (arith, holds_above w s t (omega arith))
        ]

module _ (w kind x : ℕ) where
  -- downwards a row begins to hold ticks at its top: as far as the next top a tick is held only by rows that cover tick x - 1
  pub held_cover :
      (t : ℕ) (rows : List Row) → t < x → next_top x kind rows ≤ t → holders w kind t rows ≤ many_tops (covers w x) kind rows
  unfolding holders many_tops next_top
  held_cover t [] p q = omega arith
  held_cover t (row ∷ rows) p q = omega (arith, one (set_of kind row) (omega arith), held_cover t rows p (omega arith))
    where
      one : (s : Held) → cond (ltb (s.top + 1) x) (s.top + 1) 0 ≤ t → holds w s t ≤ cond (covers w x s.top) 1 0
      one s r = go (place w s t)
        where
          go : Place w s t → holds w s t ≤ cond (covers w x s.top) 1 0
          go (above u) = omega (arith, holds_above w s t u)
          go (below u) = omega (arith, holds_below w s t u)
          go (inside i e u) =
              elim (dec_lt (s.top + 1) x) [
                | yes v ↦ absurd (omega (arith, rw (lt-ltb (s.top + 1) x v) at r))
                | no v ↦ rw (covers_here w x s.top (omega arith) (omega arith)) (holds_le w s t)
              ]

  pub next_less : (rows : List Row) → 0 < x → next_top x kind rows < x
  unfolding next_top
  next_less [] p = p
  next_less (row ∷ rows) p =
      let y = (set_of kind row).top + 1 in
      elim (dec_lt y x) [
        | yes q ↦ rw (lt-ltb y x q) (omega (arith, next_less rows p))
        | no q ↦ rw (le-ltb y x (omega arith)) (omega (arith, next_less rows p))
      ]

  -- a window that covers a tick is not empty
  pub cover_wide : (rows : List Row) → 0 < many_tops (covers w x) kind rows → 0 < w
  unfolding many_tops
  cover_wide [] p = absurd (omega arith)
  cover_wide (row ∷ rows) p =
      elim (dec_lt 0 w) [
        | yes q ↦ q
        | no q ↦ cover_wide rows (omega (arith, rw (covers_none w x (set_of kind row).top (omega arith)) at p))
      ]
