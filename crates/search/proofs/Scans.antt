-- What a look at the rows knows while some rows are left, and what one more row adds to it.
-- Assumes nothing.
use mathlib.Core.Path.{◌≡◌, ap}
use mathlib.Core.Logic.{◌⊎◌, inl, inr, ⊎_elim}
use mathlib.Core.List.{List}
use Prim.Native.Nat.{ℕ, ◌+◌, ◌-◌, ◌≤◌, ◌<◌}
use native.Mathlib.Omega.{arith}
use lib.ListN.{length, get_or, drop}
use Rattle.evidence.specs.Holders.{holders}
use Rattle.evidence.specs.Rows.{Row, no_row, set_of}
use Rattle.evidence.proofs.Lists.{row_and_rest, none_left}
use Rattle.sets.specs.Ticks.{Held, bit, holds}
use Rattle.search.specs.Levels.{capacity, reached, Short}
use Rattle.search.specs.Scan.{view, Counted, Scanned}
use Rattle.search.specs.declared.levels.Levels.{Levels}
use Rattle.search.proofs.Bits.{reached_lt}

-- ---- a walk over the rows: the one in hand, and those behind it

module _ (w kind t : ℕ) (rows : List Row) (k : ℕ) where
  pub held_down :
      k < length rows →
      holders w kind t (drop k rows) ≡ holds w (set_of kind (get_or rows k no_row)) t + holders w kind t (drop (k + 1) rows)
  unfolding holders
  held_down p = ap (holders w kind t) (row_and_rest rows k p)

  pub held_end : length rows ≤ k → holders w kind t (drop k rows) ≡ 0
  unfolding holders
  held_end p = ap (holders w kind t) (none_left rows k p)

-- ---- what the counters tell on the way

module _ (w kind m x : ℕ) (all : List Row) where
  -- each tick looked at has run over, or its counter has gone on by the rows counted; `rest` are those left
  abbrev pub Scanning : List Row → Levels → Type 0
  Scanning rest l =
      (t : ℕ) → t < x → x ≤ t + view w →
      (bit l.over (x - 1 - t) ≡ 1) ⊎ (reached l (x - 1 - t) + m + holders w kind t rest ≡ capacity + holders w kind t all)

  pub scan_first : (l : Levels) → Short m l → Scanning all l
  scan_first l h t p q = inr (omega (arith, h.short (x - 1 - t) (omega arith)))

  pub scan_row :
      (rest left : List Row) (l k : Levels) (s : Held) → Scanning rest l →
      ((t : ℕ) → holders w kind t rest ≡ holds w s t + holders w kind t left) → Counted w s x l k → Scanning left k
  scan_row rest left l k s h down row t p q =
      ⊎_elim (λ e. inl ((row t p q).stays e)) (λ e. ⊎_elim inl (λ f. inr (omega (arith, e, f, down t))) (row t p q).counts)
      (h t p q)

  -- past the last row a counter that has not run over is short of m
  pub scan_last :
      (left : List Row) (l : Levels) → Scanning left l → ((t : ℕ) → holders w kind t left ≡ 0) → Scanned w kind m x all l.over
  scan_last left l h end t p q r = ⊎_elim (λ e. e) (λ e. absurd (omega (arith, e, end t, reached_lt l (x - 1 - t)))) (h t p q)
