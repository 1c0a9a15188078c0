-- Rows whose sets are proper in a window are so in every wider one, and answer every question there as they did: each tick has the same
-- holders, and the greatest tick held by m is the same. Where masks have no room for a bit outside the narrower window, both windows judge
-- the rows alike. And rows that fit masks of some bytes fit masks of more (02, A8).
-- Assumes nothing.
use mathlib.Core.Path.{◌≡◌, refl, ap, ap₂, subst}
use mathlib.Core.Bool.{Bool, true, ◌&&◌}
use mathlib.Core.List.{List, [], ◌∷◌}
use Prim.Native.Nat.{ℕ, ◌+◌, ◌^◌, ◌≤◌, ◌<◌}
use native.Mathlib.Nat.{lt_of_lt_of_le, pow-le-pow_right}
use lib.Dec.{lit<, leb}
use Rattle.sets.specs.Ticks.{Held}
use Rattle.sets.proofs.Wider.{proper_wider, holds_wider, proper_same}
use Rattle.evidence.specs.Holders.{holders, greatest}
use Rattle.evidence.specs.Rows.{Row, set_of, proper_set, proper_rows}
use Rattle.evidence.proofs.Encoded.{SetFits, RowsFit}
use Rattle.evidence.proofs.Frames.{every_map, both_any}
use Rattle.evidence.proofs.Greatest.{greatest_same}
use Rattle.evidence.proofs.Growth.{Kept, AllKept, all_kept, all_kept_test}

module _ (v w last : ℕ) (wider : v ≤ w) where
  kept_wider : (s : Held) → Kept v last s → Kept w last s
  kept_wider s h = record { bounded = h.bounded; good = proper_wider v w wider s h.good }

  all_wider : (rows : List Row) → AllKept v last rows → AllKept w last rows
  all_wider rows = every_map rows (λ row h. (kept_wider row.echo h.0, kept_wider row.init h.1))

  count_wider : (kind t : ℕ) (rows : List Row) → AllKept v last rows → holders w kind t rows ≡ holders v kind t rows
  unfolding holders
  count_wider kind t [] h = refl
  count_wider kind t (row ∷ rows) h =
      ap₂ ◌+◌ (holds_wider v w wider (set_of kind row) (both_any (Kept v last) kind row h.0).good t)
      (count_wider kind t rows h.1)

  module _ (rows : List Row) (proper : proper_rows v last rows ≡ true) where
    pub rows_wider : proper_rows w last rows ≡ true
    rows_wider = all_kept_test w last rows (all_wider rows (all_kept v last rows proper))

    pub holders_wider : (kind t : ℕ) → holders w kind t rows ≡ holders v kind t rows
    holders_wider kind t = count_wider kind t rows (all_kept v last rows proper)

    pub greatest_wider : (kind m low : ℕ) → greatest w kind m low rows ≡ greatest v kind m low rows
    greatest_wider kind m low = greatest_same w v kind m low rows rows (holders_wider kind)

-- ---- masks that have no room for a bit outside the narrower window

module _ (v w last mb : ℕ) (wider : v ≤ w) (bits : 256 ^ mb ≡ 2 ^ v) where
  set_same : (s : Held) → SetFits mb s → proper_set v last s ≡ proper_set w last s
  unfolding proper_set
  set_same s f = ap (λ (t : Bool). leb s.top last && t) (proper_same v w wider s (subst (λ (n : ℕ). s.mask < n) bits f.mask))

  pub rows_same_test : (rows : List Row) → RowsFit mb rows → proper_rows v last rows ≡ proper_rows w last rows
  unfolding proper_rows
  rows_same_test [] f = refl
  rows_same_test (row ∷ rows) f =
      ap₂ (λ (p q : Bool). p && q) (set_same row.echo f.0.echo)
      (ap₂ (λ (p q : Bool). p && q) (set_same row.init f.0.init) (rows_same_test rows f.1))

-- ---- wider masks

module _ (mb nb : ℕ) (wider : mb ≤ nb) where
  set_fits_wider : (s : Held) → SetFits mb s → SetFits nb s
  set_fits_wider s f = record { top = f.top; mask = lt_of_lt_of_le f.mask (pow-le-pow_right (lit< tt) wider) }

  pub rows_fit_wider : (rows : List Row) → RowsFit mb rows → RowsFit nb rows
  rows_fit_wider rows =
      every_map rows
      (λ row f.
      record { serial = f.serial; echo = set_fits_wider row.echo f.echo; init = set_fits_wider row.init f.init })
