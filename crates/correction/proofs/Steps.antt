-- Laws of differences from a place on: what one reading more, in front, does to how many are below and to the greatest that is kept.
-- Assumes nothing.
use Rattle.std.proofs.Common.{◌≡◌, ℕ, suc, ◌+◌, ◌-◌, ◌<◌, ◌≤◌, Bool, cond, ◌&&◌, List, [], ◌∷◌, length, get_or, drop, ℤ, ap, ◌∙◌, arith, drop-cons}
use lib.Seq.{drop-length}
use lib.Signed.{lt_z}
use Rattle.forms.specs.Column.{how_many}
use Rattle.correction.specs.Counter.{difference, differences}
use Rattle.correction.specs.Middle.{below, least, greatest_of}

module _ (e : ℕ) (readings : List ℕ) where
  -- past the last reading there is none
  none_left : differences e (drop (length readings) readings) ≡ []
  none_left = ap (differences e) (drop-length readings)

  pub below_end : (d : ℤ) → below d (differences e (drop (length readings) readings)) ≡ 0
  unfolding how_many
  below_end d = ap (below d) none_left

  pub greatest_end : (kept : ℤ → Bool) → greatest_of kept (differences e (drop (length readings) readings)) ≡ least
  unfolding greatest_of
  greatest_end kept = ap (greatest_of kept) none_left

  module _ (at : ℕ) (p : 0 < at) (q : at ≤ length readings) where
    -- the reading in front, and those behind it
    abbrev pub here : ℤ
    here = difference (get_or readings (at - 1) 0) e

    abbrev pub behind : List ℤ
    behind = differences e (drop at readings)

    one_more : differences e (drop (at - 1) readings) ≡ here ∷ behind
    one_more =
        ap (differences e)
        (drop-cons readings (at - 1) 0 (omega arith) ∙ ap (λ (i : ℕ). get_or readings (at - 1) 0 ∷ drop i readings) next)
      where
        next : suc (at - 1) ≡ at
        next = omega arith

    pub below_step : (d : ℤ) → below d (differences e (drop (at - 1) readings)) ≡ cond (lt_z here d) 1 0 + below d behind
    unfolding how_many
    below_step d = ap (below d) one_more

    pub greatest_step : (kept : ℤ → Bool) →
        let best = greatest_of kept behind in
        greatest_of kept (differences e (drop (at - 1) readings)) ≡ cond (lt_z best here && kept here) here best
    unfolding greatest_of
    greatest_step kept = ap (greatest_of kept) one_more
