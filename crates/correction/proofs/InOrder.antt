-- Where the differences stand in ascending order, the one of rank k stands at place k. So the ranks f and n - 1 - f are those of the lowest
-- and the highest that are left when f are dropped on each side.
-- Assumes nothing.
use Rattle.std.proofs.Common.{◌≡◌, ℕ, zero, suc, ◌+◌, ◌-◌, ◌*◌, ◌<◌, ◌≤◌, Bool, true, false, cond, List, [], ◌∷◌, length, get_or, ℤ, ◌+ℤ◌, ◌≤ℤ◌, refl, ap, ◌∙◌, ap₂, true≢false, arith}
use mathlib.Core.Bool.{false≢true}
use mathlib.Core.List.{Memᴰ}
use native.Mathlib.Decide.{dec_lt}
use lib.ListN.{length-map, get_or-map}
use lib.Signed.{lt_z}
use Rattle.forms.specs.Column.{how_many}
use Rattle.forms.proofs.Columns.{Passes, passing_found}
use Rattle.correction.specs.Counter.{difference, differences}
use Rattle.correction.specs.Good.{Ascending, difference_at}
use Rattle.correction.specs.Middle.{below, ranked, half_down, middle}
use Rattle.correction.proofs.Middles.{inside}
use Rattle.correction.proofs.Ranks.{not_above, ranked_few, ranked_enough, rank_single}
use Rattle.correction.proofs.Signs.{never_less, tested}

at_place : (ds : List ℤ) (k : ℕ) (z : ℤ) → k < length ds → Memᴰ (get_or ds k z) ds
at_place [] k z p = absurd (omega arith)
at_place (d ∷ ds) zero z p = Memᴰ.head refl
at_place (d ∷ ds) (suc k) z p = Memᴰ.tail (at_place ds k z (omega arith))

-- none behind it is below the first
none_below : (d : ℤ) (ds : List ℤ) → ((x : ℤ) → Memᴰ x ds → d ≤ℤ x) → below d ds ≡ 0
none_below d ds first = elim (dec_lt 0 (below d ds)) [ yes p ↦ lower (passing_found (λ other. lt_z other d) ds p) | no q ↦ omega arith ]
  where
    lower : Passes (λ other. lt_z other d) ds → below d ds ≡ 0
    lower x = absurd (clash (lt_z x.0 d) x.2 (tested d x.0 (first x.0 x.1)))
      where
        clash : (t : Bool) → t ≡ true → t ≡ false → ⊥
        clash true p q = true≢false q
        clash false p q = false≢true p

place_few : (ds : List ℤ) (k : ℕ) (z : ℤ) → Ascending ds → k < length ds → below (get_or ds k z) ds ≤ k
unfolding how_many
place_few [] k z a p = absurd (omega arith)
place_few (d ∷ ds) zero z a p = rw (never_less d) (omega (arith, none_below d ds a.0))
place_few (d ∷ ds) (suc k) z a p = omega (arith, one (lt_z d (get_or ds k z)), place_few ds k z a.1 (omega arith))
  where
    one : (t : Bool) → cond t 1 0 ≤ 1
    one true = omega arith
    one false = omega arith

place_enough : (ds : List ℤ) (k : ℕ) (z : ℤ) → Ascending ds → k < length ds → k < not_above (get_or ds k z) ds
unfolding how_many
place_enough [] k z a p = absurd (omega arith)
place_enough (d ∷ ds) zero z a p = rw (never_less d) (omega arith)
place_enough (d ∷ ds) (suc k) z a p =
    rw (tested d (get_or ds k z) (a.0 (get_or ds k z) (at_place ds k z (omega arith))))
    (omega (arith, place_enough ds k z a.1 (omega arith)))

place_ranked : (e : ℕ) (readings : List ℕ) (k : ℕ) (z : ℤ) →
    Ascending (differences e readings) → k < length readings → ranked k (differences e readings) ≡ get_or (differences e readings) k z
place_ranked e readings k z a p =
    let ds = differences e readings in
    let q : k < length ds = omega (arith, p, length-map readings (λ (r : ℕ). difference r e)) in
    rank_single k ds (ranked k ds) (get_or ds k z) (ranked_few k ds (inside e readings)) (ranked_enough k ds (inside e readings) q)
    (place_few ds k z a q) (place_enough ds k z a q)

-- so the middle is that of the differences at places f and n - 1 - f
pub middle_placed : (f e : ℕ) (readings : List ℕ) →
    2 * f + 1 ≤ length readings →
    Ascending (differences e readings) →
    middle f (differences e readings) ≡ half_down (difference_at e readings f +ℤ difference_at e readings (length readings - 1 - f))
unfolding middle
middle_placed f e readings enough a =
    ap₂ (λ (low high : ℤ). half_down (low +ℤ high)) (at f (omega arith))
    (ap (λ (n : ℕ). ranked (n - 1 - f) (differences e readings)) (length-map readings (λ (r : ℕ). difference r e))
    ∙ at (length readings - 1 - f) (omega arith))
  where
    at : (k : ℕ) → k < length readings → ranked k (differences e readings) ≡ difference_at e readings k
    at k p = place_ranked e readings k (difference 0 e) a p ∙ get_or-map (λ (r : ℕ). difference r e) readings k 0
