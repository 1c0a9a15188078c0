-- Readings looked at by their positions: as many positions pass a test as readings do, and where more pass it than are bad, one that
-- passes is good.
-- Assumes nothing.
use Rattle.std.proofs.Common.{◌≡◌, ℕ, zero, suc, ◌+◌, ◌<◌, Bool, true, cond, List, [], ◌∷◌, length, ℤ, refl, ap, ◌∙◌, arith}
use mathlib.Core.List.{Memᴰ}
use Rattle.forms.specs.Column.{how_many}
use Rattle.forms.proofs.Groups.{share}
use Rattle.correction.specs.Counter.{difference, differences}
use Rattle.correction.specs.Good.{positions, GoodAt, difference_at}

listed : {i : ℕ} (n : ℕ) → Memᴰ i (positions n) → i < n
unfolding positions
listed {i = i} zero m = elim m [ ]
listed (suc n) (Memᴰ.head e) = omega (arith, e)
listed (suc n) (Memᴰ.tail m) = omega (arith, listed n m)

all_of : (n : ℕ) → how_many (λ i. true) (positions n) ≡ length (positions n)
unfolding positions how_many
all_of zero = refl
all_of (suc n) = omega (arith, all_of n)

-- the position in front, and those behind it
front : (test : ℕ → Bool) (n : ℕ) → how_many test (positions (suc n)) ≡ cond (test 0) 1 0 + how_many (λ i. test (suc i)) (positions n)
unfolding positions how_many
front test zero = refl
front test (suc n) = omega (arith, front test n)

-- as many positions as readings
by_position : (test : ℤ → Bool) (e : ℕ) (readings : List ℕ) →
    how_many (λ i. test (difference_at e readings i)) (positions (length readings)) ≡ how_many test (differences e readings)
unfolding how_many positions
by_position test e [] = refl
by_position test e (r ∷ rs) =
    front (λ i. test (difference_at e (r ∷ rs) i)) (length rs) ∙ ap (λ (n : ℕ). cond (test (difference r e)) 1 0 + n) (by_position test e rs)

-- one that passes and is good
pub good_one : (test : ℤ → Bool) (bad : ℕ → Bool) (e : ℕ) (readings : List ℕ) →
    how_many bad (positions (length readings)) < how_many test (differences e readings) →
    (i : ℕ) × GoodAt bad readings i × (test (difference_at e readings i) ≡ true)
good_one test bad e readings p =
    let n = length readings in
    let s = share (λ i. test (difference_at e readings i)) (λ i. true) bad (positions n)
    (omega (arith, by_position test e readings, all_of n)) in
    (s.serial, (listed n s.listed, s.correct), s.in_one)
