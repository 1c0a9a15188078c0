-- Laws of the search for the greatest tick: one step of it.
-- Assumes nothing.
use mathlib.Core.Path.{◌≡◌, refl, ap, ◌∙◌}
use mathlib.Core.Bool.{Bool, true, false}
use Prim.Native.Nat.{ℕ, zero, suc, ◌-◌, ◌≤◌, ◌<◌}
use native.Mathlib.Omega.{arith}
use borrow.Author.Tests.{le-leb, lt-leb}
use Rattle.evidence.specs.Holders.{first_down}

module _ (passes : ℕ → Bool) where
  down_none : (low x : ℕ) → first_down passes low 0 x ≡ 0
  unfolding first_down
  down_none low x = refl

  pub down_stop : (low c x : ℕ) → c ≡ 0 → first_down passes low c x ≡ 0
  down_stop low c x e = ap (λ (n : ℕ). first_down passes low n x) e ∙ down_none low x

  -- the three ways of a step
  pub down_end : (low c x : ℕ) → x ≤ low → first_down passes low c x ≡ 0
  unfolding first_down
  down_end low zero x p = refl
  down_end low (suc c) x p = rw (le-leb x low p)

  pub down_hit : (low c x : ℕ) → 0 < c → low < x → passes (x - 1) ≡ true → first_down passes low c x ≡ x
  unfolding first_down
  down_hit low zero x z p e = absurd (omega arith)
  down_hit low (suc c) x z p e = rw (lt-leb x low p, e)

  down_suc : (low c x : ℕ) → low < x → passes (x - 1) ≡ false → first_down passes low (suc c) x ≡ first_down passes low c (x - 1)
  unfolding first_down
  down_suc low c x p e = rw (lt-leb x low p, e)

  pub down_miss : (low c x : ℕ) → 0 < c → low < x → passes (x - 1) ≡ false → first_down passes low c x ≡ first_down passes low (c - 1) (x - 1)
  down_miss low zero x z p e = absurd (omega arith)
  down_miss low (suc c) x z p e = down_suc low c x p e ∙ ap (λ (n : ℕ). first_down passes low n (x - 1)) (less c)
    where
      less : (n : ℕ) → n ≡ suc n - 1
      less n = omega arith
