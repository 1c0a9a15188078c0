-- What a frame adds, as insertions one after the other: the equations that the code follows.
-- Assumes nothing.
use mathlib.Core.Path.{◌≡◌, refl, ap, ◌∙◌}
use mathlib.Core.Bool.{Bool, true, false, cond}
use Prim.Native.Nat.{ℕ, zero, suc, ◌-◌}
use native.Mathlib.Omega.{arith}
use borrow.Author.Tests.{ne_eqb, eq-eqb}
use lib.Dec.{eqb}
use Rattle.fields.specs.Kind.{ECHO}
use Rattle.sets.specs.Ticks.{Held, insert, insert_all, run, added, add}

module _ (w kind : ℕ) (s : Held) where
  by_count : (j : ℕ) (echo : Bool) → eqb kind ECHO ≡ echo → add w kind s j ≡ insert_all w s (run (cond echo 3 1) j)
  unfolding add added
  by_count j echo e = ap (λ (b : Bool). insert_all w s (run (cond b 3 1) j)) e

  -- (init, j) adds j only
  pub add_init : (j : ℕ) → (kind ≡ ECHO → ⊥) → add w kind s j ≡ insert w s j
  unfolding insert_all run
  add_init zero ne = by_count zero false (ne_eqb kind ECHO ne)
  add_init (suc j) ne = by_count (suc j) false (ne_eqb kind ECHO ne)

  -- (echo, j) adds j, j - 1 and j - 2, as far as they are not below 0
  pub add_echo_zero : (j : ℕ) → kind ≡ ECHO → j ≡ 0 → add w kind s j ≡ insert w s j
  unfolding insert_all run
  add_echo_zero zero e p = by_count zero true (eq-eqb kind ECHO e)
  add_echo_zero (suc j) e p = absurd (omega arith)

  pub add_echo_one : (j : ℕ) → kind ≡ ECHO → j ≡ 1 → add w kind s j ≡ insert w (insert w s j) (j - 1)
  unfolding insert_all run
  add_echo_one zero e p = absurd (omega arith)
  add_echo_one (suc zero) e p = by_count 1 true (eq-eqb kind ECHO e)
  add_echo_one (suc (suc j)) e p = absurd (omega arith)

  pub add_echo :
      (j : ℕ) → kind ≡ ECHO → (j ≡ 0 → ⊥) → (j ≡ 1 → ⊥) →
      add w kind s j ≡ insert w (insert w (insert w s j) (j - 1)) (j - 2)
  unfolding insert_all run
  add_echo zero e n m = absurd (n refl)
  add_echo (suc zero) e n m = absurd (m refl)
  add_echo (suc (suc zero)) e n m = by_count 2 true (eq-eqb kind ECHO e)
  add_echo (suc (suc (suc j))) e n m =
      by_count top true (eq-eqb kind ECHO e)
      ∙ ap (λ (x : ℕ). insert w (insert w (insert w s top) x) (suc j)) (first j)
      ∙ ap (insert w (insert w (insert w s top) (top - 1))) (second j)
    where
      top : ℕ
      top = suc (suc (suc j))

      first : (j : ℕ) → suc (suc j) ≡ suc (suc (suc j)) - 1
      first j = omega arith

      second : (j : ℕ) → suc j ≡ suc (suc (suc j)) - 2
      second j = omega arith
