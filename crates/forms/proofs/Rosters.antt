-- Laws of a roster: the numbers of n and f, its number case by case, and a roster in order.
-- Assumes nothing.
use mathlib.Core.Path.{◌≡◌, refl, sym, ◌∙◌}
use mathlib.Core.List.{List}
use mathlib.Core.Bool.{Bool, true, false, cond, ◌||◌}
use mathlib.Core.Logic.{◌⊎◌, inl, inr, ⊎_elim}
use Prim.Native.Nat.{ℕ, ◌+◌, ◌*◌, ◌≤◌, ◌<◌}
use native.Mathlib.Decide.{dec_lt}
use native.Mathlib.Omega.{arith}
use lib.ListN.{length}
use lib.Dec.{ltb, eqb}
use borrow.Author.Tests.{lt-ltb, le-ltb, ltb-true, ltb-false, eq-eqb, ne_eqb}
use Rattle.forms.specs.Column.{count, twins}
use Rattle.forms.specs.Roster.{most_lines, full_faults, limits_then, roster_number}
use Rattle.forms.specs.Table.{Twice}
use Rattle.forms.proofs.Meaning.{member_says, twice_says, roster_says}

-- ---- the numbers of n and f

-- f faults and n lines are within the limits
abbrev pub Limits : ℕ → ℕ → Type 0
Limits f n = (1 ≤ n) × (n ≤ most_lines) × (3 * f + 1 ≤ n)

abbrev beyond : ℕ → ℕ → Bool
beyond f n = ltb n 1 || ltb most_lines n || ltb n (3 * f + 1)

within : (f n : ℕ) → Limits f n → beyond f n ≡ false
within f n h = rw (le-ltb n 1 h.0, le-ltb most_lines n h.1, le-ltb n (3 * f + 1) h.2)

limits : (f n : ℕ) → Limits f n ⊎ (beyond f n ≡ true)
limits f n = go (ltb n 1) (ltb most_lines n) (ltb n (3 * f + 1)) refl refl refl
  where
    go : (s t u : Bool) → ltb n 1 ≡ s → ltb most_lines n ≡ t → ltb n (3 * f + 1) ≡ u → Limits f n ⊎ (beyond f n ≡ true)
    go true t u p q r = inr (rw p)
    go false true u p q r = inr (rw (p, q))
    go false false true p q r = inr (rw (p, q, r))
    go false false false p q r = inl (ltb-false n 1 p, ltb-false most_lines n q, ltb-false n (3 * f + 1) r)

module _ (n f behind : ℕ) where
  beyond_two : beyond f n ≡ true → limits_then n f behind ≡ 2
  beyond_two e = rw e

  pub limits_two : (Limits f n → ⊥) → limits_then n f behind ≡ 2
  limits_two h = ⊎_elim (λ l. absurd (h l)) beyond_two (limits f n)

  pub limits_understated : Limits f n → f < full_faults n → limits_then n f behind ≡ 21
  limits_understated l u = rw (within f n l, lt-ltb f (full_faults n) u)

  -- what comes behind decides
  pub limits_kept : Limits f n → full_faults n ≤ f → limits_then n f behind ≡ behind
  limits_kept l u = rw (within f n l, le-ltb f (full_faults n) u)

  -- f is all that n allows, and no more
  abbrev Full : Type 0
  Full = Limits f n × (full_faults n ≤ f)

  pub limits_full : limits_then n f behind ≡ 0 → Full
  limits_full z = ⊎_elim (λ l. go l (ltb f (full_faults n)) refl) (λ e. absurd (omega (arith, z, beyond_two e))) (limits f n)
    where
      go : Limits f n → (t : Bool) → ltb f (full_faults n) ≡ t → Full
      go l true e = absurd (omega (arith, z, limits_understated l (ltb-true f (full_faults n) e)))
      go l false e = (l, ltb-false f (full_faults n) e)

  pub limits_taken : limits_then n f behind ≡ 0 → behind ≡ 0
  limits_taken z = let full = limits_full z in sym (limits_kept full.0 full.1) ∙ z

-- where they refuse, it does not matter what comes behind
pub limits_first : (n f behind : ℕ) → (limits_then n f 0 ≡ 0 → ⊥) → limits_then n f 0 ≡ limits_then n f behind
limits_first n f behind h = go (beyond f n) (ltb f (full_faults n)) refl refl
  where
    go : (s t : Bool) → beyond f n ≡ s → ltb f (full_faults n) ≡ t → limits_then n f 0 ≡ limits_then n f behind
    go true t p q = rw p
    go false true p q = rw (p, q)
    go false false p q = absurd (h (rw (p, q)))

-- ---- the number of a roster

module _ (f own : ℕ) (serials : List ℕ) where
  pub roster_two : (Limits f (length serials) → ⊥) → roster_number f own serials ≡ 2
  unfolding roster_number
  roster_two h = limits_two (length serials) f _ h

  pub roster_limits : roster_number f own serials ≡ 0 → Limits f (length serials)
  unfolding roster_number
  roster_limits z = (limits_full (length serials) f _ z).0

  pub roster_understated : Limits f (length serials) → f < full_faults (length serials) → roster_number f own serials ≡ 21
  unfolding roster_number
  roster_understated l u = limits_understated (length serials) f _ l u

  -- refused for n and f alone
  pub roster_refused : (limits_then (length serials) f 0 ≡ 0 → ⊥) → limits_then (length serials) f 0 ≡ roster_number f own serials
  unfolding roster_number
  roster_refused h = limits_first (length serials) f _ h

  module _ (l : Limits f (length serials)) (u : full_faults (length serials) ≤ f) where
    stated : ltb f (full_faults (length serials)) ≡ false
    stated = le-ltb f (full_faults (length serials)) u

    pub roster_own : own ≡ 0 → roster_number f own serials ≡ 3
    unfolding roster_number count
    roster_own o = rw (within f (length serials) l, stated, eq-eqb own 0 o, lt-ltb 0 (1 + count 0 serials) (omega arith))

    pub roster_zero : 0 < count 0 serials → roster_number f own serials ≡ 3
    unfolding roster_number count
    roster_zero z =
        rw (within f (length serials) l, stated, lt-ltb 0 (cond (eqb own 0) 1 0 + count 0 serials) (omega arith))

    module _ (o : own ≡ 0 → ⊥) (z : count 0 serials ≡ 0) where
      pub roster_twice : 0 < twins serials → roster_number f own serials ≡ 4
      unfolding roster_number count
      roster_twice t = rw (within f (length serials) l, stated, ne_eqb own 0 o, z, lt-ltb 0 (twins serials) t)

      pub roster_stranger : twins serials ≡ 0 → count own serials ≡ 0 → roster_number f own serials ≡ 5
      unfolding roster_number count
      roster_stranger t s = rw (within f (length serials) l, stated, ne_eqb own 0 o, z, t, s)

      pub roster_sound : twins serials ≡ 0 → (count own serials ≡ 0 → ⊥) → roster_number f own serials ≡ 0
      unfolding roster_number count
      roster_sound t s = rw (within f (length serials) l, stated, ne_eqb own 0 o, z, t, ne_eqb (count own serials) 0 s)

-- ---- a roster in order

-- it states the full fault number
pub roster_full : (f own : ℕ) (serials : List ℕ) → roster_number f own serials ≡ 0 → f ≡ full_faults (length serials)
roster_full f own serials z = omega (arith, roster_limits f own serials z, (((roster_says f own serials).exactly 0).0 z).1.0)

-- no serial stands twice
pub roster_twins : (f own : ℕ) (serials : List ℕ) → roster_number f own serials ≡ 0 → twins serials ≡ 0
roster_twins f own serials z = elim (dec_lt 0 (twins serials)) [ yes p ↦ absurd (once ((twice_says serials).0 p)) | no q ↦ omega arith ]
  where
    once : Twice serials → ⊥
    once = (((roster_says f own serials).exactly 0).0 z).1.1.1.0

-- the own serial stands in it
pub roster_listed : (f own : ℕ) (serials : List ℕ) → roster_number f own serials ≡ 0 → count own serials ≡ 0 → ⊥
roster_listed f own serials z e =
    (((roster_says f own serials).exactly 0).0 z).1.1.1.1.0 (λ m. omega (arith, e, (member_says own serials).1 m))
