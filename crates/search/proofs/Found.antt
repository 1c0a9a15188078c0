-- From one look to the next: what is found among the ticks looked at is the greatest, and where nothing is found none is left
-- above the next look.
-- Assumes nothing.
use mathlib.Core.Path.{◌≡◌, sym, ap, ◌∙◌}
use mathlib.Core.List.{List}
use Prim.Native.Nat.{ℕ, suc, ◌+◌, ◌-◌, ◌^◌, ◌≤◌, ◌<◌, max}
use native.Mathlib.Decide.{dec_lt}
use native.Mathlib.Omega.{arith}
use lib.Dec.{leb}
use Rattle.evidence.specs.Holders.{holders, best_of, greatest}
use Rattle.evidence.specs.Rows.{Row}
use Rattle.sets.specs.Sets.{word_bits}
use Rattle.sets.specs.Ticks.{Held, bit, holds}
use Rattle.evidence.proofs.Greatest.{held_place, best_held, best_most, greatest_none, greatest_is}
use Rattle.sets.proofs.Masks.{bit_out}
use Rattle.sets.proofs.Members.{holds_at}
use Rattle.search.specs.Scan.{view, Scanned}
use Rattle.search.specs.Tops.{many_tops, CoveredFrom}
use Rattle.search.proofs.Bits.{bit_none}
use Rattle.search.proofs.Reaches.{held_reach}

module _ (w kind m low : ℕ) (rows : List Row) where
  -- no tick from x on is held by m rows
  abbrev pub NoneFrom : ℕ → Type 0
  NoneFrom x = (t : ℕ) → x ≤ t → low ≤ t → max 1 m ≤ holders w kind t rows → ⊥

  -- too few hold a tick from there on: nor is one left
  pub none_covered : (x from : ℕ) → NoneFrom x → CoveredFrom w kind (max 1 m) x rows from → NoneFrom from
  none_covered x from above covered t p l r =
      elim (dec_lt t x) [ no n ↦ above t (omega arith) l r | yes q ↦ omega (arith, r, covered.few t p q) ]

  -- from low on nothing is left
  pub none_left : (x : ℕ) → NoneFrom x → x ≤ low → greatest w kind m low rows ≡ 0
  none_left x above p = greatest_none w kind m low rows (λ t l q r. above t (omega arith) l (omega arith))

  -- nor is there any where too few tops reach so far up
  pub none_reached : many_tops (leb low) kind rows < max 1 m → greatest w kind m low rows ≡ 0
  none_reached few = none_left low (λ t p l r. omega (arith, r, few, held_reach w kind low t rows l)) (omega arith)

-- the ticks that a look shows, as a set
abbrev pub looked_at : ℕ → ℕ → Held
looked_at x held = record { top = x - 1; mask = held }

-- a look at the ticks below x, with none from x on
pub record Looked (w kind m low : ℕ) (rows : List Row) (x held : ℕ) : Type 0 where
  pub above : NoneFrom w kind m low rows x
  pub positive : 0 < x
  pub small : held < 2 ^ word_bits
  pub shown : Scanned w kind (max 1 m) x rows held

module _ {w kind m low : ℕ} {rows : List Row} {x held : ℕ} (look : Looked w kind m low rows x held) where
  -- a tick that is held by m rows and is among those looked at
  member : (t : ℕ) → t < x → x ≤ t + view w → max 1 m ≤ holders w kind t rows → holds w (looked_at x held) t ≡ 1
  member t p q r = holds_at w (looked_at x held) t (x - 1 - t) (omega arith) (omega arith) ∙ look.shown t p q r

  -- what the word shows stands in the word
  near_held : (t : ℕ) → holds w (looked_at x held) t ≡ 1 → (t < x) × (x ≤ t + view w)
  near_held t s =
      let near = held_place w (looked_at x held) t s in
      let d = x - 1 - t in
      elim (dec_lt d word_bits) [
        | yes p ↦ omega (arith, near, look.positive)
        | no p ↦
            let here = holds_at w (looked_at x held) t d (omega (arith, near.0)) (omega (arith, near.1)) in
            absurd (omega (arith, s, here, bit_out held word_bits d look.small (omega arith)))
      ]

  -- nothing is found among them
  none_further :
      ((t : ℕ) → low ≤ t → max 1 m ≤ holders w kind t rows → holds w (looked_at x held) t ≡ 1 → ⊥) →
      NoneFrom w kind m low rows (x - view w)
  none_further none t p l r =
      elim (dec_lt t x) [ no n ↦ look.above t (omega arith) l r | yes q ↦ none t l r (member t q (omega arith) r) ]

  pub none_seen : held ≡ 0 → NoneFrom w kind m low rows (x - view w)
  none_seen e = none_further (λ t l r s.
      let near = held_place w (looked_at x held) t s in
      let d = x - 1 - t in
      omega (arith, s, holds_at w (looked_at x held) t d (omega arith) (omega arith), ap (λ (b : ℕ). bit b d) e, bit_none d))

  -- the greatest of them, as the search for it tells it
  abbrev Best : ℕ → Type 0
  Best best = best ≡ best_of w kind (max 1 m) low rows (looked_at x held)

  pub none_better : Best 0 → NoneFrom w kind m low rows (x - view w)
  none_better e = none_further (λ t l r s. omega (arith, e, best_most w kind (max 1 m) low rows t (looked_at x held) l r s))

  -- something is found
  pub found : (t : ℕ) → Best (suc t) → suc t ≡ greatest w kind m low rows
  found t e =
      let has = best_held w kind (max 1 m) low rows t (looked_at x held) (sym e) in
      let near = near_held t has.2 in
      sym (greatest_is w kind m low rows t has.0 (omega (arith, has.1)) (omega (arith, has.1)) (λ u q r s.
      elim (dec_lt u x) [
        | no n ↦ look.above u (omega arith) (omega (arith, has.0)) (omega arith)
        | yes l ↦
            let there = member u l (omega (arith, near.1)) (omega arith) in
            let later = best_most w kind (max 1 m) low rows u (looked_at x held) (omega (arith, has.0)) (omega arith) there in
            omega (arith, e, later)
      ]))
