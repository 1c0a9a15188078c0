-- The bits of a mask that is looked at from another tick, n at a time, are the ticks that its set holds.
-- Assumes nothing.
use mathlib.Core.Path.{◌≡◌, sym, ap, ◌∙◌}
use Prim.Native.Nat.{ℕ, ◌+◌, ◌-◌, ◌*◌, ◌/◌, ◌%◌, ◌^◌, ◌≤◌, ◌<◌}
use native.Mathlib.Nat.{mod-lt}
use native.Mathlib.Decide.{dec_lt}
use native.Mathlib.Omega.{arith}
use lib.Pow.{pow_pos}
use Rattle.sets.specs.Sets.{word_bits}
use Rattle.sets.specs.Ticks.{Held, bit, holds}
use Rattle.sets.proofs.Masks.{bit_out, cut_at, shift_at, shift_below, shift_down}
use Rattle.sets.proofs.Members.{holds_at, holds_above, holds_below}
use Rattle.search.specs.Scan.{Shown}
use Rattle.search.proofs.Bits.{bit_none}

module _ (w : ℕ) (s : Held) (x : ℕ) where
  abbrev mask : ℕ
  mask = s.mask % 2 ^ w

  -- bit i of what the window leaves of the mask is the tick i below the top
  at : (t i : ℕ) → t + i ≡ s.top → bit mask i ≡ holds w s t
  at t i e =
      elim (dec_lt i w) [
        | yes l ↦ cut_at w s.mask i l ∙ sym (holds_at w s t i (omega arith) l)
        | no l ↦ bit_out mask w i (mod-lt s.mask (pow_pos w)) (omega arith) ∙ sym (holds_below w s t (omega arith))
      ]

  -- bit i of the word that begins at bit k
  in_word : (k i : ℕ) → i < word_bits → bit (mask / 2 ^ k % 2 ^ word_bits) i ≡ bit mask (i + k)
  in_word k i p = cut_at word_bits (mask / 2 ^ k) i p ∙ shift_down mask k i

  -- x - 1 is above the top: the lowest word goes up, and its lower bits are ticks above the top
  pub shown_up : s.top + 1 < x → Shown w s x (s.mask % 2 ^ w / 2 ^ 0 % 2 ^ word_bits * 2 ^ (x - (s.top + 1)) % 2 ^ word_bits)
  shown_up p t q r =
      let up = x - (s.top + 1) in
      let d = x - 1 - t in
      let word = mask / 2 ^ 0 % 2 ^ word_bits in
      cut_at word_bits (word * 2 ^ up) d (omega arith)
      ∙ elim (dec_lt d up) [
        | yes l ↦ shift_below word up d l ∙ sym (holds_above w s t (omega arith))
        | no l ↦
            let i = d - up in
            let e : d ≡ i + up = omega arith in
            ap (bit (word * 2 ^ up)) e ∙ shift_at word up i ∙ in_word 0 i (omega arith) ∙ at t (i + 0) (omega arith)
      ]

  -- x - 1 is not above the top: the word begins as far down as the top is above it
  pub shown_down : x ≤ s.top + 1 → Shown w s x (s.mask % 2 ^ w / 2 ^ (s.top + 1 - x) % 2 ^ word_bits)
  shown_down p t q r =
      let down = s.top + 1 - x in
      let d = x - 1 - t in
      in_word down d (omega arith) ∙ at t (d + down) (omega arith)

  -- too far away: nothing that is looked at is held
  pub shown_above : s.top + 1 + word_bits ≤ x → Shown w s x 0
  shown_above p t q r = bit_none (x - 1 - t) ∙ sym (holds_above w s t (omega arith))

  pub shown_below : x + w ≤ s.top + 1 → Shown w s x 0
  shown_below p t q r = bit_none (x - 1 - t) ∙ sym (holds_below w s t (omega arith))
