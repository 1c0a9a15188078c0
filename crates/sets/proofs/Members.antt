-- What a set of ticks means: who is a member after an insertion, that insertions keep a set proper, and that two proper sets
-- with the same members are one. Once for echo and init, over the window's width.
-- Assumes nothing.
use mathlib.Core.Path.{◌≡◌, refl, sym, ap, ap₂, ◌∙◌, subst}
use mathlib.Core.Logic.{◌⊎◌, inl, inr}
use mathlib.Core.Bool.{Bool, true, false, cond, ◌&&◌, and-true, and-false, and-eq-true_iff}
use Prim.Native.Nat.{ℕ, zero, suc, ◌+◌, ◌-◌, ◌*◌, ◌%◌, ◌^◌, ◌≤◌, ◌<◌, min, max}
use native.Mathlib.Nat.{lt_of_lt_of_le}
use native.Mathlib.Decide.{dec_le, dec_lt, ℕ_discrete}
use native.Mathlib.Omega.{arith}
use borrow.Author.Tests.{lt-ltb, le-ltb, le-leb, lt-leb, eq-eqb, ne_eqb, ltb-true, eqb-true}
use lib.Dec.{ltb, eqb, lit<}
use lib.Pow.{pow_pos, pow_mono}
use Rattle.sets.specs.Ticks.{Held, bit, raised, marked, holds, insert, proper}
use Rattle.sets.proofs.Masks.{bit_zero, bit_le, bit_out, bits_same, cut_at, shift_at, shift_below}
use Rattle.sets.proofs.Masks.{marked_at, marked_other, marked_lt, raised_odd, raised_suc, raised_lt, raised_low}

-- ---- a tick is held where its bit is set, and nowhere else

module _ (w : ℕ) (s : Held) (u : ℕ) where
  pub holds_at : (i : ℕ) → u + i ≡ s.top → i < w → holds w s u ≡ bit s.mask i
  unfolding holds
  holds_at i e p = rw (le-leb u s.top (omega arith), lt-ltb (s.top - u) w (omega arith)) (ap (bit s.mask) there)
    where
      there : s.top - u ≡ i
      there = omega arith

  pub holds_above : s.top < u → holds w s u ≡ 0
  unfolding holds
  holds_above p = rw (lt-leb u s.top p)

  pub holds_below : u + w ≤ s.top → holds w s u ≡ 0
  unfolding holds
  holds_below p = rw (le-leb u s.top (omega arith), le-ltb (s.top - u) w (omega arith))

  -- above the top, below the window, or at an index of the window
  pub data Place : Type 0 where
    above : s.top < u → Place
    below : u + w ≤ s.top → Place
    inside : (i : ℕ) → u + i ≡ s.top → i < w → Place

  pub place : Place
  place =
      elim (dec_lt s.top u) [
        | yes p ↦ above p
        | no p ↦ elim (dec_le (u + w) s.top) [ yes q ↦ below q | no q ↦ inside (s.top - u) (omega arith) (omega arith) ]
      ]

  pub holds_le : holds w s u ≤ 1
  holds_le = go place
    where
      go : Place → holds w s u ≤ 1
      go (above p) = omega (arith, holds_above p)
      go (below p) = omega (arith, holds_below p)
      go (inside i e p) = omega (arith, holds_at i e p, bit_le s.mask i)

-- ---- the four cases of an insertion

-- the top rises to t, and some of the ticks stay
abbrev pub risen : ℕ → Held → ℕ → Held
risen w s t = record { top = t; mask = raised w s.mask (t - s.top) }

-- t alone
abbrev pub alone : ℕ → Held
alone t = record { top = t; mask = 1 }

-- the top stays
abbrev pub filled : Held → ℕ → Held
filled s t = record { top = s.top; mask = marked s.mask (s.top - t) }

module _ (w : ℕ) (s : Held) (t : ℕ) where
  pub insert_near : s.top < t → t - s.top < w → insert w s t ≡ risen w s t
  unfolding insert
  insert_near p q = rw (lt-ltb s.top t p, lt-ltb (t - s.top) w q)

  pub insert_far : s.top < t → w ≤ t - s.top → insert w s t ≡ alone t
  unfolding insert
  insert_far p q = rw (lt-ltb s.top t p, le-ltb (t - s.top) w q)

  pub insert_in : t ≤ s.top → s.top - t < w → insert w s t ≡ filled s t
  unfolding insert
  insert_in p q = rw (le-ltb s.top t p, lt-ltb (s.top - t) w q)

  -- a tick below the window changes nothing
  pub insert_late : t + w ≤ s.top → 0 < w → insert w s t ≡ s
  unfolding insert
  insert_late p q = rw (le-ltb s.top t (omega arith), le-ltb (s.top - t) w (omega arith))

  pub data Insertion : Type 0 where
    near : s.top < t → t - s.top < w → Insertion
    far : s.top < t → w ≤ t - s.top → Insertion
    within : t ≤ s.top → s.top - t < w → Insertion
    late : t + w ≤ s.top → Insertion

  pub insertion : 0 < w → Insertion
  insertion h =
      elim (dec_lt s.top t) [
        | yes p ↦ elim (dec_lt (t - s.top) w) [ yes q ↦ near p q | no q ↦ far p (omega arith) ]
        | no p ↦ elim (dec_lt (s.top - t) w) [ yes q ↦ within (omega arith) q | no q ↦ late (omega arith) ]
      ]

pub insert_top : (w : ℕ) (s : Held) (t : ℕ) → 0 < w → (insert w s t).top ≡ max s.top t
insert_top w s t h = go (insertion w s t h)
  where
    go : Insertion w s t → (insert w s t).top ≡ max s.top t
    go (near p q) = ap (λ (x : Held). x.top) (insert_near w s t p q) ∙ omega arith
    go (far p q) = ap (λ (x : Held). x.top) (insert_far w s t p q) ∙ omega arith
    go (within p q) = ap (λ (x : Held). x.top) (insert_in w s t p q) ∙ omega arith
    go (late p) = ap (λ (x : Held). x.top) (insert_late w s t p h) ∙ omega arith

-- ---- who is a member after an insertion

-- the tick itself, where it lies in the window of the greatest
pub insert_new : (w : ℕ) (s : Held) (t : ℕ) → 0 < w → max s.top t < t + w → holds w (insert w s t) t ≡ 1
insert_new w s t h r = go (insertion w s t h)
  where
    go : Insertion w s t → holds w (insert w s t) t ≡ 1
    go (near p q) =
        ap (λ (x : Held). holds w x t) (insert_near w s t p q) ∙ holds_at w (risen w s t) t 0 (omega arith) h
        ∙ bit_zero (raised w s.mask (t - s.top)) ∙ raised_odd w s.mask (t - s.top) h (omega arith)
    go (far p q) =
        ap (λ (x : Held). holds w x t) (insert_far w s t p q) ∙ holds_at w (alone t) t 0 (omega arith) h ∙ bit_zero 1
    go (within p q) =
        ap (λ (x : Held). holds w x t) (insert_in w s t p q) ∙ holds_at w (filled s t) t (s.top - t) (omega arith) q
        ∙ marked_at s.mask (s.top - t)
    go (late p) = absurd (omega arith)

-- any other tick is held as before, where it lies in the window of the greatest
pub insert_old :
    (w : ℕ) (s : Held) (t u : ℕ) → 0 < w → (u ≡ t → ⊥) → max s.top t < u + w → holds w (insert w s t) u ≡ holds w s u
insert_old w s t u h ne r = go (insertion w s t h)
  where
    -- ticks above the old top are not held, and those below it have gone up with the mask
    raised_case :
        s.top < t → t - s.top < w → (i : ℕ) → u + suc i ≡ t → suc i < w →
        bit (raised w s.mask (t - s.top)) (suc i) ≡ holds w s u
    raised_case p q i e l =
        let d = t - s.top in
        raised_suc w s.mask d i h (omega arith) ∙ cut_at w (s.mask * 2 ^ d) (suc i) l
        ∙ elim (dec_lt (suc i) d) [
          | yes b ↦ shift_below s.mask d (suc i) b ∙ sym (holds_above w s u (omega arith))
          | no b ↦
              ap (bit (s.mask * 2 ^ d)) (apart b) ∙ shift_at s.mask d (suc i - d)
              ∙ sym (holds_at w s u (suc i - d) (omega arith) (omega arith))
        ]
      where
        apart : (suc i < t - s.top → ⊥) → suc i ≡ suc i - (t - s.top) + (t - s.top)
        apart b = omega arith

    near_case : s.top < t → t - s.top < w → Place w (risen w s t) u → holds w (risen w s t) u ≡ holds w s u
    near_case p q (above x) = holds_above w (risen w s t) u x ∙ sym (holds_above w s u (omega arith))
    near_case p q (below x) = absurd (omega arith)
    near_case p q (inside zero e l) = absurd (ne (omega arith))
    near_case p q (inside (suc i) e l) = holds_at w (risen w s t) u (suc i) e l ∙ raised_case p q i e l

    far_case : s.top < t → w ≤ t - s.top → Place w (alone t) u → holds w (alone t) u ≡ holds w s u
    far_case p q (above x) = holds_above w (alone t) u x ∙ sym (holds_above w s u (omega arith))
    far_case p q (below x) = absurd (omega arith)
    far_case p q (inside zero e l) = absurd (ne (omega arith))
    far_case p q (inside (suc i) e l) =
        holds_at w (alone t) u (suc i) e l ∙ bit_out 1 1 (suc i) (lit< tt) (omega arith) ∙ sym (holds_above w s u (omega arith))

    in_case : t ≤ s.top → s.top - t < w → Place w s u → holds w (filled s t) u ≡ holds w s u
    in_case p q (above x) = holds_above w (filled s t) u x ∙ sym (holds_above w s u x)
    in_case p q (below x) = absurd (omega arith)
    in_case p q (inside i e l) =
        holds_at w (filled s t) u i e l ∙ marked_other s.mask (s.top - t) i (λ f. ne (omega arith))
        ∙ sym (holds_at w s u i e l)

    go : Insertion w s t → holds w (insert w s t) u ≡ holds w s u
    go (near p q) = ap (λ (x : Held). holds w x u) (insert_near w s t p q) ∙ near_case p q (place w (risen w s t) u)
    go (far p q) = ap (λ (x : Held). holds w x u) (insert_far w s t p q) ∙ far_case p q (place w (alone t) u)
    go (within p q) = ap (λ (x : Held). holds w x u) (insert_in w s t p q) ∙ in_case p q (place w s u)
    go (late p) = ap (λ (x : Held). holds w x u) (insert_late w s t p h)

-- ---- proper sets

-- empty with top 0, or with bit 0 set
abbrev pub Shape : Held → Type 0
Shape s = ((s.mask ≡ 0) × (s.top ≡ 0)) ⊎ (s.mask % 2 ≡ 1)

-- what `proper` says, as facts
pub record Proper (w : ℕ) (s : Held) : Type 0 where
  pub narrow : s.mask < 2 ^ w
  pub low : s.mask < 2 ^ (s.top + 1)
  pub shape : Shape s

pub insert_proper : (w : ℕ) (s : Held) (t : ℕ) → 0 < w → Proper w s → Proper w (insert w s t)
insert_proper w s t h g = go (insertion w s t h)
  where
    one : (k : ℕ) → 0 < k → 1 < 2 ^ k
    one k p = lt (pow_mono p)
      where
        lt : 2 ^ 1 ≤ 2 ^ k → 1 < 2 ^ k
        lt q = omega arith

    odd : t ≤ s.top → Dec (0 ≡ s.top - t) → Shape s → bit (marked s.mask (s.top - t)) 0 ≡ 1
    odd p (yes e) c = ap (bit (marked s.mask (s.top - t))) e ∙ marked_at s.mask (s.top - t)
    odd p (no n) (inl z) = absurd (n (omega (arith, z.1)))
    odd p (no n) (inr o) = marked_other s.mask (s.top - t) 0 n ∙ bit_zero s.mask ∙ o

    top_up : s.top < t → s.top + 1 + (t - s.top) ≡ t + 1
    top_up p = omega arith

    go : Insertion w s t → Proper w (insert w s t)
    go (near p q) =
        subst (Proper w) (sym (insert_near w s t p q))
        (record {
          narrow = raised_lt w s.mask (t - s.top) h (omega arith);
          low =
              subst (λ (k : ℕ). raised w s.mask (t - s.top) < 2 ^ k) (top_up p)
              (raised_low w s.mask (t - s.top) (s.top + 1) h (omega arith) g.low);
          shape = inr (raised_odd w s.mask (t - s.top) h (omega arith));
        })
    go (far p q) =
        subst (Proper w) (sym (insert_far w s t p q))
        (record { narrow = one w h; low = one (t + 1) (omega arith); shape = inr refl })
    go (within p q) =
        subst (Proper w) (sym (insert_in w s t p q))
        (record {
          narrow = marked_lt s.mask (s.top - t) w q g.narrow;
          low = marked_lt s.mask (s.top - t) (s.top + 1) (omega arith) g.low;
          shape = inr (sym (bit_zero (marked s.mask (s.top - t))) ∙ odd p (ℕ_discrete 0 (s.top - t)) g.shape);
        })
    go (late p) = subst (Proper w) (sym (insert_late w s t p h)) g

-- ---- a proper set is its members

-- a set that is not empty holds its top
top_held : (w : ℕ) (s : Held) → 0 < w → s.mask % 2 ≡ 1 → holds w s s.top ≡ 1
top_held w s h e = holds_at w s s.top 0 (omega arith) h ∙ bit_zero s.mask ∙ e

pub bare : (w : ℕ) (s : Held) → s.mask ≡ 0 → (u : ℕ) → holds w s u ≡ 0
bare w s e u = go (place w s u)
  where
    go : Place w s u → holds w s u ≡ 0
    go (above p) = holds_above w s u p
    go (below p) = holds_below w s u p
    go (inside i f p) = holds_at w s u i f p ∙ ap (λ (x : ℕ). bit x i) e ∙ bit_out 0 0 i (lit< tt) (omega arith)

top_most :
    (w : ℕ) (s r : Held) → 0 < w → s.mask % 2 ≡ 1 → ((u : ℕ) → holds w s u ≡ holds w r u) → s.top ≤ r.top
top_most w s r h e f =
    elim (dec_le s.top r.top) [
      | yes p ↦ p
      | no p ↦ absurd (omega (arith, top_held w s h e, f s.top, holds_above w r s.top (omega arith)))
    ]

pub members_same :
    (w : ℕ) (s r : Held) → 0 < w → Proper w s → Proper w r → ((u : ℕ) → holds w s u ≡ holds w r u) → s ≡ r
members_same w s r h g k f = go g.shape k.shape
  where
    pair : s.top ≡ r.top → s.mask ≡ r.mask → s ≡ r
    pair d e = λ i. record { top = d i; mask = e i }

    bits : s.top ≡ r.top → (i : ℕ) → i < w → bit s.mask i ≡ bit r.mask i
    bits d i p =
        elim (dec_le i s.top) [
          | yes q ↦
              sym (holds_at w s (s.top - i) i (omega arith) p) ∙ f (s.top - i)
              ∙ holds_at w r (s.top - i) i (omega arith) p
          | no q ↦
              bit_out s.mask (s.top + 1) i g.low (omega arith)
              ∙ sym (bit_out r.mask (r.top + 1) i k.low (omega arith))
        ]

    go : Shape s → Shape r → s ≡ r
    go (inl a) (inl b) = pair (a.1 ∙ sym b.1) (a.0 ∙ sym b.0)
    go (inl a) (inr b) = absurd (omega (arith, top_held w r h b, f r.top, bare w s a.0 r.top))
    go (inr a) (inl b) = absurd (omega (arith, top_held w s h a, f s.top, bare w r b.0 s.top))
    go (inr a) (inr b) =
        let d : s.top ≡ r.top = omega (arith, top_most w s r h a f, top_most w r s h b (λ u. sym (f u))) in
        pair d (bits_same w s.mask r.mask g.narrow k.narrow (bits d))

-- ---- the test of the definitions, case by case

module _ (w : ℕ) (s : Held) where
  pub proper_empty : s.mask ≡ 0 → proper w s ≡ eqb s.top 0
  unfolding proper
  proper_empty e =
      let reach = 2 ^ min w (s.top + 1) in
      ap₂ (λ (a b : Bool). a && cond b (eqb s.top 0) (eqb (s.mask % 2) 1))
      (lt-ltb s.mask reach (subst (λ (m : ℕ). m < reach) (sym e) (pow_pos (min w (s.top + 1))))) (eq-eqb s.mask 0 e)

  -- with bit 0 not set, a mask that is not 0 is refused
  pub proper_even : (s.mask ≡ 0 → ⊥) → (s.mask % 2 ≡ 1 → ⊥) → proper w s ≡ false
  unfolding proper
  proper_even n m =
      let small = ltb s.mask (2 ^ min w (s.top + 1)) in
      ap₂ (λ (a b : Bool). small && cond a (eqb s.top 0) b) (ne_eqb s.mask 0 n) (ne_eqb (s.mask % 2) 1 m)
      ∙ and-false small

  -- with bit 0 set it is not 0
  pub proper_odd : s.mask % 2 ≡ 1 → proper w s ≡ ltb s.mask (2 ^ min w (s.top + 1))
  unfolding proper
  proper_odd m =
      let n : s.mask ≡ 0 → ⊥ = λ z. omega (arith, ap (λ (x : ℕ). x % 2) z) in
      let small = ltb s.mask (2 ^ min w (s.top + 1)) in
      ap₂ (λ (a b : Bool). small && cond a (eqb s.top 0) b) (ne_eqb s.mask 0 n) (eq-eqb (s.mask % 2) 1 m)
      ∙ and-true small

  -- ---- and as facts

  pub proper_facts : proper w s ≡ true → Proper w s
  unfolding proper
  proper_facts e =
      let both =
      (and-eq-true_iff (ltb s.mask (2 ^ min w (s.top + 1))) (cond (eqb s.mask 0) (eqb s.top 0) (eqb (s.mask % 2) 1))
      ).0 e in
      let small = ltb-true _ _ both.0 in
      record {
        narrow = lt_of_lt_of_le small (pow_mono (left w (s.top + 1)));
        low = lt_of_lt_of_le small (pow_mono (right w (s.top + 1)));
        shape = shaped (eqb s.mask 0) refl both.1;
      }
    where
      left : (a b : ℕ) → min a b ≤ a
      left a b = omega arith

      right : (a b : ℕ) → min a b ≤ b
      right a b = omega arith

      shaped : (b : Bool) → eqb s.mask 0 ≡ b → cond b (eqb s.top 0) (eqb (s.mask % 2) 1) ≡ true → Shape s
      shaped true q f = inl (eqb-true s.mask 0 q, eqb-true s.top 0 f)
      shaped false q f = inr (eqb-true (s.mask % 2) 1 f)

  pub proper_test : Proper w s → proper w s ≡ true
  proper_test g = go g.shape
    where
      small : s.mask < 2 ^ min w (s.top + 1)
      small =
          elim (dec_le w (s.top + 1)) [
            | yes p ↦ subst (λ (k : ℕ). s.mask < 2 ^ k) (left p) g.narrow
            | no p ↦ subst (λ (k : ℕ). s.mask < 2 ^ k) (right p) g.low
          ]
        where
          left : w ≤ s.top + 1 → w ≡ min w (s.top + 1)
          left p = omega arith

          right : (w ≤ s.top + 1 → ⊥) → s.top + 1 ≡ min w (s.top + 1)
          right p = omega arith

      go : Shape s → proper w s ≡ true
      go (inl e) = proper_empty e.0 ∙ eq-eqb s.top 0 e.1
      go (inr o) =
          proper_odd o ∙ lt-ltb s.mask (2 ^ min w (s.top + 1)) small
