-- What stores write does not depend on what stood there: two buffers with the same stores over them share every byte that one of the
-- stores covers. Whether all bytes in front of a place are covered is computed, so a header of a dozen fields asks one test.
-- Assumes nothing.
use mathlib.Core.Path.{◌≡◌, refl, sym, ◌∙◌}
use mathlib.Core.Logic.{◌⊎◌, inl, inr}
use mathlib.Core.Bool.{Bool, true, false, ◌&&◌, ◌||◌, false≢true, and-eq-true_iff}
use mathlib.Core.List.{List, [], ◌∷◌}
use Prim.Native.Nat.{ℕ, zero, suc, ◌+◌, ◌/◌, ◌%◌, ◌≤◌, ◌<◌}
use native.Mathlib.Decide.{ℕ_discrete}
use native.Mathlib.Omega.{arith}
use borrow.Author.Tests.{leb-true, le-leb, ltb-true, lt-ltb}
use lib.ListN.{length, get_or, take, drop, length-drop}
use lib.Seq.{get_or-set_same, get_or-set_other, get_or-take, get_or-drop, length-take-le, ext_get_or}
use lib.Dec.{T, ltb, leb}
use mir.Facts.{and_yes}
use Rattle.fields.specs.Field.{put_field}
use Rattle.fields.proofs.Fields.{length_put, get_d_put_other}
use Rattle.fields.proofs.Stores.{Store, put_stores, length_stores}

-- ---- two lists by their bytes: in front of a place, and from it on

pub take_same : (n : ℕ) (b c : List ℕ) → n ≤ length b → n ≤ length c → ((j : ℕ) → j < n → get_or b j 0 ≡ get_or c j 0) → take n b ≡ take n c
take_same n b c p q same =
    let size = length-take-le n b p in
    ext_get_or 0 (take n b) (take n c) (size ∙ sym (length-take-le n c q))
    (λ j r. get_or-take n b j 0 (omega arith) ∙ same j (omega arith) ∙ sym (get_or-take n c j 0 (omega arith)))

pub drop_same : (n : ℕ) (b c : List ℕ) → length b ≡ length c → ((j : ℕ) → n ≤ j → get_or b j 0 ≡ get_or c j 0) → drop n b ≡ drop n c
drop_same n b c e same =
    ext_get_or 0 (drop n b) (drop n c) (simp length-drop (omega arith))
    (λ j r. get_or-drop n b j 0 ∙ same (n + j) (omega arith) ∙ sym (get_or-drop n c j 0))

-- ---- one store

-- a byte of the field that it writes
put_over : (w : ℕ) (b c : List ℕ) (i v j : ℕ) → i ≤ j → j < i + w → j < length b → j < length c →
    get_or (put_field w b i v) j 0 ≡ get_or (put_field w c i v) j 0
unfolding put_field
put_over zero b c i v j p q r s = absurd (omega arith)
put_over (suc w) b c i v j p q r s =
    elim (ℕ_discrete j (i + w)) [
      | yes e ↦ last b (omega arith) e ∙ sym (last c (omega arith) e)
      | no n ↦
          get_or-set_other (put_field w b i (v / 256)) (i + w) j (v % 256) 0 n
          ∙ put_over w b c i (v / 256) j p (omega arith) r s
          ∙ sym (get_or-set_other (put_field w c i (v / 256)) (i + w) j (v % 256) 0 n)
    ]
  where
    last : (l : List ℕ) → i + w < length l → j ≡ i + w → get_or (put_field (suc w) l i v) j 0 ≡ v % 256
    last l o e = rw e (get_or-set_same (put_field w l i (v / 256)) (i + w) (v % 256) 0 (omega (arith, length_put w l i (v / 256))))

-- ---- a run of stores

abbrev covers : Store → ℕ → Bool
covers s j = leb s.place j && ltb j (s.place + s.width)

abbrev covered : List Store → ℕ → Bool
covered [] j = false
covered (s ∷ ss) j = covers s j || covered ss j

-- every byte in front of place n
abbrev pub covers_all : List Store → ℕ → Bool
covers_all ss zero = true
covers_all ss (suc n) = covered ss n && covers_all ss n

-- a byte that was the same before, or that some store covers
byte_over : (b c : List ℕ) (j : ℕ) (ss : List Store) → j < length b → j < length c →
    (get_or b j 0 ≡ get_or c j 0) ⊎ T (covered ss j) → get_or (put_stores b ss) j 0 ≡ get_or (put_stores c ss) j 0
unfolding put_stores
byte_over b c j [] p q (inl e) = e
byte_over b c j [] p q (inr x) = elim x [ ]
byte_over b c j (s ∷ ss) p q h =
    byte_over (after b) (after c) j ss (omega (arith, kept b)) (omega (arith, kept c)) (go (covers s j) refl h)
  where
    after : List ℕ → List ℕ
    after l = put_field s.width l s.place s.value

    kept : (l : List ℕ) → length (after l) ≡ length l
    kept l = length_put s.width l s.place s.value

    elsewhere : (l : List ℕ) → covers s j ≡ false → get_or (after l) j 0 ≡ get_or l j 0
    elsewhere l e =
        get_d_put_other s.width l s.place s.value j
        (λ k r f.
        false≢true (sym e ∙ (and-eq-true_iff _ _).1 (le-leb s.place j (omega arith), lt-ltb j (s.place + s.width) (omega arith))))

    go : (t : Bool) → covers s j ≡ t → (get_or b j 0 ≡ get_or c j 0) ⊎ T (t || covered ss j) →
        (get_or (after b) j 0 ≡ get_or (after c) j 0) ⊎ T (covered ss j)
    go true e h =
        let inside = (and-eq-true_iff _ _).0 e in
        inl (put_over s.width b c s.place s.value j (leb-true _ _ inside.0) (ltb-true _ _ inside.1) p q)
    go false e (inl f) = inl (elsewhere b e ∙ f ∙ sym (elsewhere c e))
    go false e (inr t) = inr t

covered_at : (ss : List Store) (n j : ℕ) → T (covers_all ss n) → j < n → T (covered ss j)
covered_at ss zero j t p = absurd (omega arith)
covered_at ss (suc n) j t p =
    let both = and_yes (covered ss n) (covers_all ss n) t in
    elim (ℕ_discrete j n) [ yes e ↦ rw e both.0 | no ne ↦ covered_at ss n j both.1 (omega arith) ]

-- where the stores cover all in front of place n, two buffers are the same there
pub stores_over : (b c : List ℕ) (ss : List Store) (n : ℕ) → T (covers_all ss n) → n ≤ length b → n ≤ length c →
    take n (put_stores b ss) ≡ take n (put_stores c ss)
stores_over b c ss n t p q =
    take_same n (put_stores b ss) (put_stores c ss) (omega (arith, length_stores b ss)) (omega (arith, length_stores c ss))
    (λ j r. byte_over b c j ss (omega arith) (omega arith) (inr (covered_at ss n j t r)))
