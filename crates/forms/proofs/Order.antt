-- The order of lines decides nothing: a roster and a form whose lines are reordered get the same number and the same fields, be the
-- form's length right or wrong. So a zero serial and a twin are never taken in line order.
-- Assumes nothing.
use mathlib.Core.Path.{◌≡◌, refl, sym, ap, ap₂, ◌∙◌, subst₂}
use Prim.Native.Nat.{ℕ, ◌+◌, ◌<◌, ◌≤◌}
use native.Mathlib.Decide.{ℕ_discrete}
use native.Mathlib.Omega.{arith}
use mathlib.Core.Bool.{Bool, true, false, cond}
use mathlib.Core.List.{List, Permᴰ}
use lib.ListN.{length, get_or}
use lib.Seq.{get_or-take}
use lib.Dec.{eqb}
use borrow.Author.Tests.{eq-eqb, ne_eqb}
use Rattle.fields.specs.Field.{field, words}
use Rattle.forms.specs.Column.{how_many, count, twins}
use Rattle.forms.specs.Roster.{roster_number}
use Rattle.forms.specs.Form.{serials_place, form_size, lines_of, faults_of, own_of, serials_of, lines_in, Reordered}
use Rattle.forms.specs.Form.{misplaced, form_number, form_told, form_written}
use Rattle.fields.proofs.Fields.{field_same}
use Rattle.forms.proofs.Meaning.{write_number_lem}
use Rattle.forms.proofs.Told.{placed_length, taken_parts}

-- ---- some things, and the same in another order

-- as many pass a test
pub many_order : {A : Type 0} (test : A → Bool) {l m : List A} → Permᴰ l m → how_many test l ≡ how_many test m
unfolding how_many
many_order test Permᴰ.nil = refl
many_order {A} test (Permᴰ.cons e p) = ap₂ (λ (x : A) (n : ℕ). cond (test x) 1 0 + n) e (many_order test p)
many_order {A} test (Permᴰ.swap e₁ e₂) =
    omega (arith, ap {B = ℕ} (λ (x : A). cond (test x) 1 0) e₁, ap {B = ℕ} (λ (x : A). cond (test x) 1 0) e₂)
many_order test (Permᴰ.trans p q) = many_order test p ∙ many_order test q

-- ---- a roster, and the same lines in another order

-- there are as many lines
pub length_order : {l m : List ℕ} → Permᴰ l m → length l ≡ length m
length_order Permᴰ.nil = refl
length_order (Permᴰ.cons e p) = omega (arith, length_order p)
length_order (Permᴰ.swap e₁ e₂) = refl
length_order (Permᴰ.trans p q) = length_order p ∙ length_order q

-- a serial stands as often in them
pub count_order : (x : ℕ) {l m : List ℕ} → Permᴰ l m → count x l ≡ count x m
unfolding count
count_order x Permᴰ.nil = refl
count_order x (Permᴰ.cons e p) = ap₂ (λ (y n : ℕ). cond (eqb y x) 1 0 + n) e (count_order x p)
count_order x (Permᴰ.swap e₁ e₂) =
    omega (arith, ap {B = ℕ} (λ (y : ℕ). cond (eqb y x) 1 0) e₁, ap {B = ℕ} (λ (y : ℕ). cond (eqb y x) 1 0) e₂)
count_order x (Permᴰ.trans p q) = count_order x p ∙ count_order x q

eqb_swap : (a b : ℕ) → eqb a b ≡ eqb b a
eqb_swap a b =
    elim (ℕ_discrete a b) [
      | yes e ↦ eq-eqb a b e ∙ sym (eq-eqb b a (sym e))
      | no n ↦ ne_eqb a b n ∙ sym (ne_eqb b a (λ e. n (sym e)))
    ]

-- and as many pairs of lines hold the same serial
pub twins_order : {l m : List ℕ} → Permᴰ l m → twins l ≡ twins m
unfolding count twins
twins_order Permᴰ.nil = refl
twins_order (Permᴰ.cons {a} {b} {l₁} {l₂} e p) =
    ap₂ (λ (n t : ℕ). n + t) (count_order a p ∙ ap (λ (x : ℕ). count x l₂) e) (twins_order p)
twins_order (Permᴰ.swap {a} {b} {a'} {b'} {l} e₁ e₂) =
    omega (
      arith,
      ap {B = ℕ} (λ (t : Bool). cond t 1 0) (eqb_swap b a ∙ ap₂ eqb e₁ e₂),
      ap (λ (x : ℕ). count x l) e₁,
      ap (λ (x : ℕ). count x l) e₂,
    )
twins_order (Permᴰ.trans p q) = twins_order p ∙ twins_order q

-- so the roster gets the same number
pub roster_order : (f own : ℕ) {l m : List ℕ} → Permᴰ l m → roster_number f own l ≡ roster_number f own m
unfolding roster_number
roster_order f own p = cc (length_order p, count_order 0 (Permᴰ.cons (λ _. own) p), twins_order p, count_order own p)

-- and the form writer gives the same number
pub write_order : (f own : ℕ) (out : List ℕ) {l m : List ℕ} → Permᴰ l m →
    (form_written f own l out).number ≡ (form_written f own m out).number
unfolding form_written
write_order f own out p = simp write_number_lem (cc (roster_order f own p, length_order p))

-- ---- a form

-- a form of right length holds n lines
lines_serials : (b : List ℕ) → length b ≡ form_size (lines_of b) → lines_in b ≡ serials_of b
lines_serials b e = ap (λ (n : ℕ). words n 4 b serials_place) (omega arith)

-- two forms that differ in the order of their lines only
module _ {b c : List ℕ} (r : Reordered b c) where
  -- the bytes in front of the lines are the same
  pub byte_same : (i : ℕ) → i < serials_place → get_or b i 0 ≡ get_or c i 0
  byte_same i h = sym (get_or-take serials_place b i 0 h) ∙ ap (λ (l : List ℕ). get_or l i 0) r.front ∙ get_or-take serials_place c i 0 h

  -- and so are the fields there
  pub front_same : (w i : ℕ) → i + w ≤ serials_place → field w b i ≡ field w c i
  front_same w i h = field_same w b c i i (λ k p. byte_same (i + k) (omega arith))

  -- both have the same layout
  layout_same : misplaced b ≡ misplaced c
  layout_same = cc (r.size, byte_same 0 (omega arith), front_same 2 2 (omega arith))

  -- where it is right, they have the same serials in some order
  laid_order : misplaced b ≡ false → Permᴰ (serials_of b) (serials_of c)
  laid_order e =
      subst₂ (λ (l m : List ℕ). Permᴰ l m)
      (lines_serials b (placed_length b e)) (lines_serials c (placed_length c (sym layout_same ∙ e))) r.lines

  -- the form gets the same number
  pub form_number_order : form_number b ≡ form_number c
  unfolding form_number
  form_number_order = go (misplaced b) refl ∙ ap (λ (t : Bool). cond t 1 (roster_number (faults_of c) (own_of c) (serials_of c))) layout_same
    where
      go : (t : Bool) → misplaced b ≡ t →
          cond t 1 (roster_number (faults_of b) (own_of b) (serials_of b)) ≡ cond t 1 (roster_number (faults_of c) (own_of c) (serials_of c))
      go true e = refl
      go false e = cc (byte_same 1 (omega arith), front_same 4 4 (omega arith), roster_order (faults_of b) (own_of b) (laid_order e))

  -- and the reader tells the same of it
  pub form_order : form_told b ≡ form_told c
  unfolding form_told
  form_order = cc (form_number_order, byte_same 0 (omega arith), byte_same 1 (omega arith), front_same 4 4 (omega arith))

  -- a form that is taken has the same serials in some order
  pub serials_order : form_number b ≡ 0 → Permᴰ (serials_of b) (serials_of c)
  serials_order e = laid_order (taken_parts b e).0
