-- Laws of what is told with a number: a refusal's number is never 0, so what the reader of a form tells says whether the form is
-- taken; and a form that is taken is as long as its first byte says.
-- Assumes nothing.
use mathlib.Core.Path.{◌≡◌, refl, sym, ap, ◌∙◌}
use mathlib.Core.List.{List}
use mathlib.Core.Bool.{Bool, true, false, cond, not, ◌||◌, true≢false}
use Prim.Native.Nat.{ℕ, zero, suc}
use native.Mathlib.Omega.{arith}
use lib.ListN.{length}
use lib.Dec.{ltb, eqb}
use borrow.Author.Tests.{eqb-true, eqb-false, not-false}
use Rattle.std.specs.Prelude.{Result, Err, IsErrAnd}
use Rattle.std.proofs.lemmas.Result.{err_from_is_err_and}
use Rattle.fields.specs.Field.{field}
use Rattle.forms.specs.Form.{serials_place, form_size, lines_of, faults_of, own_of, serials_of, misplaced, form_number}
use Rattle.forms.specs.Form.{FormTold, form_told, refused_form}
use Rattle.forms.specs.Number.{number_of, or_else}
use Rattle.forms.specs.Roster.{roster_number}
use Rattle.forms.specs.declared.answer.Refusal.{Refusal}
use Rattle.forms.specs.declared.answer.Refusal.TheVariants.{Layout, Limits, Understated, Zero, Twice, Stranger, Room, Shape, Late}
use Rattle.forms.proofs.Meaning.{form_told_lem}

-- no refusal has number 0
pub refusal : (why : Refusal) → eqb (number_of why) 0 ≡ false
refusal Layout = refl
refusal Limits = refl
refusal Understated = refl
refusal Zero = refl
refusal Twice = refl
refusal Stranger = refl
refusal Room = refl
refusal Shape = refl
refusal Late = refl

-- a refusal that `?` passes on is the one that was answered
pub passed_on : {T : Type 0} {why : Refusal} (r : Result T Refusal) → IsErrAnd r (λ y. y ≡ why) → r ≡ Err why
passed_on r e = let p = err_from_is_err_and r e in p.1 ∙ ap Err p.2

-- ---- checks one after the other

-- two tests of which neither applies
pub neither : (s t : Bool) → (s || t) ≡ false → (s ≡ false) × (t ≡ false)
neither true t e = absurd (true≢false e)
neither false t e = (refl, e)

-- two numbers of which neither refuses
pub none_given : (number next : ℕ) → or_else number next ≡ 0 → (number ≡ 0) × (next ≡ 0)
none_given zero next e = (refl, e)
none_given (suc n) next e = absurd (omega arith)

-- a number that is not 0 is the first of two
pub first_given : (number next : ℕ) → eqb number 0 ≡ false → or_else number next ≡ number
first_given zero next e = absurd (eqb-false 0 0 e refl)
first_given (suc n) next e = refl

-- ---- a form

module _ (b : List ℕ) where
  -- ---- from the number to what is told

  pub form_refused : (why : Refusal) → form_number b ≡ number_of why → form_told b ≡ refused_form (number_of why)
  unfolding form_told
  form_refused why e = rw (e, refusal why)

  pub form_taken : form_number b ≡ 0 → form_told b ≡ record { number = 0; lines = lines_of b; faults = faults_of b; own = own_of b }
  unfolding form_told
  form_taken e = rw e

  -- ---- and back: the number that is told is the form's own

  pub told_refused : (why : Refusal) → refused_form (number_of why) ≡ form_told b → form_number b ≡ number_of why
  told_refused why e = sym (form_told_lem b) ∙ ap (λ (t : FormTold). t.number) (sym e)

  pub told_taken : (n f own : ℕ) →
      ◌≡◌ {A = FormTold} (record { number = 0; lines = n; faults = f; own = own }) (form_told b) → (form_number b ≡ 0) × (n ≡ lines_of b)
  told_taken n f own e =
      let z : form_number b ≡ 0 = sym (form_told_lem b) ∙ ap (λ (t : FormTold). t.number) (sym e) in
      (z, ap (λ (t : FormTold). t.lines) (e ∙ form_taken z))

  -- ---- the parts of a form that is taken

  -- its layout is right, and so is its roster
  pub taken_parts : form_number b ≡ 0 → (misplaced b ≡ false) × (roster_number (faults_of b) (own_of b) (serials_of b) ≡ 0)
  unfolding form_number
  taken_parts e = go (misplaced b) e
    where
      go : (t : Bool) → cond t 1 (roster_number (faults_of b) (own_of b) (serials_of b)) ≡ 0 →
          (t ≡ false) × (roster_number (faults_of b) (own_of b) (serials_of b) ≡ 0)
      go true z = absurd (omega arith)
      go false z = (refl, z)

  -- a form of right layout is as long as its first byte says
  pub placed_length : misplaced b ≡ false → length b ≡ form_size (lines_of b)
  placed_length e =
      eqb-true (length b) (form_size (lines_of b))
      (not-false _ (neither (ltb (length b) serials_place || not (eqb (field 2 b 2) serials_place)) _ e).1)

  -- so a form that is taken is, too
  pub form_length : form_number b ≡ 0 → length b ≡ form_size (lines_of b)
  form_length e = placed_length (taken_parts e).0

  -- and its roster has number 0
  pub form_roster : form_number b ≡ 0 → roster_number (faults_of b) (own_of b) (serials_of b) ≡ 0
  form_roster e = (taken_parts e).1
