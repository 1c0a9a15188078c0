-- What the form writer wrote the form reader gives back, and what the reader took the writer writes again byte for byte; bytes behind
-- a form stay, and a refusal changes no byte. In front the laws of writing that frames, sheets and logs share.
-- Assumes nothing.
use mathlib.Core.Path.{◌≡◌, refl, sym, ap, ap₂, ◌∙◌}
use mathlib.Core.Logic.{inl, inr}
use mathlib.Core.Bool.{Bool, true, false, cond}
use mathlib.Core.List.{List, ◌++◌}
use Prim.Native.Nat.{ℕ, ◌+◌, ◌^◌, ◌≤◌, ◌<◌}
use native.Mathlib.Omega.{arith}
use lib.ListN.{length, get_or, take, drop, take-append-drop}
use lib.Seq.{get_or-take, length-take-le, take_all}
use lib.Dec.{ltb, eqb, lit≤}
use borrow.Author.Tests.{eqb-true, eqb-false, ltb-false, eq-eqb, le-ltb}
use Rattle.fields.specs.Field.{field, put_field, words, Bytes}
use Rattle.forms.specs.Roster.{roster_number}
use Rattle.forms.specs.Form.{serials_place, form_size, lines_of, faults_of, own_of, serials_of, form_number, form_told, serial_on}
use Rattle.forms.specs.Form.{WriteTold, write_told, put_form, form_written}
use Rattle.forms.specs.Table.{Given, form_checks}
use Rattle.fields.proofs.Fields.{field_byte, field_take, field_put, field_put_other, put_field_lem, length_put, take_put, drop_put}
use Rattle.fields.proofs.Words.{Words, length_words, words_same, length_put_words, field_put_words_before, words_put_words, put_words_words}
use Rattle.fields.proofs.Words.{take_put_words, drop_put_words}
use Rattle.forms.proofs.Meaning.{not_apart, form_told_lem, form_says}
use Rattle.forms.proofs.Rosters.{Limits, roster_limits}
use Rattle.forms.proofs.Told.{form_length, form_roster}

-- ---- what a writer answers

module _ (number size : ℕ) (before after : List ℕ) where
  -- with the two tests of `write_told` as variables
  abbrev answer : Bool → Bool → WriteTold
  answer s t =
      cond s (cond t (record { number = 7; written = 0; out = before }) (record { number = 0; written = size; out = after }))
      (record { number = number; written = 0; out = before })

  -- number 0 is given only where all is written
  pub wrote : (write_told number size before after).number ≡ 0 →
      (number ≡ 0) × (size ≤ length before) × (write_told number size before after ≡ record { number = 0; written = size; out = after })
  wrote = go (eqb number 0) refl (ltb (length before) size) refl
    where
      go : (s : Bool) → eqb number 0 ≡ s → (t : Bool) → ltb (length before) size ≡ t → (answer s t).number ≡ 0 →
          (number ≡ 0) × (size ≤ length before) × (answer s t ≡ record { number = 0; written = size; out = after })
      go true e true d p = absurd (omega arith)
      go true e false d p = (eqb-true number 0 e, ltb-false (length before) size d, refl)
      go false e t d p = absurd (eqb-false number 0 e p)

  -- and where that begins with the bytes b and ends as before, the output is b over the old bytes
  pub wrote_bytes : (b : List ℕ) → (write_told number size before after).number ≡ 0 → length b ≡ size →
      take size after ≡ take size b → drop size after ≡ drop size before →
      write_told number size before after ≡ record { number = 0; written = length b; out = b ++ drop (length b) before }
  wrote_bytes b p e front behind =
      (wrote p).2
      ∙ ap₂ {C = WriteTold} (λ (n : ℕ) (l : List ℕ). record { number = 0; written = n; out = l }) (sym e)
      (sym (take-append-drop size after) ∙ ap₂ (λ (x y : List ℕ). x ++ y) (front ∙ take_all size b (omega arith)) (rw e behind))

  -- a refusal changes no byte
  pub refused_bytes : ((write_told number size before after).number ≡ 0 → ⊥) →
      ((write_told number size before after).written ≡ 0) × ((write_told number size before after).out ≡ before)
  refused_bytes = go (eqb number 0) (ltb (length before) size)
    where
      go : (s t : Bool) → ((answer s t).number ≡ 0 → ⊥) → ((answer s t).written ≡ 0) × ((answer s t).out ≡ before)
      go true true n = (refl, refl)
      go true false n = absurd (n refl)
      go false t n = (refl, refl)

  -- bytes behind what is written stay, and so does the length, whatever the number
  pub kept_bytes : drop size after ≡ drop size before → length after ≡ length before →
      (drop size (write_told number size before after).out ≡ drop size before)
      × (length (write_told number size before after).out ≡ length before)
  kept_bytes behind long = go (eqb number 0) (ltb (length before) size)
    where
      go : (s t : Bool) → (drop size (answer s t).out ≡ drop size before) × (length (answer s t).out ≡ length before)
      go true true = (refl, refl)
      go true false = (behind, long)
      go false t = (refl, refl)

-- ---- the form

module _ (out : List ℕ) (f own : ℕ) (serials : List ℕ) where
  length_form : length (put_form out f own serials) ≡ length out
  unfolding put_form
  length_form = simp (length_put_words, length_put)

  drop_form : drop (form_size (length serials)) (put_form out f own serials) ≡ drop (form_size (length serials)) out
  unfolding put_form
  drop_form =
      drop_put_words 4 _ serials_place serials (form_size (length serials)) (lit≤ tt) (omega arith)
      ∙ drop_put 4 _ 4 own (form_size (length serials)) (omega arith)
      ∙ drop_put 2 _ 2 serials_place (form_size (length serials)) (omega arith)
      ∙ drop_put 1 _ 1 f (form_size (length serials)) (omega arith)
      ∙ drop_put 1 out 0 (length serials) (form_size (length serials)) (omega arith)

  -- the bytes written do not depend on what stood there
  take_form : (b : List ℕ) → form_size (length serials) ≤ length out → form_size (length serials) ≤ length b →
      take (form_size (length serials)) (put_form out f own serials) ≡ take (form_size (length serials)) (put_form b f own serials)
  unfolding put_form
  take_form b p q =
      take_put_words _ _ serials_place serials (form_size (length serials)) (omega arith) (simp length_put p) (simp length_put q)
      (take_put 4 _ _ 4 own (simp length_put (omega arith)) (simp length_put (omega arith))
      (take_put 2 _ _ 2 serials_place (simp length_put (omega arith)) (simp length_put (omega arith))
      (take_put 1 _ _ 1 f (simp length_put (omega arith)) (simp length_put (omega arith))
      (take_put 1 out b 0 (length serials) (omega arith) (omega arith) refl))))

-- a form that the writer gave number 0
module _ (f own : ℕ) (serials out : List ℕ) (fits : own < 2 ^ 32) (whole : Words serials)
    (ok : (form_written f own serials out).number ≡ 0) where
  form : List ℕ
  form = take (form_size (length serials)) (put_form out f own serials)

  done :
      (roster_number f own serials ≡ 0) × (form_size (length serials) ≤ length out)
      × (form_written f own serials out ≡ record { number = 0; written = form_size (length serials); out = put_form out f own serials })
  unfolding form_written
  done = wrote (roster_number f own serials) (form_size (length serials)) out (put_form out f own serials) ok

  front : (form_written f own serials out).out ≡ put_form out f own serials
  front = ap (λ (t : WriteTold). t.out) done.2

  limits : Limits f (length serials)
  limits = roster_limits f own serials done.0

  -- a field in front of the serials
  header : (w i : ℕ) → i + w ≤ serials_place →
      field w form i ≡ field w (put_field 4 (put_field 2 (put_field 1 (put_field 1 out 0 (length serials)) 1 f) 2 serials_place) 4 own) i
  unfolding form put_form
  header w i p = field_take w (form_size (length serials)) _ i (omega arith) ∙ field_put_words_before w 4 _ serials_place serials i p

  lines_back : lines_of form ≡ length serials
  lines_back =
      sym (field_byte form 0)
      ∙ header 1 0 (omega arith)
      ∙ field_put_other 1 4 _ 4 own 0 (omega arith)
      ∙ field_put_other 1 2 _ 2 serials_place 0 (omega arith)
      ∙ field_put_other 1 1 _ 1 f 0 (omega arith)
      ∙ field_put 1 out 0 (length serials) (omega (arith, done.1)) (omega (arith, limits))

  faults_back : faults_of form ≡ f
  faults_back =
      sym (field_byte form 1)
      ∙ header 1 1 (omega arith)
      ∙ field_put_other 1 4 _ 4 own 1 (omega arith)
      ∙ field_put_other 1 2 _ 2 serials_place 1 (omega arith)
      ∙ field_put 1 _ 1 f (simp length_put (omega (arith, done.1))) (omega (arith, limits))

  offset_back : field 2 form 2 ≡ serials_place
  offset_back =
      header 2 2 (omega arith)
      ∙ field_put_other 2 4 _ 4 own 2 (omega arith)
      ∙ field_put 2 _ 2 serials_place (simp length_put (omega (arith, done.1))) (omega arith)

  own_back : own_of form ≡ own
  own_back = header 4 4 (omega arith) ∙ field_put 4 _ 4 own (simp length_put (omega (arith, done.1))) fits

  serials_back : serials_of form ≡ serials
  unfolding form put_form
  serials_back =
      ap (λ (n : ℕ). words n 4 form serials_place) lines_back
      ∙ words_same (length serials) 4 form _ serials_place serials_place (omega arith)
      (λ k p. get_or-take (form_size (length serials)) _ (serials_place + k) 0 (omega arith))
      ∙ words_put_words 4 _ serials_place serials (omega arith) (simp length_put (omega (arith, done.1))) whole

  number_back : form_number form ≡ 0
  unfolding form_number form
  number_back =
      cc (
        le-ltb (length form) serials_place (omega (arith, size)),
        eq-eqb (field 2 form 2) serials_place offset_back,
        eq-eqb (length form) (form_size (lines_of form)) (omega (arith, size, lines_back)),
        faults_back,
        own_back,
        serials_back,
        done.0,
      )
    where
      size : length form ≡ form_size (length serials)
      size = length-take-le (form_size (length serials)) (put_form out f own serials) (omega (arith, done.1, length_form out f own serials))

  -- its bytes are read back with n, f and the own serial
  pub form_read_back :
      form_told (take (form_size (length serials)) (form_written f own serials out).out)
      ≡ record { number = 0; lines = length serials; faults = f; own = own }
  unfolding form_told form
  form_read_back = rw front (cc (number_back, lines_back, faults_back, own_back))

  -- and with the serials
  pub serials_read_back : serials_of (take (form_size (length serials)) (form_written f own serials out).out) ≡ serials
  unfolding form
  serials_read_back = rw front serials_back

  -- line by line
  pub serial_read_back : (line : ℕ) →
      serial_on (take (form_size (length serials)) (form_written f own serials out).out) line ≡ get_or serials line 0
  unfolding serial_on form
  serial_read_back line = rw front (cc (number_back, serials_back))

-- bytes behind a form stay, and so does the length, whatever the number
pub form_kept : (f own : ℕ) (serials out : List ℕ) →
    (drop (form_size (length serials)) (form_written f own serials out).out ≡ drop (form_size (length serials)) out)
    × (length (form_written f own serials out).out ≡ length out)
unfolding form_written
form_kept f own serials out =
    kept_bytes (roster_number f own serials) (form_size (length serials)) out (put_form out f own serials)
    (drop_form out f own serials) (length_form out f own serials)

-- a form that is refused is not written at all
pub form_refused : (f own : ℕ) (serials out : List ℕ) → ((form_written f own serials out).number ≡ 0 → ⊥) →
    ((form_written f own serials out).written ≡ 0) × ((form_written f own serials out).out ≡ out)
unfolding form_written
form_refused f own serials out = refused_bytes (roster_number f own serials) (form_size (length serials)) out (put_form out f own serials)

-- a form that is taken, written over itself, stays
form_self : (b : List ℕ) → Bytes b → field 2 b 2 ≡ serials_place → put_form b (faults_of b) (own_of b) (serials_of b) ≡ b
unfolding put_form
form_self b h e =
    cc (
      field_byte b 0,
      field_byte b 1,
      length_words (lines_of b) 4 b serials_place,
      put_field_lem 1 b 0 h,
      put_field_lem 1 b 1 h,
      put_field_lem 2 b 2 h,
      put_field_lem 4 b 4 h,
      put_words_words (lines_of b) 4 b serials_place h,
    )

-- what the form reader took, the form writer writes byte for byte, over the front of the output
pub form_written_again : (b out : List ℕ) → Bytes b → form_number b ≡ 0 → length b ≤ length out →
    form_written (faults_of b) (own_of b) (serials_of b) out ≡ record { number = 0; written = length b; out = b ++ drop (length b) out }
unfolding form_written
form_written_again b out h e p =
    wrote_bytes (roster_number (faults_of b) (own_of b) (serials_of b)) (form_size (length (serials_of b))) out
    (put_form out (faults_of b) (own_of b) (serials_of b)) b ok size
    (take_form out (faults_of b) (own_of b) (serials_of b) b (omega (arith, size)) (omega (arith, size))
    ∙ ap (take (form_size (length (serials_of b)))) (form_self b h (not_apart _ _ (λ n. g.0 (inl (inr n))))))
    (drop_form out (faults_of b) (own_of b) (serials_of b))
  where
    g : Given (form_checks b) 0
    g = ((form_says b).exactly 0).0 (form_told_lem b ∙ e)

    size : length b ≡ form_size (length (serials_of b))
    size = omega (arith, form_length b e, length_words (lines_of b) 4 b serials_place)

    ok : (form_written (faults_of b) (own_of b) (serials_of b) out).number ≡ 0
    ok = rw (form_roster b e, le-ltb (length out) (form_size (length (serials_of b))) (omega (arith, size)))
