-- Each contract of a reader, a writer or the roster's judge allows one answer: what an answer tells determines the answer.
-- Assumes nothing.
use mathlib.Core.Path.{◌≡◌, refl, sym, ap, ◌∙◌}
use mathlib.Core.List.{List}
use Prim.Native.Nat.{ℕ}
use mathlib.Core.Bool.{false, cond}
use lib.Dec.{eqb}
use Rattle.std.specs.Prelude.{Result, Ok, Err}
use Rattle.forms.specs.Number.{number_of, verdict_of}
use Rattle.forms.specs.Form.{FormTold, WriteTold, written_by}
use Rattle.forms.specs.Form.{told_by as form_by}
use Rattle.forms.specs.Frame.{FrameTold}
use Rattle.forms.specs.Frame.{told_by as frame_by}
use Rattle.forms.specs.declared.answer.Refusal.{Refusal}
use Rattle.forms.specs.declared.answer.Refusal.TheVariants.{Layout, Limits, Understated, Zero, Twice, Stranger, Room, Shape, Late}
use Rattle.forms.specs.declared.form.Form.{Form}
use Rattle.forms.specs.declared.frame.Frame.{Frame}
use Rattle.forms.proofs.Told.{refusal}

-- the case that a number stands for
case_of : ℕ → Refusal
case_of n =
    cond (eqb n 1) Layout
    (cond (eqb n 2) Limits
    (cond (eqb n 21) Understated
    (cond (eqb n 3) Zero
    (cond (eqb n 4) Twice
    (cond (eqb n 5) Stranger
    (cond (eqb n 7) Room
    (cond (eqb n 10) Shape
    Late)))))))

back : (why : Refusal) → case_of (number_of why) ≡ why
unfolding case_of
back Layout = refl
back Limits = refl
back Understated = refl
back Zero = refl
back Twice = refl
back Stranger = refl
back Room = refl
back Shape = refl
back Late = refl

-- ---- an answer that can be had again from what is told is the only one that tells it

pub one_answer : {A T : Type 0} (tell : A → T) (answer_of : T → A) → ((a : A) → answer_of (tell a) ≡ a) → (a b : A) → tell a ≡ tell b → a ≡ b
one_answer tell answer_of is a b e = sym (is a) ∙ ap answer_of e ∙ is b

-- and of a writer the output too
pub one_write : {A : Type 0} (tell : A → List ℕ → WriteTold) (answer_of : WriteTold → A) →
    ((a : A) (out : List ℕ) → (answer_of (tell a out) ≡ a) × ((tell a out).out ≡ out)) →
    (a b : A) (out other : List ℕ) → tell a out ≡ tell b other → (a ≡ b) × (out ≡ other)
one_write tell answer_of is a b out other e =
    (sym (is a out).0 ∙ ap answer_of e ∙ (is b other).0, sym (is a out).1 ∙ ap (λ (t : WriteTold). t.out) e ∙ (is b other).1)

-- ---- answers that hold a refusal

-- the answer that a number says: what is taken where it is 0, else the case that it stands for
unfoldable pub answer_to : {R A : Type 0} → (ℕ → R) → A → (R → A) → ℕ → A
answer_to case_of taken refused n = cond (eqb n 0) taken (refused (case_of n))

-- a refusal is had again from its number
pub refused_again : {R A : Type 0} (case_of : ℕ → R) (taken : A) (refused : R → A) (n : ℕ) (why : R) →
    eqb n 0 ≡ false → case_of n ≡ why → answer_to case_of taken refused n ≡ refused why
unfolding answer_to
refused_again case_of taken refused n why some back = rw some (ap refused back)

-- of this layer
again : {T : Type 0} (taken : T) (why : Refusal) → answer_to case_of (Ok taken) Err (number_of why) ≡ Err why
again taken why = refused_again case_of (Ok taken) Err (number_of why) why (refusal why) (back why)

judge_of : ℕ → Result (Unit {0}) Refusal
judge_of n = answer_to case_of (Ok tt) Err n

judged : (a : Result (Unit {0}) Refusal) → judge_of (verdict_of a) ≡ a
unfolding judge_of answer_to
judged (Ok x) = refl
judged (Err why) = again tt why

pub one_verdict : (a b : Result (Unit {0}) Refusal) → verdict_of a ≡ verdict_of b → a ≡ b
one_verdict = one_answer verdict_of judge_of judged

form_of : FormTold → Result Form Refusal
form_of t = answer_to case_of (Ok (record { lines = t.lines; faults = t.faults; own = t.own })) Err t.number

form_read : (a : Result Form Refusal) → form_of (form_by a) ≡ a
unfolding form_of answer_to
form_read (Ok x) = refl
form_read (Err why) = again (record { lines = 0; faults = 0; own = 0 }) why

pub one_form : (a b : Result Form Refusal) → form_by a ≡ form_by b → a ≡ b
one_form = one_answer form_by form_of form_read

frame_of : FrameTold → Result Frame Refusal
frame_of t = answer_to case_of (Ok t.frame) Err t.number

frame_read : (a : Result Frame Refusal) → frame_of (frame_by a) ≡ a
unfolding frame_of answer_to
frame_read (Ok x) = refl
frame_read (Err why) = again (record { kind = 0; flag = 0; tick = 0 }) why

pub one_frame : (a b : Result Frame Refusal) → frame_by a ≡ frame_by b → a ≡ b
one_frame = one_answer frame_by frame_of frame_read

wrote_of : WriteTold → Result ℕ Refusal
wrote_of t = answer_to case_of (Ok t.written) Err t.number

written : (a : Result ℕ Refusal) (out : List ℕ) → (wrote_of (written_by a out) ≡ a) × ((written_by a out).out ≡ out)
unfolding wrote_of answer_to
written (Ok n) out = (refl, refl)
written (Err why) out = (again 0 why, refl)

pub one_written : (a b : Result ℕ Refusal) (out other : List ℕ) → written_by a out ≡ written_by b other → (a ≡ b) × (out ≡ other)
one_written = one_write written_by wrote_of written
