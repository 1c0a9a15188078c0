-- Each contract of a reader, a writer or a call of a sheet allows one answer: what an answer tells determines it, and of a writer every
-- byte of the output. A refusal is a case of `Refusal`, so no two cases tell the same number.
-- Assumes nothing.
use mathlib.Core.Path.{◌≡◌, refl, ap}
use mathlib.Core.Bool.{cond}
use mathlib.Core.List.{List}
use Prim.Native.Nat.{ℕ}
use lib.Dec.{eqb}
use Rattle.std.specs.Prelude.{Result, Ok, Err}
use Rattle.forms.specs.Form.{WriteTold}
use Rattle.forms.proofs.Single.{one_answer, one_write, answer_to, refused_again}
use Rattle.packs.specs.Answers.{pack_by, sheet_by}
use Rattle.packs.specs.Number.{number_of, verdict_of, not_licensed, not_in_force, licence_of}
use Rattle.packs.specs.Question.{PackTold, asked_by}
use Rattle.packs.specs.Sheet.{SheetTold, told_by}
use Rattle.packs.specs.Writer.{written_by}
use Rattle.packs.specs.declared.answer.Licence.{Licence}
use Rattle.packs.specs.declared.answer.Licence.TheVariants.{NotLicensed, NotInForce, InForce}
use Rattle.packs.specs.declared.answer.Refusal.{Refusal}
use Rattle.packs.specs.declared.answer.Refusal.TheVariants.{Layout, Pack, Ticks, Room, Image, Passive}
use Rattle.packs.specs.declared.calls.PackAnswer.{PackAnswer}
use Rattle.packs.specs.declared.calls.SheetAnswer.{SheetAnswer}
use Rattle.packs.proofs.Told.{refusal}

-- the case that a number stands for
case_of : ℕ → Refusal
case_of n =
    cond (eqb n (number_of Layout)) Layout
    (cond (eqb n (number_of Pack)) Pack
    (cond (eqb n (number_of Ticks)) Ticks
    (cond (eqb n (number_of Room)) Room
    (cond (eqb n (number_of Image)) Image
    Passive))))

back : (why : Refusal) → case_of (number_of why) ≡ why
unfolding case_of
back Layout = refl
back Pack = refl
back Ticks = refl
back Room = refl
back Image = refl
back Passive = refl

-- a refusal is had again from its number
again : {T : Type 0} (taken : T) (why : Refusal) → answer_to case_of (Ok taken) Err (number_of why) ≡ Err why
again taken why = refused_again case_of (Ok taken) Err (number_of why) why (refusal why) (back why)

-- ---- the judge of entries

judge_of : ℕ → Result (Unit {0}) Refusal
judge_of n = answer_to case_of (Ok tt) Err n

judged : (a : Result (Unit {0}) Refusal) → judge_of (verdict_of a) ≡ a
unfolding judge_of answer_to
judged (Ok x) = refl
judged (Err why) = again tt why

pub one_verdict : (a b : Result (Unit {0}) Refusal) → verdict_of a ≡ verdict_of b → a ≡ b
one_verdict = one_answer verdict_of judge_of judged

-- ---- the reader

read_of : SheetTold → Result ℕ Refusal
read_of t = answer_to case_of (Ok t.count) Err t.number

read_is : (a : Result ℕ Refusal) → read_of (told_by a) ≡ a
unfolding read_of answer_to
read_is (Ok count) = refl
read_is (Err why) = again 0 why

pub one_sheet : (a b : Result ℕ Refusal) → told_by a ≡ told_by b → a ≡ b
one_sheet = one_answer told_by read_of read_is

-- ---- the question

licence_named : ℕ → Licence
licence_named n = cond (eqb n not_licensed) NotLicensed (cond (eqb n not_in_force) NotInForce InForce)

licence_is : (a : Licence) → licence_named (licence_of a) ≡ a
unfolding licence_named
licence_is NotLicensed = refl
licence_is NotInForce = refl
licence_is InForce = refl

pub one_licence : (a b : Licence) → licence_of a ≡ licence_of b → a ≡ b
one_licence = one_answer licence_of licence_named licence_is

asked_of : PackTold → Result Licence Refusal
asked_of t = answer_to case_of (Ok (licence_named t.licence)) Err t.number

asked_is : (a : Result Licence Refusal) → asked_of (asked_by a) ≡ a
unfolding asked_of answer_to
asked_is (Ok how) = ap Ok (licence_is how)
asked_is (Err why) = again (licence_named 0) why

pub one_asked : (a b : Result Licence Refusal) → asked_by a ≡ asked_by b → a ≡ b
one_asked = one_answer asked_by asked_of asked_is

pack_of : PackTold → PackAnswer
pack_of t = record { number = t.number; licence = t.licence }

pub one_pack : (a b : PackAnswer) → pack_by a ≡ pack_by b → a ≡ b
unfolding pack_of
one_pack = one_answer pack_by pack_of (λ a. refl)

-- ---- the writer

written_of : WriteTold → Result ℕ Refusal
written_of t = answer_to case_of (Ok t.written) Err t.number

written_is : (a : Result ℕ Refusal) (out : List ℕ) → (written_of (written_by a out) ≡ a) × ((written_by a out).out ≡ out)
unfolding written_of answer_to
written_is (Ok size) out = (refl, refl)
written_is (Err why) out = (again 0 why, refl)

pub one_written : (a b : Result ℕ Refusal) (out other : List ℕ) → written_by a out ≡ written_by b other → (a ≡ b) × (out ≡ other)
one_written = one_write written_by written_of written_is

sheet_of : WriteTold → SheetAnswer
sheet_of t = record { number = t.number; written = t.written }

pub one_sheet_answer : (a b : SheetAnswer) (out other : List ℕ) → sheet_by a out ≡ sheet_by b other → (a ≡ b) × (out ≡ other)
unfolding sheet_of
one_sheet_answer = one_write sheet_by sheet_of (λ a out. (refl, refl))
