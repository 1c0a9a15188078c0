-- `form::write_form` meets its contract: a sound roster keeps the limits, so n and f are bytes, and the stores one after the other
-- are the form.
use mathlib.Core.Path.{◌≡◌, sym}
use mathlib.Core.List.{List}
use Prim.Native.Nat.{ℕ}
use native.Mathlib.Omega.{arith}
use lib.ListN.{length, set, length-set}
use borrow.Author.Tests.{lt-ltb, le-ltb}
use Rattle.fields.specs.Field.{put_field, put_words}
use Rattle.forms.specs.Form.{serials_place, form_size, form_written, put_form}
use Rattle.forms.proofs.Rosters.{Limits, roster_limits}
use Rattle.fields.proofs.Fields.{put_byte}
use Rattle.forms.proofs.Told.{passed_on, refusal}
use Rattle.forms.proofs.form.write_form.Goals.{After-put_half, In_ok-judge_list}
use Rattle.forms.proofs.form.write_form.Goals as goal

-- the stores of the body, one after the other, are the form
laid : (out : List ℕ) (f own : ℕ) (serials : List ℕ) → Limits f (length serials) →
    put_words 4 (put_field 4 (put_field 2 (set (set out 0 (length serials)) 1 f) 2 serials_place) 4 own) serials_place serials
    ≡ put_form out f own serials
unfolding put_form
laid out f own serials l =
    rw (put_byte out 0 (length serials) (omega arith), put_byte (set out 0 (length serials)) 1 f (omega arith))

pub returns-in_err-judge_list : goal.returns-in_err-judge_list
unfolding form_written
returns-in_err-judge_list c =
    rw (passed_on c.from_residual.result c.from_residual.ensures.1, ← c.in_err-judge_list.ensures, refusal c.in_err-judge_list.field-0.0)

pub returns-then-out-size : goal.returns-then-out-size
unfolding form_written
returns-then-out-size c =
    let a = c.args in
    rw (← c.in_ok-judge_list.ensures, lt-ltb (length a.out.now) (form_size (length a.serials.now)) c.if-out-size.true)

-- past the refusal the roster is sound, so n and f are within the limits
bounds : (c : In_ok-judge_list) → let a = c.args in Limits a.f (length a.serials.now)
bounds c = let a = c.args in roster_limits a.f a.own a.serials.now (sym c.in_ok-judge_list.ensures)

pub overflow_cast-out : goal.overflow_cast-out
overflow_cast-out c =
    omega (arith, bounds (goal.at.overflow_cast-out c).In_ok-judge_list)

pub overflow_cast-out-2 : goal.overflow_cast-out-2
overflow_cast-out-2 c =
    omega (arith, bounds (goal.at.overflow_cast-out-2 c).In_ok-judge_list)

pub bounds-out-1 : goal.bounds-out-1
bounds-out-1 c = simp length-set (omega arith)

pub put_half-requires : goal.put_half-requires
put_half-requires c = simp length-set (omega arith)

-- no store changes the length
half_length : (c : After-put_half) → length c.put_half.new.b ≡ length c.args.out.now
half_length c = simp length-set at c.put_half.auto.b

pub put_word-requires : goal.put_word-requires
put_word-requires c =
    omega (arith, half_length (goal.at.put_word-requires c).After-put_half)

pub put_serials-requires : goal.put_serials-requires
put_serials-requires c =
    omega (
      arith,
      c.put_word.auto.b,
      half_length (goal.at.put_serials-requires c).After-put_half,
    )

pub shape_of-out : goal.shape_of-out
shape_of-out c =
    omega (
      arith,
      c.put_serials.auto.out,
      c.put_word.auto.b,
      half_length (goal.at.shape_of-out c).After-put_half,
    )

pub returns : goal.returns
unfolding form_written
returns c =
    let a = c.args in
    let serials = a.serials.now in
    rw (
      ← c.in_ok-judge_list.ensures,
      le-ltb (length a.out.now) (form_size (length serials)) c.if-out-size.false,
      c.put_serials.ensures,
      c.put_word.ensures,
      c.put_half.ensures,
      laid a.out.now a.f a.own serials (bounds (goal.at.returns c).In_ok-judge_list),
    )
