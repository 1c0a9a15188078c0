-- `form::read_serial` meets its contract: what the reader told says whether the form is taken, and then a line below n lies inside
-- the bytes.
use mathlib.Core.Path.{◌≡◌, sym, ap, ◌∙◌}
use Prim.Native.Nat.{ℕ, ◌+◌, ◌*◌}
use mathlib.Core.List.{List}
use native.Mathlib.Omega.{arith}
use lib.ListN.{get_or-eq_default}
use Rattle.std.specs.Prelude.{Ok}
use Rattle.fields.specs.Field.{field}
use Rattle.forms.specs.Form.{serials_place, told_by, form_told, form_number, serial_on, serials_of, lines_of}
use Rattle.forms.specs.declared.form.Form.{Form}
use Rattle.fields.proofs.Words.{length_words, get_d_words}
use Rattle.forms.proofs.Told.{refusal, told_refused, told_taken, form_length}
use Rattle.forms.proofs.form.read_serial.Goals as goal

-- a form that the reader took
taken : (b : List ℕ) (form : Form) → told_by (Ok form) ≡ form_told b → (form_number b ≡ 0) × (form.lines ≡ lines_of b)
taken b form e = told_taken b form.lines form.faults form.own e

pub word-requires : goal.word-requires
word-requires c =
    let b = c.args.b.now in
    let t = taken b c.in-Ok.form c.in-Ok.ensures in
    omega (arith, t.1, form_length b t.0)

pub returns-in-Err : goal.returns-in-Err
unfolding serial_on
returns-in-Err c =
    let why = c.in-Err.field-0 in
    rw (told_refused c.args.b.now why c.in-Err.ensures, refusal why)

pub returns-then-line-form : goal.returns-then-line-form
unfolding serial_on
returns-then-line-form c =
    let a = c.args in
    let b = a.b.now in
    let t = taken b c.in-Ok.form c.in-Ok.ensures in
    let place : serials_place + 4 * a.line ≡ serials_place + a.line * 4 = omega arith in
    rw t.0 (c.word.ensures ∙ ap (field 4 b) place ∙ sym (get_d_words (lines_of b) 4 b serials_place a.line (omega (arith, t.1))))

pub returns-else-line-form : goal.returns-else-line-form
unfolding serial_on
returns-else-line-form c =
    let b = c.args.b.now in
    let t = taken b c.in-Ok.form c.in-Ok.ensures in
    rw t.0 (sym (get_or-eq_default (serials_of b) 0 (omega (arith, t.1, length_words (lines_of b) 4 b serials_place))))
