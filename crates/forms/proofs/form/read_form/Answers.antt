-- `form::read_form` meets its contract: each test of the layout that fails is number 1, and past them the form's number is the roster's.
use mathlib.Core.Path.{◌≡◌, sym, ◌∙◌}
use mathlib.Core.List.{List}
use Prim.Native.Nat.{ℕ, ◌≤◌}
use native.Mathlib.Omega.{arith}
use lib.ListN.{length}
use borrow.Author.Tests.{lt-ltb, le-ltb, eq-eqb, ne_eqb}
use Rattle.fields.specs.Field.{field}
use Rattle.forms.specs.Form.{serials_place, form_size, lines_of, faults_of, own_of, serials_of, form_number, form_told}
use Rattle.forms.specs.Roster.{roster_number}
use Rattle.forms.proofs.Told.{passed_on, form_refused, form_taken}
use Rattle.forms.proofs.form.read_form.Goals as goal

pub returns-then-b-lt-SERIALS : goal.returns-then-b-lt-SERIALS
unfolding form_told form_number
returns-then-b-lt-SERIALS c = let b = c.args.b.now in rw (lt-ltb (length b) serials_place c.if-b-lt-SERIALS.true)

pub returns-then-half-ne-OFFSET : goal.returns-then-half-ne-OFFSET
unfolding form_told form_number
returns-then-half-ne-OFFSET c =
    let b = c.args.b.now in
    rw (le-ltb (length b) serials_place c.if-b-lt-SERIALS.false, ne_eqb (field 2 b 2) serials_place (omega arith))

pub overflow_cast-n : goal.overflow_cast-n
overflow_cast-n c = omega (arith, c.type_inv.b 0)

pub overflow_mul-n : goal.overflow_mul-n
overflow_mul-n c = omega (arith, c.type_inv.b 0)

pub overflow_add-n : goal.overflow_add-n
overflow_add-n c = omega (arith, c.type_inv.b 0)

pub returns-then-b-n : goal.returns-then-b-n
unfolding form_told form_number
returns-then-b-n c =
    let b = c.args.b.now in
    rw (
      le-ltb (length b) serials_place c.if-b-lt-SERIALS.false,
      eq-eqb (field 2 b 2) serials_place (omega arith),
      ne_eqb (length b) (form_size (lines_of b)) c.if-b-n.true,
    )

pub overflow_cast-f : goal.overflow_cast-f
overflow_cast-f c = omega (arith, c.type_inv.b 1)

pub overflow_cast-result : goal.overflow_cast-result
overflow_cast-result c = omega (arith, c.type_inv.b 0)

-- past the layout's tests the form's number is the roster's
past : (b : List ℕ) (own : ℕ) → serials_place ≤ length b → field 2 b 2 ≡ serials_place → length b ≡ form_size (lines_of b) →
    own ≡ own_of b → form_number b ≡ roster_number (faults_of b) own (serials_of b)
unfolding form_number
past b own long offset size read =
    rw (
      le-ltb (length b) serials_place long,
      eq-eqb (field 2 b 2) serials_place offset,
      eq-eqb (length b) (form_size (lines_of b)) size,
      read,
    )

pub returns-in_err-judge : goal.returns-in_err-judge
returns-in_err-judge c =
    let b = c.args.b.now in
    let number = past b c.word-own.result c.if-b-lt-SERIALS.false (omega arith) c.if-b-n.false c.word-own.ensures in
    rw (passed_on c.from_residual.result c.from_residual.ensures.1)
    (sym (form_refused b c.in_err-judge.field-0.0 (number ∙ rw (← c.new.ensures) (sym c.in_err-judge.ensures))))

pub returns : goal.returns
returns c =
    let b = c.args.b.now in
    let number = past b c.word-own.result c.if-b-lt-SERIALS.false (omega arith) c.if-b-n.false c.word-own.ensures in
    rw c.word-own.ensures (sym (form_taken b (number ∙ rw (← c.new.ensures) (sym c.in_ok-judge.ensures))))
