-- `calls::try_boot` meets its contract: the tests are those of the definition, a form that is taken keeps the limits, and the
-- stores are the fresh node's.
use mathlib.Core.Path.{◌≡◌, sym, ap}
use native.Mathlib.Omega.{arith}
use lib.Dec.{lit≤}
use lib.ListN.{length}
use borrow.Author.Tests.{lt-ltb, le-ltb}
use Rattle.std.proofs.lemmas.Result.{err_from_is_err_and}
use Rattle.fields.proofs.Words.{length_words}
use Rattle.forms.specs.Form.{lines_of, faults_of, own_of, form_number}
use Rattle.forms.specs.declared.form.Form.{Form}
use Rattle.forms.proofs.Told.{refusal as unread, told_refused, form_length}
use Rattle.node.specs.Calls.{boot_number, fresh_state, booted}
use Rattle.rules.specs.Describe.{room}
use Rattle.node.specs.Image.{put_state}
use Rattle.node.specs.Layout.{layout, image_size}
use Rattle.rules.specs.Record.{put_records}
use Rattle.node.proofs.Taken.{form_refuses, told_form, form_limits}
use Rattle.node.proofs.calls.try_boot.Goals.{In_ok-roster}
use Rattle.node.proofs.calls.try_boot.Goals as goal

pub returns-in_err-roster : goal.returns-in_err-roster
unfolding booted
returns-in_err-roster c =
    let a = c.args in
    let why = c.in_err-roster.field-0.0 in
    let passed = err_from_is_err_and c.from_residual.result c.from_residual.ensures.1 in
    let refused = told_refused a.form.now why c.in_err-roster.ensures in
    rw (passed.1, passed.2, form_refuses layout a.form.now (length a.image.now) (length a.out.now) why refused, unread why)

-- a form that the reader took has number 0, and what was told are its own fields
taken : (c : In_ok-roster) →
    let b = c.args.form.now in
    (form_number b ≡ 0)
    × (◌≡◌ {A = Form} c.in_ok-roster.roster (record { lines = lines_of b; faults = faults_of b; own = own_of b }))
taken c = told_form c.args.form.now c.in_ok-roster.roster c.in_ok-roster.ensures

-- its lines
lines : (c : In_ok-roster) → c.in_ok-roster.roster.lines ≡ lines_of c.args.form.now
lines c = ap (λ (f : Form). f.lines) (taken c).1

pub returns-then-image-n : goal.returns-then-image-n
unfolding booted boot_number
returns-then-image-n c =
    let a = c.args in
    let form = (goal.at.returns-then-image-n c).In_ok-roster in
    rw ((taken form).0, lt-ltb (length a.image.now) (image_size layout (lines_of a.form.now)) (omega (arith, lines form)))

pub returns-then-out-lt-ROOM : goal.returns-then-out-lt-ROOM
unfolding booted boot_number
returns-then-out-lt-ROOM c =
    let a = c.args in
    let form = (goal.at.returns-then-out-lt-ROOM c).In_ok-roster in
    rw (
      (taken form).0,
      le-ltb (length a.image.now) (image_size layout (lines_of a.form.now)) (omega (arith, lines form)),
      lt-ltb (length a.out.now) room c.if-out-lt-ROOM.true,
    )

pub put_node-requires : goal.put_node-requires
put_node-requires c =
    let t = taken (goal.at.put_node-requires c).In_ok-roster in
    rw (c.new.ensures, t.1) (omega (arith, form_limits c.args.form.now t.0))

pub new-requires-2 : goal.new-requires-2
new-requires-2 c =
    let form = (goal.at.new-requires-2 c).In_ok-roster in
    (lit≤ tt, omega (arith, lines form, form_length c.args.form.now (taken form).0))

pub put_fresh_rows-requires : goal.put_fresh_rows-requires
put_fresh_rows-requires c =
    rw c.new-2.ensures (simp length_words (omega (arith, c.put_node.auto.b, c.if-image-n.false)))

-- the definition's outcome, with the bytes as the stores left them; what is sent is echo 0 to all
pub returns : goal.returns
unfolding booted boot_number fresh_state put_state put_records
returns c =
    let a = c.args in
    let form = (goal.at.returns c).In_ok-roster in
    let t = taken form in
    sym
    (rw (
      t.0,
      le-ltb (length a.image.now) (image_size layout (lines_of a.form.now)) (omega (arith, c.if-image-n.false, lines form)),
      le-ltb (length a.out.now) room c.if-out-lt-ROOM.false,
      c.put_broadcast.ensures,
      c.put_fresh_rows.ensures,
      c.new-2.ensures,
      c.put_node.ensures,
      c.new.ensures,
      t.1,
    ))
