-- `frame::read_frame` meets its contract: each test that fails is one case of the frame's number.
use mathlib.Core.Path.{◌≡◌, refl, sym, ◌∙◌}
use mathlib.Core.Bool.{true, false}
use native.Mathlib.Omega.{arith}
use lib.ListN.{length, get_or}
use borrow.Author.Tests.{ne_eqb, eq-eqb, lt-ltb, le-ltb}
use Rattle.fields.specs.Field.{field}
use Rattle.forms.specs.Frame.{frame_size, known_head, misshapen, frame_told, frame_number}
use Rattle.forms.proofs.frame.read_frame.Goals as goal
use Rattle.forms.proofs.frame.read_frame.Goals.{Else-not-has_known_head, Else-b-ne0-2}
use Rattle.forms.proofs.frame.read_frame.Goals.{then-b-ne0-via-then-b-ne0, then-b-ne0-via-else-b-ne0+then-b-ne0-2}

pub returns-then-b-ne-FRAME : goal.returns-then-b-ne-FRAME
unfolding frame_told frame_number
returns-then-b-ne-FRAME c = let b = c.args.b.now in rw (ne_eqb (length b) frame_size c.if-b-ne-FRAME.true)

pub overflow_cast-kind : goal.overflow_cast-kind
overflow_cast-kind c = omega (arith, c.type_inv.b 0)

pub overflow_cast-flag : goal.overflow_cast-flag
overflow_cast-flag c = omega (arith, c.type_inv.b 1)

pub returns-then-not-has_known_head : goal.returns-then-not-has_known_head
unfolding frame_told frame_number
returns-then-not-has_known_head c =
    let b = c.args.b.now in
    let head : known_head (get_or b 0 0) (get_or b 1 0) ≡ false =
    sym c.has_known_head.ensures ∙ c.if-not-has_known_head.true in
    rw (eq-eqb (length b) frame_size c.if-b-ne-FRAME.false, head)

-- past the test of kind and flag they are known
head : (c : Else-not-has_known_head) → let b = c.args.b.now in known_head (get_or b 0 0) (get_or b 1 0) ≡ true
head c = sym c.has_known_head.ensures ∙ c.if-not-has_known_head.false

pub returns-then-b-ne0 : goal.returns-then-b-ne0
unfolding frame_told frame_number
returns-then-b-ne0 c =
    let b = c.args.b.now in
    rw (eq-eqb (length b) frame_size c.if-b-ne-FRAME.false, head (goal.at.returns-then-b-ne0 c).Else-not-has_known_head)
    (elim c.then-b-ne0.branch [
      | then-b-ne0-via-then-b-ne0 w ↦ rw (ne_eqb (get_or b 2 0) 0 w.if-b-ne0.true)
      | then-b-ne0-via-else-b-ne0+then-b-ne0-2 w ↦ rw (eq-eqb (get_or b 2 0) 0 w.if-b-ne0.false, ne_eqb (get_or b 3 0) 0 w.if-b-ne0-2.true)
    ])

-- past the tests of the bytes the frame has its shape
shaped : (c : Else-b-ne0-2) → misshapen c.args.b.now ≡ false
shaped c =
    let b = c.args.b.now in
    rw (
      eq-eqb (length b) frame_size c.if-b-ne-FRAME.false,
      sym c.has_known_head.ensures ∙ c.if-not-has_known_head.false,
      eq-eqb (get_or b 2 0) 0 c.if-b-ne0.false,
      eq-eqb (get_or b 3 0) 0 c.if-b-ne0-2.false,
    )

pub returns-then-last-tick : goal.returns-then-last-tick
unfolding frame_told frame_number
returns-then-last-tick c =
    let a = c.args in
    rw (shaped (goal.at.returns-then-last-tick c).Else-b-ne0-2, lt-ltb a.last (field 4 a.b.now 4) (omega arith))

pub returns : goal.returns
unfolding frame_told frame_number
returns c =
    let a = c.args in
    rw (shaped (goal.at.returns c).Else-b-ne0-2, le-ltb a.last (field 4 a.b.now 4) (omega arith), c.word-tick.ensures) refl
