-- `frame::write_frame` meets its contract: each test that fails is one case of the number, and a known kind and flag are bytes.
use mathlib.Core.Path.{◌≡◌, refl, sym, ◌∙◌}
use mathlib.Core.Bool.{true, false}
use native.Mathlib.Omega.{arith}
use lib.ListN.{length}
use borrow.Author.Tests.{lt-ltb, le-ltb}
use Rattle.forms.specs.Frame.{frame_size, known_head, frame_written, put_frame_bytes}
use Rattle.forms.proofs.Frames.{head_narrow}
use Rattle.forms.proofs.Meaning.{head_says}
use Rattle.forms.proofs.frame.write_frame.Goals.{Else-not-has_known_head}
use Rattle.forms.proofs.frame.write_frame.Goals as goal

pub returns-then-not-has_known_head : goal.returns-then-not-has_known_head
unfolding frame_written
returns-then-not-has_known_head c =
    let frame = c.args.frame in
    let head : known_head frame.kind frame.flag ≡ false =
    sym c.has_known_head.ensures ∙ c.if-not-has_known_head.true in
    rw head

-- past the test of kind and flag they are known
head : (c : Else-not-has_known_head) → let frame = c.args.frame in known_head frame.kind frame.flag ≡ true
head c = sym c.has_known_head.ensures ∙ c.if-not-has_known_head.false

pub returns-then-last-frame : goal.returns-then-last-frame
unfolding frame_written
returns-then-last-frame c =
    let a = c.args in
    rw (head (goal.at.returns-then-last-frame c).Else-not-has_known_head, lt-ltb a.last a.frame.tick c.if-last-frame.true)

pub returns-then-out-lt-FRAME : goal.returns-then-out-lt-FRAME
unfolding frame_written
returns-then-out-lt-FRAME c =
    let a = c.args in
    rw (
      head (goal.at.returns-then-out-lt-FRAME c).Else-not-has_known_head,
      le-ltb a.last a.frame.tick c.if-last-frame.false,
      lt-ltb (length a.out.now) frame_size c.if-out-lt-FRAME.true,
    )

pub put_frame-requires : goal.put_frame-requires
put_frame-requires c =
    let frame = c.args.frame in
    (omega arith, head_narrow frame ((head_says frame.kind frame.flag).0 (head (goal.at.put_frame-requires c).Else-not-has_known_head)))

pub returns : goal.returns
unfolding frame_written
returns c =
    let a = c.args in
    let put : c.put_frame.new.out ≡ put_frame_bytes a.out.now 0 a.frame = c.put_frame.ensures in
    rw (
      head (goal.at.returns c).Else-not-has_known_head,
      le-ltb a.last a.frame.tick c.if-last-frame.false,
      le-ltb (length a.out.now) frame_size c.if-out-lt-FRAME.false,
      put,
    )
    refl
