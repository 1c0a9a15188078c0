-- `image::has_header` meets its contract: its tests, one after the other, are the definition's.
use mathlib.Core.Path.{◌≡◌}
use mathlib.Core.Bool.{◌&&◌}
use native.Mathlib.Omega.{arith}
use lib.ListN.{length}
use borrow.Author.Tests.{lt-ltb, le-ltb, lt-leb}
use Rattle.node.specs.Image.{headed, fixed_header}
use Rattle.node.specs.Layout.{header_size}
use Rattle.node.proofs.image.has_header.Goals.{Joined-b-ge-HEADER, then-b-ge-HEADER, else-b-ge-HEADER}
use Rattle.node.proofs.image.has_header.Goals as goal

-- the two tests of the length
long : (c : Joined-b-ge-HEADER) →
    let a = c.args in
    let b = a.b.now in
    (c.if-b-ge-HEADER.value && fixed_header a.layout b) ≡ headed a.layout b
unfolding headed
long c =
    let b = c.args.b.now in
    elim c.if-b-ge-HEADER.branch [
      | then-b-ge-HEADER w ↦ rw (w.value-is, w.half.ensures, le-ltb (length b) header_size w.if-b-ge-HEADER.true) (grind arith)
      | else-b-ge-HEADER w ↦
          let short = w.if-b-ge-HEADER.false in
          rw (w.value-is, lt-ltb (length b) header_size short, lt-leb header_size (length b) short)
    ]

pub returns-then-half-b : goal.returns-then-half-b
returns-then-half-b c = rw (← long (goal.at.returns-then-half-b c).Joined-b-ge-HEADER, c.if-half-b.true) c.has_fixed_header.ensures

pub returns-else-half-b : goal.returns-else-half-b
returns-else-half-b c = rw (← long (goal.at.returns-else-half-b c).Joined-b-ge-HEADER, c.if-half-b.false)
