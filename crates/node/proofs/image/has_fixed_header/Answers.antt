-- `image::has_fixed_header` meets its contract: its tests, one after the other, are the definition's, and a sum of words is 0 where each
-- is.
use mathlib.Core.Path.{◌≡◌, ap, ap₂, ◌∙◌}
use mathlib.Core.Bool.{Bool, ◌&&◌}
use mathlib.Core.List.{List}
use Prim.Native.Nat.{ℕ, ◌+◌}
use native.Mathlib.Omega.{arith}
use lib.ListN.{get_or}
use lib.Dec.{eqb}
use borrow.Author.Tests.{eq-eqb, ne_eqb}
use Rattle.fields.specs.Field.{field}
use Rattle.node.specs.Image.{fixed_header}
use Rattle.node.specs.Layout.{image_size}
use Rattle.node.proofs.image.has_fixed_header.Goals.{Joined-b-layout, then-b-layout, else-b-layout}
use Rattle.node.proofs.image.has_fixed_header.Goals.{Joined-half-eq-OFFSET, then-half-eq-OFFSET, else-half-eq-OFFSET}
use Rattle.node.proofs.image.has_fixed_header.Goals as goal

-- a sum is 0 where each part is
sum-none : (x y z : ℕ) → eqb (x + y + z) 0 ≡ (eqb x 0 && (eqb y 0 && eqb z 0))
sum-none x y z = grind arith

-- what stands behind the size
abbrev zeros : List ℕ → Bool
zeros b = eqb (field 4 b 20) 0 && (eqb (field 4 b 24) 0 && eqb (field 4 b 28) 0)

-- what the first two tests leave to the others
front : (c : Joined-b-layout) →
    let a = c.args in
    let b = a.b.now in
    (c.if-b-layout.value && (eqb (field 2 b 18) (image_size a.layout (get_or b 0 0)) && zeros b)) ≡ fixed_header a.layout b
unfolding fixed_header
front c =
    let a = c.args in
    let b = a.b.now in
    elim c.if-b-layout.branch [
      | then-b-layout w ↦ rw (w.value-is, w.half.ensures, eq-eqb (get_or b 3 0) a.layout.mark w.if-b-layout.true)
      | else-b-layout w ↦ rw (w.value-is, ne_eqb (get_or b 3 0) a.layout.mark w.if-b-layout.false)
    ]

-- and the third to the last
size : (c : Joined-half-eq-OFFSET) →
    let a = c.args in
    let b = a.b.now in
    (c.if-half-eq-OFFSET.value && zeros b) ≡ (c.if-b-layout.value && (eqb (field 2 b 18) (image_size a.layout (get_or b 0 0)) && zeros b))
size c =
    elim c.if-half-eq-OFFSET.branch [
      | then-half-eq-OFFSET w ↦ rw (w.value-is, w.half-then-half-eq-OFFSET.ensures, w.size.ensures, w.if-half-eq-OFFSET.true)
      | else-half-eq-OFFSET w ↦ rw (w.value-is, w.if-half-eq-OFFSET.false)
    ]

pub returns-then-half-size : goal.returns-then-half-size
returns-then-half-size c =
    let b = c.args.b.now in
    let words = ap₂ ◌+◌ (ap₂ ◌+◌ c.word.ensures c.word-2.ensures) c.word-3.ensures in
    rw (
      ← front (goal.at.returns-then-half-size c).Joined-b-layout,
      ← size (goal.at.returns-then-half-size c).Joined-half-eq-OFFSET,
      c.if-half-size.true,
    )
    (ap (λ (n : ℕ). eqb n 0) words ∙ sum-none (field 4 b 20) (field 4 b 24) (field 4 b 28))

pub returns-else-half-size : goal.returns-else-half-size
returns-else-half-size c =
    rw (
      ← front (goal.at.returns-else-half-size c).Joined-b-layout,
      ← size (goal.at.returns-else-half-size c).Joined-half-eq-OFFSET,
      c.if-half-size.false,
    )
