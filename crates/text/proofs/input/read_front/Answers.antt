-- `input::read_front` meets its contract: the bytes of a turn come to stand behind those that have come before.
use Rattle.std.proofs.Common.{◌≡◌, ℕ, ◌+◌, ◌-◌, ◌≤◌, List, ◌++◌, arith, length, take, slice_range, sym, ap, ◌∙◌, subst, le_refl, rules, drop_at, length-take-le}
use Rattle.std.proofs.lemmas.Slice.{take-put_mid_below}
use Rattle.std.specs.Io.KnownBytes.{Consumes}
use Rattle.std.proofs.KnownBytes.{Consumes-trans}
use borrow.Rule.Slice.PartMut.{put_mid, post_of}
use lib.Seq.{take-add, take-append-le}
use Rattle.text.proofs.input.read_front.Goals as goal

-- two parts that lie side by side are the front of the list
take_split : (a b : ℕ) (old new : List ℕ) → a ≤ b → take a new ≡ take a old → take a old ++ slice_range new a b ≡ take b new
take_split a b old new h front =
    let same : a + (b - a) ≡ b = omega arith in
    ap (λ l. l ++ slice_range new a b) (sym front) ∙ sym (take-add a (b - a) new) ∙ ap (λ n. take n new) same

-- the front of a part is the front of what was put there
front_of_part : (a k n : ℕ) (xs ys : List ℕ) → a ≤ length xs → n ≤ length ys → slice_range (put_mid a k xs ys) a (a + n) ≡ take n ys
front_of_part a k n xs ys within fits =
    let same : (a + n) - a ≡ n = omega arith in
    let after = post_of a k xs in
    ap (take ((a + n) - a)) (drop_at (take a xs) (ys ++ after) a (length-take-le a xs within))
    ∙ ap (λ m. take m (ys ++ after)) same
    ∙ take-append-le n ys after fits

pub loop-size-preserved : goal.loop-size-preserved
loop-size-preserved g c =
    let from = c.loop-size.size in
    let old = c.loop-size.bytes in
    let room = length old - from in
    let within = c.loop-size.invariant.0 in
    let part = front_of_part from room c.in-Ok.more old c.read.new.buf within c.in-Ok.ensures.bound.0 in
    let joined =
    take_split from (from + c.in-Ok.more) old (put_mid from room old c.read.new.buf) (omega arith)
    (take-put_mid_below _ _ _ _ _ (le_refl _) within) in (
      search rules,
      subst (Consumes _ _) (ap (λ l. take from old ++ l) (sym part) ∙ joined)
          (Consumes-trans _ _ _ _ _ c.loop-size.invariant.1 c.in-Ok.ensures.bytes.0),
    )
