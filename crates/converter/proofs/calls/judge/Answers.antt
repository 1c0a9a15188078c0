-- `calls::judge` meets its contract: the tests are those of the definition, one after the other.
use mathlib.Core.Path.{◌≡◌, sym, ◌∙◌}
use mathlib.Core.Bool.{true}
use native.Mathlib.Omega.{arith}
use lib.ListN.{get_or}
use borrow.Author.Tests.{lt-ltb, le-ltb}
use Rattle.rules.specs.Describe.{last_tick}
use Rattle.node.specs.Image.{sound_image}
use Rattle.node.specs.Layout.{layout, old_layout, image_size}
use Rattle.node.proofs.Sound.{SoundBytes, sound_bytes}
use Rattle.converter.specs.Convert.{conversion_number}
use Rattle.converter.proofs.calls.judge.Goals.{Else-not-is_sound_old}
use Rattle.converter.proofs.calls.judge.Goals as goal

pub returns-then-not-is_sound_old : goal.returns-then-not-is_sound_old
unfolding conversion_number
returns-then-not-is_sound_old c = rw (sym c.is_sound_old.ensures ∙ c.if-not-is_sound_old.true)

-- past the first test the old image is sound
sound : (c : Else-not-is_sound_old) → sound_image old_layout last_tick c.args.old.now ≡ true
sound c = sym c.is_sound_old.ensures ∙ c.if-not-is_sound_old.false

facts : (c : Else-not-is_sound_old) → SoundBytes old_layout last_tick c.args.old.now
facts c = sound_bytes old_layout last_tick c.args.old.now (sound c)

pub bounds-old-0 : goal.bounds-old-0
bounds-old-0 c = omega (arith, (facts (goal.at.bounds-old-0 c).Else-not-is_sound_old).header)

pub returns-then-room-n : goal.returns-then-room-n
unfolding conversion_number
returns-then-room-n c =
    let past = (goal.at.returns-then-room-n c).Else-not-is_sound_old in
    let a = c.args in
    rw (sound past, lt-ltb a.room (image_size layout (get_or a.old.now 0 0)) (omega arith))

pub returns : goal.returns
unfolding conversion_number
returns c =
    let past = (goal.at.returns c).Else-not-is_sound_old in
    let a = c.args in
    rw (sound past, le-ltb a.room (image_size layout (get_or a.old.now 0 0)) (omega arith))
