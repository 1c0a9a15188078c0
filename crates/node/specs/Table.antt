-- The rows of the paper's table of numbers that boot, deliver and read give (01, "Numbers given back"), as plain propositions in its
-- order. The form's and the frame's own rows, and what it means that checks give a number, are those of forms; a sound image is listed
-- condition by condition in specs/Sound.antt.
use Rattle.std.specs.Prelude.{◌≡◌, ℕ, ◌<◌, length, get_or}
use mathlib.Core.List.{List, [], ◌∷◌, ◌++◌, Memᴰ}
use Rattle.forms.specs.Form.{lines_of}
use Rattle.forms.specs.Table.{Check, ◌when◌, form_checks, frame_checks}
use Rattle.rules.specs.Describe.{room}
use Rattle.node.specs.Image.{mode_place, roster_in}
use Rattle.node.specs.Layout.{image_size}
use Rattle.node.specs.declared.layout.Layout.{Layout}
use Rattle.node.specs.Sound.{SoundImage}

-- the form's own, 6, 7
abbrev pub boot_checks : Layout → List ℕ → List ℕ → List ℕ → List Check
boot_checks L form image out =
    form_checks form ++ 6 when (length image < image_size L (lines_of form))
    ∷ 7 when (length out < room)
    ∷ []

-- 7, 8, 9, then 10 and 11 of the frame
abbrev pub deliver_checks : Layout → ℕ → List ℕ → ℕ → List ℕ → List ℕ → List Check
deliver_checks L last image port frame out =
    7 when (length out < room)
    ∷ 8 when (SoundImage L last image → ⊥)
    ∷ 9 when (Memᴰ port (roster_in L image) → ⊥)
    ∷ frame_checks last frame

-- 8, 12
abbrev pub read_checks : Layout → ℕ → List ℕ → List Check
read_checks L last image =
    8 when (SoundImage L last image → ⊥)
    ∷ 12 when (get_or image mode_place 0 ≡ 0)
    ∷ []
