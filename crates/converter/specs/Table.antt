-- The rows of the table of numbers that the converter gives (02, A8), as plain propositions in its order. What it means that checks give
-- a number is said in forms, and a sound image is listed condition by condition in specs/Sound.antt of node, the full fault number (02,
-- A7) among them; here it is one of the old layout.
use Rattle.std.specs.Prelude.{List, [], ◌∷◌, ℕ, ◌<◌, length}
use Rattle.forms.specs.Table.{Check, ◌when◌}
use Rattle.node.specs.Image.{node_of}
use Rattle.node.specs.Layout.{image_size}
use Rattle.node.specs.Sound.{SoundImage}
use Rattle.node.specs.declared.layout.Layout.{Layout}

-- 8, 6
abbrev pub convert_checks : Layout → Layout → ℕ → List ℕ → List ℕ → List Check
convert_checks L M last old image =
    8 when (SoundImage L last old → ⊥)
    ∷ 6 when (length image < image_size M (node_of old).lines)
    ∷ []
