-- The numbers of boot, deliver and read are given exactly when the paper says, and in no other case (01, "Numbers given back"). The
-- rows of the paper's table are propositions (specs/Table.antt).
-- Assumes nothing.
use mathlib.Core.Path.{◌≡◌, refl}
use mathlib.Core.Bool.{Bool, true, false, cond, not}
use mathlib.Core.List.{List, ◌++◌}
use Prim.Native.Nat.{ℕ}
use native.Mathlib.Omega.{arith}
use lib.ListN.{length, get_or}
use lib.Dec.{eqb}
use Rattle.forms.specs.Form.{lines_of}
use Rattle.forms.specs.Number.{or_else}
use Rattle.forms.specs.Table.{Check, Given, Says}
use Rattle.forms.proofs.Meaning.{less, equal, in_front, none, past, form_then, frame_says, frame_told_lem, absent}
use Rattle.rules.specs.Describe.{room}
use Rattle.node.specs.Calls.{boot_number, booted, number_before_a_frame, deliver_number, deliver_outcome, read_number, reading}
use Rattle.node.specs.Image.{mode_place, roster_in, sound_image}
use Rattle.node.specs.Layout.{image_size}
use Rattle.node.specs.declared.layout.Layout.{Layout}
use Rattle.node.specs.Table.{boot_checks, deliver_checks, read_checks}
use Rattle.node.proofs.Conditions.{not_sound_says}
use Rattle.node.proofs.Outcomes.{boot_told, deliver_told, read_told}

-- ---- boot: the form's own, 6, 7

pub boot_says : (L : Layout) (form image out : List ℕ) → Says (booted L form image out).number (boot_checks L form image out)
unfolding boot_number
boot_says L form image out =
    rw (boot_told L form image out)
    (form_then form
    (in_front 6 (less (length image) (image_size L (lines_of form))) (omega arith) (in_front 7 (less (length out) room) (omega arith) none))
    (omega arith))

-- ---- deliver: 7, 8, 9, then 10 and 11 of the frame

-- a test that passes where the next number is looked for
pub swap : (t : Bool) (a b : ℕ) → cond t a b ≡ cond (not t) b a
swap true a b = refl
swap false a b = refl

pub deliver_says :
    (L : Layout) (last : ℕ) (image : List ℕ) (port : ℕ) (frame out : List ℕ)
    → Says (deliver_outcome L last image port frame out).number (deliver_checks L last image port frame out)
unfolding deliver_number number_before_a_frame
deliver_says L last image port frame out =
    rw (deliver_told L last image port frame out, swap (sound_image L last image), past, past, past)
    (in_front 7 (less (length out) room) (omega arith)
    (in_front 8 (not_sound_says L last image) (omega arith)
    (in_front 9 (absent port (roster_in L image)) (omega arith) (rw (frame_told_lem last frame) at (frame_says last frame)))))

-- ---- read: 8, 12

-- the two tests of read, with other checks behind
read_checks_lem : (L : Layout) (last : ℕ) (image : List ℕ) {next : ℕ} {checks : List Check} →
    Says next checks → (Given checks 8 → ⊥) × (Given checks 12 → ⊥) →
    Says (cond (not (sound_image L last image)) 8 (cond (eqb (get_or image mode_place 0) 0) 12 next)) (read_checks L last image ++ checks)
read_checks_lem L last image says fresh =
    in_front 8 (not_sound_says L last image) (λ g. fresh.0 g.1) (in_front 12 (equal (get_or image mode_place 0) 0) fresh.1 says)

pub read_says : (L : Layout) (last : ℕ) (image : List ℕ) → Says (reading L last image).number (read_checks L last image)
unfolding read_number
read_says L last image =
    rw (read_told L last image, swap (sound_image L last image)) (read_checks_lem L last image none (omega arith))

-- read's number, with other checks behind
pub read_then : (L : Layout) (last : ℕ) (image : List ℕ) {next : ℕ} {checks : List Check} →
    Says next checks → (Given checks 8 → ⊥) × (Given checks 12 → ⊥) →
    Says (or_else (read_number L last image) next) (read_checks L last image ++ checks)
unfolding read_number
read_then L last image says fresh =
    rw (swap (sound_image L last image), past, past) (read_checks_lem L last image says fresh)
