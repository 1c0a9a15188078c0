-- What a form, a frame and a delivery say where they are taken, with number 0: a form keeps the limits, a frame is whole, and a
-- delivery has room, a sound image, a port on its roster and such a frame.
-- Assumes nothing.
use mathlib.Core.Path.{◌≡◌, refl, sym, ap, ◌∙◌}
use mathlib.Core.Bool.{Bool, true, false, cond}
use mathlib.Core.Logic.{◌⊎◌, inl, inr}
use mathlib.Core.List.{List}
use Prim.Native.Nat.{ℕ, ◌≤◌, ◌<◌}
use native.Mathlib.Decide.{dec_le}
use native.Mathlib.Omega.{arith}
use lib.ListN.{length, get_or}
use lib.Dec.{ltb, eqb, lit<}
use Rattle.std.specs.Prelude.{Ok, Err}
use borrow.Author.Tests.{ltb-false, eqb-false}
use Rattle.fields.specs.Field.{field}
use Rattle.fields.specs.Kind.{INIT, ECHO}
use Rattle.forms.specs.Form.{serials_place, lines_of, faults_of, own_of, form_number, FormTold, form_told, told_by}
use Rattle.forms.specs.Frame.{frame_size, frame_at, frame_number, FrameTold, frame_told}
use Rattle.forms.specs.Frame.{told_by as frame_by}
use Rattle.forms.specs.declared.frame.Frame.{Frame}
use Rattle.forms.specs.Number as wire
use Rattle.forms.specs.Column.{count}
use Rattle.forms.specs.declared.answer.Refusal.{Refusal as Unread}
use Rattle.forms.specs.declared.form.Form.{Form}
use Rattle.forms.proofs.Meaning.{not_apart, frame_told_lem, frame_says}
use Rattle.forms.proofs.Frames.{not_bad_head, head_kind}
use Rattle.forms.proofs.Rosters.{Limits}
use Rattle.forms.proofs.Told.{refusal as unread, told_taken, form_taken, form_roster, none_given, first_given}
use Rattle.rules.specs.Describe.{room}
use Rattle.node.specs.Calls.{boot_number, number_before_a_frame, deliver_number}
use Rattle.node.specs.Image.{roster_in, sound_image}
use Rattle.node.specs.Number.{number_of}
use Rattle.node.specs.declared.answer.Refusal.{Refusal}
use Rattle.node.specs.declared.answer.Refusal.TheVariants.{Misread, Short, Room, Unsound, Port, Passive}
use Rattle.node.specs.Layout.{image_size}
use Rattle.node.specs.declared.layout.Layout.{Layout}
use Rattle.node.proofs.Sound.{roster_lines}

-- ---- a call with number 0 has passed each test

-- a number of its own where a test fails, and the next one past it
pub passed : (t : Bool) (number next : ℕ) → 0 < number → cond t number next ≡ 0 → (t ≡ false) × (next ≡ 0)
passed true number next p e = absurd (omega arith)
passed false number next p e = (refl, e)

pub past_image : (t : Bool) (next : ℕ) → cond t next 8 ≡ 0 → (t ≡ true) × (next ≡ 0)
past_image true next e = (refl, e)
past_image false next e = absurd (omega arith)

-- no refusal has number 0
pub refusal : (why : Refusal) → eqb (number_of why) 0 ≡ false
refusal (Misread why) = unread why
refusal Short = refl
refusal Room = refl
refusal Unsound = refl
refusal Port = refl
refusal Passive = refl

-- ---- a form

-- what refuses the form refuses boot
pub form_refuses :
    (L : Layout) (form : List ℕ) (image_length out_length : ℕ) (why : Unread)
    → form_number form ≡ wire.number_of why
    → boot_number L form image_length out_length ≡ wire.number_of why
unfolding boot_number
form_refuses L form image_length out_length why e = rw e (first_given (wire.number_of why) _ (unread why))

module _ (b : List ℕ) where
  -- the fields that the reader told are the form's own
  pub told_form :
      (form : Form)
      → told_by (Ok form) ≡ form_told b
      → (form_number b ≡ 0) × (◌≡◌ {A = Form} form (record { lines = lines_of b; faults = faults_of b; own = own_of b }))
  told_form form said =
      let z = (told_taken b form.lines form.faults form.own said).0 in
      (z, ap (λ (t : FormTold). record { lines = t.lines; faults = t.faults; own = t.own }) (said ∙ form_taken b z))

  pub form_limits : form_number b ≡ 0 → Limits (faults_of b) (lines_of b)
  form_limits z = roster_lines (faults_of b) (own_of b) (lines_of b) 4 b serials_place (form_roster b z)

-- ---- boot

-- what an accepted boot has been asked
pub record Started (L : Layout) (form : List ℕ) (image_length out_length : ℕ) : Type 0 where
  pub roster : form_number form ≡ 0
  pub image : image_size L (lines_of form) ≤ image_length
  pub out : room ≤ out_length

pub boot_taken :
    (L : Layout) (form : List ℕ) (image_length out_length : ℕ)
    → boot_number L form image_length out_length ≡ 0
    → Started L form image_length out_length
unfolding boot_number
boot_taken L form image_length out_length e =
    let roster = none_given (form_number form) _ e in
    let image = passed (ltb image_length (image_size L (lines_of form))) 6 _ (lit< tt) roster.1 in
    let out = passed (ltb out_length room) 7 _ (lit< tt) image.1 in
    record { roster = roster.0; image = ltb-false _ _ image.0; out = ltb-false _ _ out.0 }

-- ---- a frame and a delivery

-- a frame that is taken is 8 long, of a known kind, and not late
pub record WholeFrame (last : ℕ) (b : List ℕ) : Type 0 where
  pub size : length b ≡ frame_size
  pub kind : (get_or b 0 0 ≡ INIT) ⊎ (get_or b 0 0 ≡ ECHO)
  pub tick : field 4 b 4 ≤ last

pub frame_whole : (last : ℕ) (b : List ℕ) → frame_number last b ≡ 0 → WholeFrame last b
frame_whole last b z =
    let given = ((frame_says last b).exactly 0).0 (frame_told_lem last b ∙ z) in
    record {
      size = not_apart _ _ (λ n. given.0 (inl (inl (inl n))));
      kind = head_kind _ _ (not_bad_head _ _ (λ n. given.0 (inl (inl (inr n)))));
      tick = elim (dec_le (field 4 b 4) last) [ yes p ↦ p | no np ↦ absurd (given.1.0 (omega arith)) ];
    }

-- what is told of a frame that is refused: its number
pub told_frame_refused :
    (last : ℕ) (b : List ℕ) (why : Unread) → frame_by (Err why) ≡ frame_told last b → frame_number last b ≡ wire.number_of why
told_frame_refused last b why told = sym (frame_told_lem last b) ∙ ap (λ (t : FrameTold). t.number) (sym told)

-- and of one that is taken: its number is 0, and it is the frame of the bytes
pub told_frame :
    (last : ℕ) (b : List ℕ) (frame : Frame)
    → frame_by (Ok frame) ≡ frame_told last b
    → (frame_number last b ≡ 0) × (frame ≡ frame_at b 0)
unfolding frame_told
told_frame last b frame said =
    let z : frame_number last b ≡ 0 = sym (frame_told_lem last b) ∙ ap (λ (t : FrameTold). t.number) (sym said) in
    (z, ap (λ (t : FrameTold). t.frame) (rw z at said))

pub record Taken (L : Layout) (last : ℕ) (image : List ℕ) (port : ℕ) (frame : List ℕ) (out_length : ℕ) : Type 0 where
  pub space : room ≤ out_length
  pub sound : sound_image L last image ≡ true
  pub listed : count port (roster_in L image) ≡ 0 → ⊥
  pub shape : frame_number last frame ≡ 0

pub deliver_taken :
    (L : Layout) (last : ℕ) (image : List ℕ) (port : ℕ) (frame : List ℕ) (out_length : ℕ)
    → deliver_number L last image port frame out_length ≡ 0
    → Taken L last image port frame out_length
unfolding deliver_number number_before_a_frame
deliver_taken L last image port frame out_length e =
    let parts = none_given (number_before_a_frame L last image port out_length) (frame_number last frame) e in
    let space = passed (ltb out_length room) 7 _ (lit< tt) parts.0 in
    let sound = past_image (sound_image L last image) _ space.1 in
    let listed = passed (eqb (count port (roster_in L image)) 0) 9 _ (lit< tt) sound.1 in
    record { space = ltb-false _ _ space.0; sound = sound.0; listed = eqb-false _ 0 listed.0; shape = parts.1 }
