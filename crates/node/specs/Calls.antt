-- The three calls of truck firmware (01, "Numbers given back"): for every form, image, port, frame and output the number, the
-- records, how many rules fired (02, A6), and every byte of image and output at exit. A refusal reports nothing and changes no byte.
use Rattle.std.specs.Prelude.{ℕ, List, cond, length, get_or, ltb, eqb}
use Rattle.fields.specs.Field.{field}
use Rattle.forms.specs.Form.{lines_of, faults_of, own_of, serials_of, form_number}
use Rattle.forms.specs.Frame.{frame_at, frame_number}
use Rattle.forms.specs.Number.{or_else}
use Rattle.forms.specs.Column.{count}
use Rattle.evidence.specs.Rows.{put_rows}
use Rattle.rules.specs.Delivery.{State, Delivered, delivered}
use Rattle.rules.specs.Describe.{room, fresh_node, fresh_rows, boot_records}
use Rattle.node.specs.Image.{mode_place, tick_place, roster_in, state_of, put_clock_bytes, put_state, sound_image}
use Rattle.node.specs.Layout.{header_size, image_size}
use Rattle.node.specs.declared.layout.Layout.{Layout}
use Rattle.rules.specs.Record.{put_records}

-- number, count of records, rules fired, and every byte of image and output at exit
pub record Outcome : Type 0 where
  pub number : ℕ
  pub records : ℕ
  pub fired : ℕ
  pub image : List ℕ
  pub out : List ℕ

-- a refusal: its number, no records, no rule fired, and no byte of image or output changed
abbrev pub refused : ℕ → List ℕ → List ℕ → Outcome
refused number image out = record { number = number; records = 0; fired = 0; image = image; out = out }

-- the outcome that a number decides: of 0 what is done, of any other a refusal
abbrev pub outcome : ℕ → List ℕ → List ℕ → Outcome → Outcome
outcome number image out done = cond (eqb number 0) done (refused number image out)

-- ---- boot: the form's own, then 6, then 7

unfoldable pub boot_number : Layout → List ℕ → ℕ → ℕ → ℕ
boot_number L form image_length out_length =
    or_else (form_number form) (cond (ltb image_length (image_size L (lines_of form))) 6 (cond (ltb out_length room) 7 0))

-- the node of a form that is taken
unfoldable pub fresh_state : List ℕ → State
fresh_state form = record { node = fresh_node (lines_of form) (faults_of form) (own_of form); rows = fresh_rows (serials_of form) }

-- what it does then. No rule fires: a fresh node is at rest
abbrev pub boot_done : Layout → List ℕ → List ℕ → List ℕ → Outcome
boot_done L form image out =
    record {
      number = 0;
      records = length boot_records;
      fired = 0;
      image = put_state L image (fresh_state form);
      out = put_records out 0 boot_records;
    }

unfoldable pub booted : Layout → List ℕ → List ℕ → List ℕ → Outcome
booted L form image out =
    outcome (boot_number L form (length image) (length out)) image out (boot_done L form image out)

-- ---- deliver: 7, 8, 9, then 10 and 11 of the frame

-- 7 of the room, 8 of the image, 9 of the port
unfoldable pub number_before_a_frame : Layout → ℕ → List ℕ → ℕ → ℕ → ℕ
number_before_a_frame L last image port out_length =
    cond (ltb out_length room) 7
    (cond (sound_image L last image) (cond (eqb (count port (roster_in L image)) 0) 9 0) 8)

unfoldable pub deliver_number : Layout → ℕ → List ℕ → ℕ → List ℕ → ℕ → ℕ
deliver_number L last image port frame out_length = or_else (number_before_a_frame L last image port out_length) (frame_number last frame)

-- the delivery of a frame that is taken
unfoldable pub delivery_of : Layout → ℕ → List ℕ → ℕ → List ℕ → Delivered
delivery_of L last image port frame = delivered L.window last (state_of L image) port (frame_at frame 0)

-- it changes only k, mode, last echo and the port's row
unfoldable pub image_after : Layout → List ℕ → Delivered → List ℕ
image_after L image d = put_clock_bytes (put_rows L.masks image header_size d.state.rows) d.state.node

-- what it does then
abbrev pub deliver_done : Layout → ℕ → List ℕ → ℕ → List ℕ → List ℕ → Outcome
deliver_done L last image port frame out =
    let d = delivery_of L last image port frame in
    record {
      number = 0;
      records = length d.records;
      fired = d.firings;
      image = image_after L image d;
      out = put_records out 0 d.records;
    }

unfoldable pub deliver_outcome : Layout → ℕ → List ℕ → ℕ → List ℕ → List ℕ → Outcome
deliver_outcome L last image port frame out =
    outcome (deliver_number L last image port frame (length out)) image out (deliver_done L last image port frame out)

-- ---- read: 8, then 12 where the node is passive; the clock of an active node is k

pub record Reading : Type 0 where
  pub number : ℕ
  pub clock : ℕ

-- a refusal gives clock 0
abbrev pub unread : ℕ → Reading
unread number = record { number = number; clock = 0 }

unfoldable pub read_number : Layout → ℕ → List ℕ → ℕ
read_number L last image = cond (sound_image L last image) (cond (eqb (get_or image mode_place 0) 0) 12 0) 8

unfoldable pub reading : Layout → ℕ → List ℕ → Reading
reading L last image =
    cond (eqb (read_number L last image) 0) (record { number = 0; clock = field 4 image tick_place }) (unread (read_number L last image))
