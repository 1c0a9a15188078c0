-- A sound image stays sound: after boot, and after every accepted delivery; and its bytes hold just the node that the definitions
-- on lists give. Over the layout and the last tick.
-- Assumes nothing.
use mathlib.Core.Path.{◌≡◌, refl, sym, ap, ◌∙◌}
use mathlib.Core.Bool.{true}
use mathlib.Core.List.{List, [], ◌∷◌}
use Prim.Native.Nat.{ℕ, suc, ◌^◌, ◌≤◌, ◌<◌}
use native.Mathlib.Omega.{arith}
use lib.ListN.{length, get_or}
use lib.Dec.{lit<, lit≤}
use Rattle.fields.specs.Field.{Bytes}
use native.Mathlib.Nat.{one-le-pow}
use Rattle.forms.specs.Form.{lines_of, faults_of, own_of, serials_place, serials_of}
use Rattle.forms.specs.Frame.{frame_at}
use Rattle.forms.specs.declared.frame.Frame.{Frame}
use Rattle.forms.proofs.Told.{form_roster}
use Rattle.fields.proofs.Fields.{field_lt}
use Rattle.fields.proofs.Words.{Words, length_words, words_words}
use Rattle.sets.specs.Sets.{tick_count, mask_bits}
use Rattle.sets.specs.Ticks.{empty}
use Rattle.evidence.proofs.Layouts.{serials_of_rows}
use Rattle.evidence.proofs.Encoded.{SetFits, RowsFit, rows_fit, credit_fits, length_credit}
use Rattle.node.specs.After.{Begins, Follows}
use Rattle.node.specs.Calls.{boot_number, fresh_state, deliver_number, delivery_of, image_after}
use Rattle.rules.specs.Delivery.{State, Delivered, settled, delivered}
use Rattle.rules.specs.Describe.{most_firings, fresh_rows}
use Rattle.rules.specs.Rules.{settle}
use Rattle.rules.proofs.AtRest.{firings_alone, firings_together, records_alone, records_together}
use Rattle.node.specs.Image.{node_of, rows_of, state_of, sound_image, put_state}
use Rattle.node.specs.Layout.{layout, header_size}
use Rattle.node.specs.declared.layout.Layout.{Layout}
use Rattle.rules.specs.Clock.{Ordered, Below}
use Rattle.node.proofs.Fresh.{fresh_lines, fresh_sound}
use Rattle.node.proofs.Images.{Fine, NodeFits, StateFits, Written, fixed_facts, fixed_test}
use Rattle.node.proofs.Images.{state_lines, state_read_back, delivery_read_back}
use Rattle.node.proofs.Sound.{Sound, SoundBytes, sound_bytes, bytes_sound, rows_inside}
use Rattle.node.proofs.Stays.{sound_after, ordered_after, firings_few, firings_all, records_few, records_below}
use Rattle.node.proofs.Taken.{Started, boot_taken, Taken, deliver_taken, frame_whole}

-- a layout that works: its numbers fit, and its window fits a mask of its bytes
pub record Works (L : Layout) : Type 0 where
  pub fine : Fine L
  pub bits : ℕ
  pub masks : 256 ^ L.masks ≡ 2 ^ bits
  pub wide : 0 < L.window
  pub narrow : L.window ≤ bits

-- the layout in service: a window of 128 ticks in masks of 16 bytes
pub in_service : Works layout
in_service =
    record {
      fine = record { mark = lit< tt; size = λ n p. omega arith };
      bits = mask_bits;
      masks = refl;
      wide = lit< tt;
      narrow = lit≤ tt;
    }

-- ---- an image that a state was written over is sound where the state is

pub written_sound :
    (L : Layout) (last : ℕ) (b : List ℕ) (s : State) (next : List ℕ)
    → Sound L.window last s
    → StateFits L b s
    → Written L b s next
    → sound_image L last next ≡ true
unfolding state_of node_of
written_sound L last b s next sound fits wrote =
    bytes_sound L last next
    (record {
      header = omega (arith, fits.room, wrote.size);
      stated = rw (wrote.fixed.size, ap (λ (t : State). t.node.lines) wrote.state, wrote.size) fits.room;
      fixed = fixed_test L next wrote.fixed;
      node = rw wrote.state sound;
    })

-- ---- an accepted delivery

module _
    (L : Layout) (last : ℕ) (works : Works L) (small : last < tick_count) (image : List ℕ) (port : ℕ) (frame : List ℕ) (out_length : ℕ)
    (bytes : Bytes image) (ok : deliver_number L last image port frame out_length ≡ 0) where
  abbrev start : State
  start = state_of L image

  abbrev told : Frame
  told = frame_at frame 0

  abbrev d : Delivered
  d = delivery_of L last image port frame

  taken : Taken L last image port frame out_length
  taken = deliver_taken L last image port frame out_length ok

  before : SoundBytes L last image
  before = sound_bytes L last image taken.sound

  late : told.tick ≤ last
  late = (frame_whole last frame taken.shape).tick

  count : start.node.lines ≡ length start.rows
  count = sym (state_lines L image)

  -- its clock stays in order
  pub delivery_ordered : Ordered last start.node d.state.node
  unfolding delivery_of
  delivery_ordered = ordered_after L.window last start port told works.wide count before.node late

  node_fits : NodeFits d.state.node
  unfolding state_of node_of
  node_fits =
      let o = delivery_ordered in
      record {
        lines = rw o.lines (bytes 0);
        faults = rw o.faults (bytes 1);
        own = rw o.own (field_lt 4 image 4 bytes);
        mode = omega (arith, o.mode);
        tick = omega (arith, o.tick);
        sent = omega (arith, o.sent, o.tick);
      }

  fits : StateFits L image d.state
  unfolding delivery_of delivered state_of node_of
  fits =
      record {
        node = node_fits;
        rows =
            credit_fits L.masks works.bits L.window works.masks works.wide works.narrow port told.kind told.tick
            (rows_of L image) (omega (arith, late)) (rows_fit L.masks (get_or image 0 0) image header_size bytes);
        count =
            length_credit L.masks works.bits L.window works.masks works.wide works.narrow port told.kind told.tick
            (rows_of L image) ∙ sym count ∙ sym delivery_ordered.lines;
        room = rw delivery_ordered.lines (rows_inside L image before.fixed before.stated);
      }

  -- an accepted delivery leaves a sound image, of the length it had, which holds the node that follows
  pub delivery_sound : Follows L last image d (image_after L image d)
  unfolding delivery_of state_of
  delivery_sound =
      let o = delivery_ordered in
      let wrote = delivery_read_back L image d fits o.lines o.faults o.own (fixed_facts L image before.fixed) in
      let sound = sound_after L.window last start port told works.wide count before.node late in
      record { sound = written_sound L last image d.state _ sound fits wrote; state = wrote.state; size = wrote.size }

  -- few rules fire, as many as with any greater counter, and few records are sent
  pub delivery_firings : (d.firings ≤ firings_alone) × (2 ≤ start.node.lines → d.firings ≤ firings_together)
  unfolding delivery_of
  delivery_firings = firings_few L.window last start port told works.wide count before.node

  pub delivery_all :
      (c : ℕ)
      → most_firings ≤ c
      → settle L.window last d.state.rows c start.node ≡ settled L.window last start port told
  unfolding delivery_of delivered
  delivery_all = firings_all L.window last start port told works.wide count before.node

  pub delivery_records : (length d.records ≤ records_alone) × (2 ≤ start.node.lines → length d.records ≤ records_together)
  unfolding delivery_of state_of node_of
  delivery_records =
      records_few L.window last start port told works.wide count before.node
      (rw (← serials_of_rows L.masks (get_or image 0 0) image header_size) at taken.listed)

  -- and says no tick above its clock
  pub delivery_below : Below d.state.node.tick d.records
  unfolding delivery_of
  delivery_below = records_below L.window last start port told works.wide before.node late

-- ---- boot

fresh_fits : (mb : ℕ) (serials : List ℕ) → Words serials → RowsFit mb (fresh_rows serials)
unfolding fresh_rows
fresh_fits mb [] h = tt
fresh_fits mb (x ∷ xs) h = (record { serial = h 0; echo = none; init = none }, fresh_fits mb xs (λ k. h (suc k)))
  where
    none : SetFits mb empty
    none = record { top = lit< tt; mask = one-le-pow mb 256 (lit< tt) }

module _
    (L : Layout) (last : ℕ) (works : Works L) (form image : List ℕ) (out_length : ℕ)
    (bytes : Bytes form) (ok : boot_number L form (length image) out_length ≡ 0) where
  started : Started L form (length image) out_length
  started = boot_taken L form (length image) out_length ok

  lines : length (serials_of form) ≡ lines_of form
  lines = length_words (lines_of form) 4 form serials_place

  fresh : Sound L.window last (fresh_state form)
  unfolding fresh_state
  fresh =
      rw lines at
      (fresh_sound L.window last (faults_of form) (own_of form) (serials_of form) (form_roster form started.roster))

  fresh_fit : StateFits L image (fresh_state form)
  unfolding fresh_state
  fresh_fit =
      record {
        node = record {
          lines = bytes 0;
          faults = bytes 1;
          own = field_lt 4 form 4 bytes;
          mode = lit< tt;
          tick = lit< tt;
          sent = lit< tt;
        };
        rows = fresh_fits L.masks (serials_of form) (words_words (lines_of form) 4 form serials_place bytes);
        count = fresh_lines form;
        room = started.image;
      }

  -- an accepted boot leaves a sound image, of the length it had, which holds the fresh node
  pub boot_sound : Begins L last image form (put_state L image (fresh_state form))
  boot_sound =
      let wrote = state_read_back L image (fresh_state form) works.fine fresh_fit in
      record { sound = written_sound L last image (fresh_state form) _ fresh fresh_fit wrote; state = wrote.state; size = wrote.size }
