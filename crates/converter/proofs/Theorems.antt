-- WHERE A READER STARTS for old images: what request A8 promises of the converter, as statements about its call. What the words mean is in
-- specs/: `converted` and `new_image` in Convert, the rows of the table of numbers in Table; in specs/ of node the two layouts in Layout,
-- the image and what it holds in Image, what is held under a serial in Runs, two images alike in all but the order of their rows in
-- Matched. That the code gives just these outcomes, for every input, is the contract of `convert` (src/calls.rt). The proofs are short
-- here and stand in Conversion, over any two layouts of which the second widens the first.
-- Assumes nothing.
use mathlib.Core.Path.{◌≡◌, sym, ap, ◌∙◌}
use mathlib.Core.Bool.{true}
use mathlib.Core.Logic.{◌≢◌}
use mathlib.Core.List.{List}
use Prim.Native.Nat.{ℕ}
use native.Mathlib.Omega.{arith}
use lib.ListN.{length, get_or, drop}
use lib.Dec.{lit<, lit≤}
use Rattle.fields.specs.Field.{Bytes}
use Rattle.forms.specs.Table.{Says, Understated}
use Rattle.rules.specs.Describe.{last_tick}
use Rattle.node.specs.Calls.{reading}
use Rattle.node.specs.Image.{node_of, rows_of, state_of, headed, sound_image}
use Rattle.node.specs.Layout.{layout, old_layout, image_size}
use Rattle.node.specs.Matched.{Matched, Pair}
use Rattle.node.specs.Runs.{Call, under, observed}
use Rattle.node.proofs.Lives.{pair_observed}
use Rattle.node.proofs.SoundImages.{in_service}
use Rattle.converter.specs.Answers.{converted_by}
use Rattle.converter.specs.Convert.{Widens, Converted, converted, new_image}
use Rattle.converter.specs.Table.{convert_checks}
use Rattle.converter.specs.declared.calls.Conversion.{Conversion}
use Rattle.converter.proofs.Conversion.{convert_done_lem, convert_refused, convert_says, convert_keeps}
use Rattle.converter.proofs.Conversion.{convert_writes, convert_sound, convert_ticks, convert_reads, new_alike, new_stands}
use Rattle.converter.proofs.Conversion.{number_alike, number_order, pair_order}

-- the layout in service widens the old one: 64 ticks in masks of 8 bytes go to 128 in masks of 16
widens : Widens old_layout layout
widens = record { window = lit≤ tt; masks = lit≤ tt; mark = lit< tt; size = λ n p. omega arith; apart = omega arith }

-- a call of the converter
abbrev conversion : List ℕ → List ℕ → Converted
conversion old image = converted old_layout layout last_tick old image

module _ (old image : List ℕ) where
  abbrev converts : Converted
  converts = conversion old image

  -- ---- Numbers

  -- Each number is given exactly when its row of the table applies and no row before it does
  pub conversion_numbers : Says converts.number (convert_checks old_layout layout last_tick old image)
  conversion_numbers = convert_says old_layout layout last_tick old image

  -- A refusal changes no byte of the buffer, and says that nothing was written
  pub refused_changes_nothing :
      (converts.number ≡ 0 → ⊥)
      → (converts.image ≡ image) × (converts.written ≡ 0)
  refused_changes_nothing n =
      let refused = convert_refused old_layout layout last_tick old image n in
      (ap (λ (c : Converted). c.image) refused, ap (λ (c : Converted). c.written) refused)

  -- An old image that declares less than the full fault number is refused with 8, whatever else it holds (02, A7)
  pub conversion_refuses_less :
      Understated (node_of old).lines (node_of old).faults
      → converts.number ≡ 8
  conversion_refuses_less less = (conversion_numbers.exactly 8).1 (λ sound. sound.full less)

  -- So is every image whose byte 3 is not 0, and those of the layout in service among them
  pub conversion_refuses_others :
      get_or old 3 0 ≢ old_layout.mark
      → converts.number ≡ 8
  conversion_refuses_others other = (conversion_numbers.exactly 8).1 (λ sound. other sound.mark)

  -- ---- What is kept

  -- Where the number is 0 the buffer holds a sound image
  pub converted_is_sound :
      Bytes old
      → converts.number ≡ 0
      → sound_image layout last_tick converts.image ≡ true
  converted_is_sound bytes ok = convert_sound old_layout layout widens old image bytes last_tick ok

  -- It holds the same node: n, f, own serial, mode, k and last echo, and the same rows, each with its serial and both sets
  pub converted_holds_the_same_node :
      Bytes old
      → converts.number ≡ 0
      → state_of layout converts.image ≡ state_of old_layout old
  converted_holds_the_same_node bytes ok = (convert_writes old_layout layout widens old image bytes last_tick ok).state

  -- So every tick is held under a serial in the wider window exactly where it was held in the old one
  pub converted_holds_the_same_ticks :
      Bytes old
      → converts.number ≡ 0
      → (serial kind t : ℕ)
      → under layout.window (rows_of layout converts.image) serial kind t
      ≡ under old_layout.window (rows_of old_layout old) serial kind t
  converted_holds_the_same_ticks bytes ok = convert_ticks old_layout layout widens old image bytes last_tick ok

  -- And the clock is read as before: an active node gives the same k, a passive one is refused with 12 again
  pub converted_reads_the_same :
      Bytes old
      → converts.number ≡ 0
      → reading layout last_tick converts.image ≡ reading old_layout last_tick old
  converted_reads_the_same bytes ok = convert_reads old_layout layout widens old image bytes last_tick ok

  -- ---- What is written

  -- As many bytes are written as an image of n rows has in the layout in service
  pub written_length :
      converts.number ≡ 0
      → converts.written ≡ image_size layout (node_of old).lines
  unfolding node_of
  written_length ok = ap (λ (c : Converted). c.written) (convert_done_lem old_layout layout last_tick old image ok)

  -- The buffer keeps its length, and its bytes behind those written stay; whatever the number
  pub bytes_behind_stay :
      (length converts.image ≡ length image)
      × (drop converts.written converts.image ≡ drop converts.written image)
  bytes_behind_stay = convert_keeps old_layout layout last_tick old image

  -- The bytes written are an image by themselves: sound, and with the same node
  pub new_image_by_itself :
      Bytes old
      → converts.number ≡ 0
      → (sound_image layout last_tick (new_image converts) ≡ true) × (state_of layout (new_image converts) ≡ state_of old_layout old)
  new_image_by_itself = new_stands old_layout layout last_tick old image widens

-- Nothing hangs on the buffer: over any two that have the room the same bytes are written
pub converted_twice_is_the_same :
    (old image other : List ℕ)
    → (conversion old image).number ≡ 0
    → (conversion old other).number ≡ 0
    → new_image (conversion old image) ≡ new_image (conversion old other)
converted_twice_is_the_same = new_alike old_layout layout last_tick

-- What was converted is never converted again: it is refused with 8, whatever buffer is lent
pub never_converted_again :
    (old image other : List ℕ)
    → Bytes old
    → (conversion old image).number ≡ 0
    → (conversion (conversion old image).image other).number ≡ 8
never_converted_again old image other bytes ok =
    let mark = (convert_writes old_layout layout widens old image bytes last_tick ok).fixed.mark in
    conversion_refuses_others (conversion old image).image other (λ e. widens.apart (sym e ∙ mark))

-- The order of rows decides nothing. Two old images with the same node and the same rows in another order, sound or not, are given the
-- same number
pub order_decides_no_number :
    (old other image buffer : List ℕ)
    → headed old_layout old ≡ headed old_layout other
    → Matched (state_of old_layout old) (state_of old_layout other)
    → length image ≡ length buffer
    → (conversion old image).number ≡ (conversion other buffer).number
order_decides_no_number = number_alike old_layout layout last_tick

-- And two sound ones are both refused with 6, or both are converted, to two sound images alike in all but the order of rows
pub order_commutes :
    (old other image buffer : List ℕ)
    → Bytes image
    → Bytes buffer
    → length image ≡ length buffer
    → Pair old_layout last_tick old other
    → ((conversion old image).number ≡ (conversion other buffer).number)
    × ((conversion old image).number ≡ 0 → Pair layout last_tick (conversion old image).image (conversion other buffer).image)
order_commutes old other image buffer bytes bytes' long pair = (
  number_order old_layout layout last_tick old other image buffer pair long,
  pair_order old_layout layout last_tick old other image buffer pair long widens bytes bytes',
)

-- So whatever is delivered or read later, the same is seen of both after each call (demand 3)
pub order_decides_nothing_later :
    (old other image buffer : List ℕ) (calls : List Call)
    → Bytes image
    → Bytes buffer
    → length image ≡ length buffer
    → Pair old_layout last_tick old other
    → (conversion old image).number ≡ 0
    → observed layout last_tick (conversion old image).image calls ≡ observed layout last_tick (conversion other buffer).image calls
order_decides_nothing_later old other image buffer calls bytes bytes' long pair ok =
    pair_observed layout last_tick in_service (lit< tt) _ _ calls
    ((order_commutes old other image buffer bytes bytes' long pair).1 ok)

-- ---- The contract allows one outcome: two that meet it coincide

pub one_conversion :
    (wanted : Converted) (a b : Conversion) (image image' : List ℕ)
    → converted_by a image ≡ wanted
    → converted_by b image' ≡ wanted
    → (a ≡ b) × (image ≡ image')
one_conversion wanted a b image image' p q =
    let e = p ∙ sym q in
    (λ d. record { number = (e d).number; written = (e d).written }, ap (λ (c : Converted). c.image) e)
