-- What the calls leave alone, for every outcome, refused ones included: lengths, bytes behind the image's size, bytes behind the
-- records, and of the image itself all but mode, k, last echo and the port's row. Over the layout.
-- Assumes nothing.
use mathlib.Core.Path.{◌≡◌, refl, ◌∙◌}
use mathlib.Core.List.{List}
use Prim.Native.Nat.{ℕ, ◌+◌, ◌*◌, ◌≤◌, ◌<◌}
use native.Mathlib.Omega.{arith}
use lib.ListN.{length, get_or, length-map}
use Rattle.fields.specs.Field.{field, Bytes}
use Rattle.forms.specs.Form.{lines_of}
use Rattle.evidence.specs.Rows.{credit}
use Rattle.evidence.proofs.Credits.{credit_elsewhere}
use Rattle.evidence.proofs.Encoded.{get_d_put_rows_after}
use Rattle.evidence.proofs.Layouts.{length_rows}
use Rattle.rules.specs.Delivery.{delivered}
use Rattle.rules.specs.Describe.{boot_records}
use Rattle.rules.specs.Record.{record_size}
use Rattle.rules.proofs.Records.{length_put_records, get_d_put_records_after}
use Rattle.node.specs.After.{InRow}
use Rattle.node.specs.Calls.{boot_number, fresh_state, booted, deliver_number, delivery_of, image_after}
use Rattle.node.specs.Calls.{deliver_outcome}
use Rattle.node.specs.Image.{mode_place, tick_place, sent_place, rows_of, state_of}
use Rattle.node.specs.Layout.{header_size, image_size}
use Rattle.node.specs.declared.layout.Layout.{Layout}
use Rattle.node.proofs.Fresh.{fresh_lines}
use Rattle.node.proofs.Images.{length_after, length_put_state, get_d_put_clock_other, get_d_put_clock_after, get_d_put_state_after}
use Rattle.node.proofs.Outcomes.{either_way}

-- ---- boot

module _ (L : Layout) (form image out : List ℕ) where
  -- bytes behind the image's size stay
  pub boot_behind_image : (i : ℕ) →
      image_size L (lines_of form) ≤ i →
      get_or (booted L form image out).image i 0 ≡ get_or image i 0
  unfolding booted fresh_state
  boot_behind_image i far =
      either_way (boot_number L form (length image) (length out)) image out _ (λ o. get_or o.image i 0 ≡ get_or image i 0)
      (get_d_put_state_after L image (fresh_state form) i (fresh_lines form) far)
      (λ n. refl)

  -- bytes behind the records stay
  pub boot_behind_records : (i : ℕ) →
      record_size * (booted L form image out).records ≤ i →
      get_or (booted L form image out).out i 0 ≡ get_or out i 0
  unfolding booted
  boot_behind_records i =
      either_way (boot_number L form (length image) (length out)) image out _
      (λ o. record_size * o.records ≤ i → get_or o.out i 0 ≡ get_or out i 0)
      (λ far. get_d_put_records_after out 0 boot_records i far) (λ n far. refl)

  -- and no buffer changes its length
  pub boot_lengths : (length (booted L form image out).image ≡ length image) × (length (booted L form image out).out ≡ length out)
  unfolding booted
  boot_lengths =
      either_way (boot_number L form (length image) (length out)) image out _
      (λ o. (length o.image ≡ length image) × (length o.out ≡ length out))
      (length_put_state L image (fresh_state form), length_put_records out 0 boot_records) (λ n. (refl, refl))

-- ---- deliver

module _ (L : Layout) (last : ℕ) (image : List ℕ) (port : ℕ) (frame out : List ℕ) where
  rows_many : length (delivery_of L last image port frame).state.rows ≡ get_or image 0 0
  unfolding delivery_of delivered state_of credit
  rows_many = length-map (rows_of L image) _ ∙ length_rows L.masks (get_or image 0 0) image header_size

  -- bytes behind the image's size stay
  pub deliver_behind_image : (i : ℕ) →
      image_size L (get_or image 0 0) ≤ i →
      get_or (deliver_outcome L last image port frame out).image i 0 ≡ get_or image i 0
  unfolding deliver_outcome image_after
  deliver_behind_image i far =
      either_way (deliver_number L last image port frame (length out)) image out _ (λ o. get_or o.image i 0 ≡ get_or image i 0)
      (get_d_put_clock_after _ _ i (omega arith) ∙ get_d_put_rows_after L.masks image header_size _ i (rw rows_many far))
      (λ n. refl)

  -- bytes behind the records stay
  pub deliver_behind_records : (i : ℕ) →
      record_size * (deliver_outcome L last image port frame out).records ≤ i →
      get_or (deliver_outcome L last image port frame out).out i 0 ≡ get_or out i 0
  unfolding deliver_outcome
  deliver_behind_records i =
      either_way (deliver_number L last image port frame (length out)) image out _
      (λ o. record_size * o.records ≤ i → get_or o.out i 0 ≡ get_or out i 0)
      (λ far. get_d_put_records_after out 0 (delivery_of L last image port frame).records i (omega arith)) (λ n far. refl)

  -- and no buffer changes its length
  pub deliver_lengths :
      (length (deliver_outcome L last image port frame out).image ≡ length image)
      × (length (deliver_outcome L last image port frame out).out ≡ length out)
  unfolding deliver_outcome
  deliver_lengths =
      either_way (deliver_number L last image port frame (length out)) image out _
      (λ o. (length o.image ≡ length image) × (length o.out ≡ length out))
      (length_after L image _, length_put_records out 0 _) (λ n. (refl, refl))

  -- no byte of the image changes but mode, k, last echo and the port's row
  pub deliver_only : (i : ℕ) →
      Bytes image →
      (i ≡ mode_place → ⊥) →
      ((tick_place ≤ i) × (i < tick_place + 4) → ⊥) →
      ((sent_place ≤ i) × (i < sent_place + 4) → ⊥) →
      (InRow L image port i → ⊥) →
      get_or (deliver_outcome L last image port frame out).image i 0 ≡ get_or image i 0
  unfolding deliver_outcome image_after delivery_of delivered state_of
  deliver_only i bytes mode tick sent elsewhere =
      either_way (deliver_number L last image port frame (length out)) image out _ (λ o. get_or o.image i 0 ≡ get_or image i 0)
      (get_d_put_clock_other _ _ i mode tick sent
      ∙ credit_elsewhere L.masks L.window port (get_or frame 0 0) (field 4 frame 4) (get_or image 0 0) image image header_size i bytes
      (λ q p. refl) (λ k p s from to. elsewhere (record { row = k; listed = p; serial = s; from = from; to = to })))
      (λ n. refl)
