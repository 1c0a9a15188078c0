-- The clock over a node's whole life: once read gives a clock it gives one for ever, and the clock never falls. Any calls from any
-- senders, refused ones among them. Over the layout and the last tick.
-- Assumes nothing.
use mathlib.Core.Path.{◌≡◌, refl, sym, ap, subst}
use mathlib.Core.List.{List, [], ◌∷◌}
use Prim.Native.Nat.{ℕ, ◌≤◌, ◌<◌}
use native.Mathlib.Decide.{ℕ_discrete}
use native.Mathlib.Omega.{arith}
use lib.ListN.{length}
use Rattle.fields.specs.Field.{Bytes}
use Rattle.sets.specs.Sets.{tick_count}
use Rattle.rules.specs.Clock.{Ordered}
use Rattle.rules.specs.Delivery.{State}
use Rattle.node.specs.After.{Follows}
use Rattle.node.specs.Calls.{deliver_number, delivery_of, image_after, deliver_outcome, reading}
use Rattle.node.specs.Heard.{image_left}
use Rattle.node.specs.Image.{node_of, state_of}
use Rattle.node.specs.declared.layout.Layout.{Layout}
use Rattle.node.specs.Runs.{Call, Deliver, Read, called}
use Rattle.node.proofs.Conditions.{sound_says}
use Rattle.node.proofs.Heard.{bytes_called}
use Rattle.node.proofs.Numbers.{read_says}
use Rattle.node.proofs.Outcomes.{deliver_done_lem, deliver_refused, read_done}
use Rattle.node.proofs.SoundImages.{Works, delivery_sound, delivery_ordered}

-- read gives a clock of the second image, and one not below that of the first
abbrev Later : Layout → ℕ → List ℕ → List ℕ → Type 0
Later L last image next = ((reading L last next).number ≡ 0) × ((reading L last image).clock ≤ (reading L last next).clock)

module _ (L : Layout) (last : ℕ) (works : Works L) (small : last < tick_count) where
  -- a frame that is taken
  delivery_later :
      (image : List ℕ) (port : ℕ) (frame : List ℕ) (out_length : ℕ)
      → Bytes image
      → deliver_number L last image port frame out_length ≡ 0
      → (reading L last image).number ≡ 0
      → Later L last image (image_after L image (delivery_of L last image port frame))
  unfolding state_of node_of
  delivery_later image port frame out_length bytes e ok =
      (given, omega (arith, read_done L last image ok, read_done L last next given, order.later))
    where
      next : List ℕ
      next = image_after L image (delivery_of L last image port frame)

      follows : Follows L last image (delivery_of L last image port frame) next
      follows = delivery_sound L last works small image port frame out_length bytes e

      order : Ordered last (node_of image) (node_of next)
      order =
          subst (Ordered last (node_of image)) (sym (ap (λ (s : State). s.node) follows.state))
          (delivery_ordered L last works small image port frame out_length bytes e)

      -- a node that is active stays so
      given : (reading L last next).number ≡ 0
      given =
          ((read_says L last next).exactly 0).1 (
            (λ unsound. unsound ((sound_says L last next).0 follows.sound)),
            ((λ passive. (((read_says L last image).exactly 0).0 ok).1.0 (omega (arith, order.active))), refl),
          )

  call_later :
      (image : List ℕ) (call : Call)
      → Bytes image
      → (reading L last image).number ≡ 0
      → Later L last image (called L last image call).image
  unfolding called
  call_later image Read bytes ok = (ok, omega arith)
  call_later image (Deliver port frame out) bytes ok = go (ℕ_discrete (deliver_number L last image port frame (length out)) 0)
    where
      go : Dec (deliver_number L last image port frame (length out) ≡ 0) →
          Later L last image (deliver_outcome L last image port frame out).image
      go (yes e) = rw (deliver_done_lem L last image port frame out e) (delivery_later image port frame (length out) bytes e ok)
      go (no n) = rw (deliver_refused L last image port frame out n) ((ok, omega arith))

  -- an image that read gives a clock of, and the one left after any calls
  pub calls_later :
      (image : List ℕ) (calls : List Call)
      → Bytes image
      → (reading L last image).number ≡ 0
      → Later L last image (image_left L last image calls)
  unfolding image_left
  calls_later image [] bytes ok = (ok, omega arith)
  calls_later image (call ∷ calls) bytes ok =
      let one = call_later image call bytes ok in
      let rest = calls_later (called L last image call).image calls (bytes_called L last image call bytes) one.0 in
      (rest.0, omega (arith, one.1, rest.1))
