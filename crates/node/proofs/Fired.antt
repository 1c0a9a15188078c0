-- How many rules a call fires and how many records it sends (02, A6), whatever is handed in: a refusal fires none and sends none, and
-- boot fires none. Over the layout and the last tick.
-- Assumes nothing.
use mathlib.Core.Path.{◌≡◌, refl}
use mathlib.Core.List.{List}
use Prim.Native.Nat.{ℕ, ◌+◌, ◌≤◌, ◌<◌}
use native.Mathlib.Omega.{arith}
use lib.ListN.{length}
use Rattle.fields.specs.Field.{Bytes}
use Rattle.sets.specs.Sets.{tick_count}
use Rattle.rules.proofs.AtRest.{firings_alone, firings_together, records_alone, records_together}
use Rattle.rules.proofs.Sent.{delivered_few}
use Rattle.node.specs.Calls.{Outcome, boot_number, booted, deliver_number, delivery_of, deliver_outcome}
use Rattle.node.specs.Image.{node_of, state_of}
use Rattle.node.specs.declared.layout.Layout.{Layout}
use Rattle.node.proofs.Outcomes.{any_outcome, either_way}
use Rattle.node.proofs.SoundImages.{Works, delivery_firings, delivery_records}

pub none_fired : (L : Layout) (form image out : List ℕ) → (booted L form image out).fired ≡ 0
unfolding booted
none_fired L form image out =
    either_way (boot_number L form (length image) (length out)) image out _ (λ o. o.fired ≡ 0) refl (λ n. refl)

module _ (L : Layout) (last : ℕ) (image : List ℕ) (port : ℕ) (frame out : List ℕ) where
  abbrev call : Outcome
  call = deliver_outcome L last image port frame out

  abbrev number : ℕ
  number = deliver_number L last image port frame (length out)

  -- a record for each firing at most, and the answer
  pub records_for_firings : call.records ≤ call.fired + 1
  unfolding deliver_outcome delivery_of
  records_for_firings =
      either_way number image out _ (λ o. o.records ≤ o.fired + 1) (delivered_few L.window last (state_of L image) port _)
      (λ n. omega arith)

  module _ (works : Works L) (small : last < tick_count) (bytes : Bytes image) where
    pub few_always : (call.fired ≤ firings_alone) × (call.records ≤ records_alone)
    unfolding deliver_outcome
    few_always =
        any_outcome number image out _ (λ o. (o.fired ≤ firings_alone) × (o.records ≤ records_alone))
        (λ e. (
          (delivery_firings L last works small image port frame (length out) bytes e).0,
          (delivery_records L last works small image port frame (length out) bytes e).0,
        ))
        (λ n. omega arith)

    pub few_together : 2 ≤ (node_of image).lines → (call.fired ≤ firings_together) × (call.records ≤ records_together)
    unfolding deliver_outcome state_of
    few_together others =
        any_outcome number image out _ (λ o. (o.fired ≤ firings_together) × (o.records ≤ records_together))
        (λ e. (
          (delivery_firings L last works small image port frame (length out) bytes e).1 others,
          (delivery_records L last works small image port frame (length out) bytes e).1 others,
        ))
        (λ n. omega arith)
