-- Two images that are alike in all but the order of their rows: what demand 3 comes to, from boot on, after every call.
use Rattle.std.specs.Prelude.{◌≡◌, true, ℕ}
use mathlib.Core.List.{List, Permᴰ}
use Rattle.fields.specs.Field.{Bytes}
use Rattle.rules.specs.Delivery.{State}
use Rattle.node.specs.Image.{state_of, sound_image}
use Rattle.node.specs.declared.layout.Layout.{Layout}

-- two states with the same node, and the same rows in some order
pub record Matched (s t : State) : Type 0 where
  pub node : s.node ≡ t.node
  pub rows : Permᴰ s.rows t.rows

-- two sound images that hold such states
pub record Pair (L : Layout) (last : ℕ) (a b : List ℕ) : Type 0 where
  pub first : sound_image L last a ≡ true
  pub second : sound_image L last b ≡ true
  pub bytes₁ : Bytes a
  pub bytes₂ : Bytes b
  pub same : Matched (state_of L a) (state_of L b)
