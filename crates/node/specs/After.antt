-- What an accepted call leaves: a sound image, of the length it had, which holds just the node that the definitions on lists give; and
-- which bytes of it belong to a serial.
use Rattle.std.specs.Prelude.{ℕ, ◌+◌, ◌*◌, ◌≤◌, ◌<◌, ◌≡◌, true, List, length, get_or}
use Rattle.fields.specs.Field.{field}
use Rattle.evidence.specs.Rows.{row_size}
use Rattle.rules.specs.Delivery.{Delivered}
use Rattle.node.specs.Calls.{fresh_state}
use Rattle.node.specs.Image.{state_of, sound_image}
use Rattle.node.specs.Layout.{header_size}
use Rattle.node.specs.declared.layout.Layout.{Layout}

-- after boot: the fresh node of the form
pub record Begins (L : Layout) (last : ℕ) (image form next : List ℕ) : Type 0 where
  pub sound : sound_image L last next ≡ true
  pub state : state_of L next ≡ fresh_state form
  pub size : length next ≡ length image

-- after a delivery: the node that follows
pub record Follows (L : Layout) (last : ℕ) (image : List ℕ) (d : Delivered) (next : List ℕ) : Type 0 where
  pub sound : sound_image L last next ≡ true
  pub state : state_of L next ≡ d.state
  pub size : length next ≡ length image

-- byte i of the image lies in a row whose serial is the port's
pub record InRow (L : Layout) (image : List ℕ) (port i : ℕ) : Type 0 where
  pub row : ℕ
  pub listed : row < get_or image 0 0
  pub serial : field 4 image (header_size + row * row_size L.masks) ≡ port
  pub from : header_size + row * row_size L.masks ≤ i
  pub to : i < header_size + row * row_size L.masks + row_size L.masks
