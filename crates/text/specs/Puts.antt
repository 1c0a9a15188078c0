-- Text that was laid over an output from place i on: the place behind it, no further than a given room, and every byte of the output.
-- What is put on a page is put so (Page), and so a caller's output is filled.
use Rattle.std.specs.Prelude.{◌≡◌, List, ℕ, ◌+◌, ◌≤◌, length}
use Rattle.text.specs.Lay.{lay}

pub record Puts (out : List ℕ) (i : ℕ) (text : List ℕ) (room : ℕ) (after : List ℕ) (next : ℕ) : Type 0 where
  pub behind : next ≡ i + length text
  pub within : next ≤ i + room
  pub left : after ≡ lay out i text
