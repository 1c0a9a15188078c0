-- What is put on a page: text behind what is written, no longer than a given room, and every byte of the output; and the page stays one
-- of that output. The contract of every function that puts text.
use Rattle.std.specs.Prelude.{◌≡◌, List, ℕ, ◌+◌, ◌≤◌, length}
use Rattle.text.specs.Puts.{Puts}
use Rattle.text.specs.declared.page.Page.{Page}

-- a page has so much room left
abbrev pub Fits : Page → ℕ → Type 0
Fits page room = page.len + room ≤ length page.out.now

pub record Wrote (old : Page) (text : List ℕ) (room : ℕ) (new : Page) : Type 0 where
  pub same_output : new.out.ghost_name ≡ old.out.ghost_name
  pub same_length : length new.out.now ≡ length old.out.now
  pub puts : Puts old.out.now old.len text room new.out.now new.len
