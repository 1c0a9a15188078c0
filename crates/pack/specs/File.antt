-- What reading a file promises: what came stood in the buffer. Which bytes they are no contract can say.
use Rattle.std.specs.Prelude.{ℕ, List, ◌≤◌, Option, IfSome, length}
use Rattle.std.specs.Borrow.{Bor}

abbrev pub Within : Option (Bor (List ℕ)) → ℕ → Type 0
Within contents room = IfSome contents (λ bytes. length bytes.now ≤ room)
