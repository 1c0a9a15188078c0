-- What the functions of this crate ask of one another: no reader has to believe this, since the contracts of the public ones ask nothing.
use Rattle.std.specs.Prelude.{◌≡◌, ℕ, ◌+◌, ◌*◌, ◌≤◌, List, Bool, length}
use Rattle.packs.specs.Sheet.{entry_size, most_entries}
use Rattle.packs.specs.declared.sheet.Entry.{Entry}

-- what a run of entries asks of the bytes that it lies in: no more than a sheet may have, inside the bytes
pub record Lines (b : List ℕ) (i n : ℕ) : Type 0 where
  pub few : n ≤ most_entries
  pub inside : i + n * entry_size ≤ length b

-- a test of entries that a closure makes: whatever a call of it may answer is what the test says
abbrev pub Makes : (Entry → Bool → Type 0) → (Entry → Bool) → Type 0
Makes answers test = (e : Entry) (r : Bool) → answers e r → r ≡ test e
