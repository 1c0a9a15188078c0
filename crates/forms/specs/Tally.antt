-- What one way through a column tells of its numbers, as the code gives it, and the buckets by which it looks for twins.
use Rattle.std.specs.Prelude.{ℕ, ◌*◌, ◌/◌, ◌%◌, ◌≡◌, List}
use Rattle.forms.specs.Column.{count, twins}
use Rattle.forms.specs.declared.column.Tally.{Tally}

pub record Tallied (x : ℕ) (numbers : List ℕ) (r : Tally) : Type 0 where
  pub zeros : r.zeros ≡ count 0 numbers
  pub same : r.same ≡ count x numbers
  pub twins : r.twins ≡ twins numbers

-- ---- buckets, by which twins are looked for

-- how many there are
abbrev pub buckets : ℕ
buckets = 256

-- the bucket of a number: the top byte of the low word of its product with 2^32 over the golden ratio. Numbers of one fleet or of one
-- list of packs are often near each other, and those fall far apart. Which bucket it is decides how long a search takes and no answer.
unfoldable pub bucket_of : ℕ → ℕ
bucket_of x = x * 2654435769 / 16777216 % buckets
