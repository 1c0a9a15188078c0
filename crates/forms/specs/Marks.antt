-- The marks of buckets as the code keeps them, a bit for each: of bucket k bit k % 64 of word k / 64.
use Rattle.std.specs.Prelude.{ℕ, ◌/◌, ◌%◌, List, get_or, map}
use Rattle.std.specs.Int.{bit_at}
use Rattle.std.specs.List.{range_with_len}
use Rattle.forms.specs.Tally.{buckets}

unfoldable pub mark : List ℕ → ℕ → ℕ
mark words k = bit_at (get_or words (k / 64) 0) (k % 64)

unfoldable pub marks : List ℕ → List ℕ
marks words = map (mark words) (range_with_len 0 buckets)
