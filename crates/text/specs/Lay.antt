-- Bytes laid over a list: what every writer of text leaves of its output.
use Rattle.std.specs.Prelude.{ℕ, ◌+◌, List, ◌++◌, length, take, drop}

-- bytes laid over a list from place i on; what stands behind stays
unfoldable pub lay : List ℕ → ℕ → List ℕ → List ℕ
lay out i bytes = take i out ++ bytes ++ drop (i + length bytes) out
