-- The two kinds of a frame by name (01, "Layouts"): every layer above speaks of them by these.
use Rattle.std.specs.Prelude.{ℕ}

abbrev pub INIT : ℕ
INIT = 1

abbrev pub ECHO : ℕ
ECHO = 2
