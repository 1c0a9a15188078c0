-- Characters as their ASCII codes, which are the bytes of a text.
use Rattle.std.specs.Prelude.{ℕ, List, [], ◌∷◌}
use Prim.Native.Char.{code}
use Prim.Native.String.{String, [] as end, ◌∷◌ as ◌then◌}

abbrev pub blank : ℕ
blank = 32

abbrev pub newline : ℕ
newline = 10

-- the bytes of a text of ASCII characters
abbrev pub ascii : String → List ℕ
ascii end = []
ascii (c then s) = code c ∷ ascii s
