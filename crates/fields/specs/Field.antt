-- Big-endian fields in a list of bytes (01, "Layouts"): the number in w bytes, a number written over w bytes, and the
-- column of words that stand a fixed distance apart, as the serials do in a form (4 apart) and in an image (a row apart).
-- One definition serves every width. A byte past the end of the list counts as 0, and a store past the end is none;
-- no contract of a reader or writer ever comes to rest on either.
use Rattle.std.specs.Prelude.{ℕ, zero, suc, ◌+◌, ◌*◌, ◌/◌, ◌%◌, ◌<◌, List, [], ◌∷◌, get_or, set}

-- the number in the w bytes of b from place i on
unfoldable pub field : ℕ → List ℕ → ℕ → ℕ
field zero b i = 0
field (suc w) b i = field w b i * 256 + get_or b (i + w) 0

-- b with the low 8 w bits of v written over the w bytes from place i on
unfoldable pub put_field : ℕ → List ℕ → ℕ → ℕ → List ℕ
put_field zero b i v = b
put_field (suc w) b i v = set (put_field w b i (v / 256)) (i + w) (v % 256)

-- the n words of 4 bytes that stand at place i, i + stride, i + 2 stride ..
unfoldable pub words : ℕ → ℕ → List ℕ → ℕ → List ℕ
words zero stride b i = []
words (suc n) stride b i = field 4 b i ∷ words n stride b (i + stride)

-- b with the words vs written at place i, i + stride, ..
unfoldable pub put_words : ℕ → List ℕ → ℕ → List ℕ → List ℕ
put_words stride b i [] = b
put_words stride b i (v ∷ vs) = put_words stride (put_field 4 b i v) (i + stride) vs

-- every element is a byte. A slice of u8 is such a list; a list of a theorem has to say so
abbrev pub Bytes : List ℕ → Type 0
Bytes b = (i : ℕ) → get_or b i 0 < 256
