-- What the desk's program prints about a question: a line that says how the pack stands, or the number of the refusal.
use Rattle.std.specs.Prelude.{ℕ, ◌+◌, List, [], ◌∷◌, ◌++◌, cond, length, eqb}
use Rattle.text.specs.Characters.{ascii, newline}
use Rattle.text.specs.Decimal.{most_digits, decimal}
use Rattle.packs.specs.Number.{not_in_force, in_force}
use Rattle.packs.specs.Question.{PackTold}

-- how a pack stands, in words
unfoldable pub standing : ℕ → List ℕ
standing licence =
    cond (eqb licence in_force) (ascii "in force") (cond (eqb licence not_in_force) (ascii "not in force") (ascii "not licensed"))

unfoldable pub refusal : ℕ → List ℕ
refusal number = ascii "refused " ++ decimal number

-- what an answer says, without the newline
unfoldable pub words : PackTold → List ℕ
words told = cond (eqb told.number 0) (standing told.licence) (refusal told.number)

unfoldable pub line : PackTold → List ℕ
line told = words told ++ (newline ∷ [])

-- the most bytes of the words, 18: those of a refusal whose number has ten digits
abbrev pub words_room : ℕ
words_room = length (ascii "refused ") + most_digits

-- and with the newline, 19
abbrev pub line_room : ℕ
line_room = words_room + 1
