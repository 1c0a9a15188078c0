-- Rows as they lie in an image's bytes (01, "Layouts"): serial (4), echo top (4), echo mask, init top (4), init mask; and the
-- update of a row by a frame. How many bytes a mask has, mb, is a parameter of every definition, so that an image with
-- wider masks is another value of the same layout.
use Rattle.std.specs.Prelude.{ℕ, zero, suc, ◌+◌, ◌*◌, List, [], ◌∷◌, map, Bool, true, cond, ◌&&◌, eqb, leb}
use Rattle.fields.specs.Field.{field, put_field}
use Rattle.fields.specs.Kind.{ECHO}
use Rattle.sets.specs.Sets.{mask_bytes}
use Rattle.sets.specs.Ticks.{Held, empty, add, proper}

-- what is held from one sender
pub record Row : Type 0 where
  pub serial : ℕ
  pub echo : Held
  pub init : Held

abbrev pub row_with : ℕ → Held → Held → Row
row_with serial echo init = record { serial = serial; echo = echo; init = init }

-- stands for a row where there is none
abbrev pub no_row : Row
no_row = row_with 0 empty empty

-- bytes of a set, and of a row
abbrev pub set_size : ℕ → ℕ
set_size mb = 4 + mb

abbrev pub row_size : ℕ → ℕ
row_size mb = 4 + 2 * set_size mb

-- in service the masks are those of the code's struct
abbrev pub set_bytes : ℕ
set_bytes = set_size mask_bytes

abbrev pub row_bytes : ℕ
row_bytes = row_size mask_bytes

-- where in its row a set stands: the echo set behind the serial, the init set behind that
abbrev pub echo_place : ℕ
echo_place = 4

abbrev pub init_place : ℕ → ℕ
init_place mb = echo_place + set_size mb

-- the set of a kind, and its place
unfoldable pub set_of : ℕ → Row → Held
set_of kind row = cond (eqb kind ECHO) row.echo row.init

unfoldable pub place_of_set : ℕ → ℕ → ℕ
place_of_set mb kind = cond (eqb kind ECHO) echo_place (init_place mb)

-- ---- bytes to rows

unfoldable pub set_at : ℕ → List ℕ → ℕ → Held
set_at mb b i = record { top = field 4 b i; mask = field mb b (i + 4) }

unfoldable pub row_at : ℕ → List ℕ → ℕ → Row
row_at mb b i = record { serial = field 4 b i; echo = set_at mb b (i + echo_place); init = set_at mb b (i + init_place mb) }

-- the n rows from place i on
unfoldable pub rows_at : ℕ → ℕ → List ℕ → ℕ → List Row
rows_at mb zero b i = []
rows_at mb (suc n) b i = row_at mb b i ∷ rows_at mb n b (i + row_size mb)

-- ---- rows to bytes

unfoldable pub put_set : ℕ → List ℕ → ℕ → Held → List ℕ
put_set mb b i s = put_field mb (put_field 4 b i s.top) (i + 4) s.mask

unfoldable pub put_row_bytes : ℕ → List ℕ → ℕ → Row → List ℕ
put_row_bytes mb b i row =
    put_set mb (put_set mb (put_field 4 b i row.serial) (i + echo_place) row.echo) (i + init_place mb) row.init

unfoldable pub put_rows : ℕ → List ℕ → ℕ → List Row → List ℕ
put_rows mb b i [] = b
put_rows mb b i (row ∷ rows) = put_rows mb (put_row_bytes mb b i row) (i + row_size mb) rows

-- ---- the rows after a frame

unfoldable pub credit_row : ℕ → ℕ → ℕ → Row → Row
credit_row w kind j row =
    cond (eqb kind ECHO)
    (record { serial = row.serial; echo = add w kind row.echo j; init = row.init })
    (record { serial = row.serial; echo = row.echo; init = add w kind row.init j })

-- the frame (kind, j) credited to the sender with this serial, wherever its row stands
unfoldable pub credit_of : ℕ → ℕ → ℕ → ℕ → Row → Row
credit_of w serial kind j row = cond (eqb row.serial serial) (credit_row w kind j row) row

unfoldable pub credit : ℕ → ℕ → ℕ → ℕ → List Row → List Row
credit w serial kind j rows = map (credit_of w serial kind j) rows

-- ---- rows as a sound image may hold them: every set proper, its top at most the last tick

unfoldable pub proper_set : ℕ → ℕ → Held → Bool
proper_set w last s = leb s.top last && proper w s

unfoldable pub proper_rows : ℕ → ℕ → List Row → Bool
proper_rows w last [] = true
proper_rows w last (row ∷ rows) = proper_set w last row.echo && (proper_set w last row.init && proper_rows w last rows)
