-- The roster form (01, "Layouts"): byte 0 n, byte 1 f, bytes 2..3 the offset of the serials, always 8, bytes 4..7 the own
-- serial, then n serials of 4 bytes. What its reader gives and what its writer leaves, for every input.
use Rattle.std.specs.Prelude.{◌≡◌, ℕ, ◌+◌, ◌-◌, ◌*◌, ◌/◌, Bool, cond, not, ◌||◌, length, get_or, take, ltb, eqb, Result, Ok, Err}
use mathlib.Core.List.{List, Permᴰ}
use Rattle.fields.specs.Field.{field, put_field, words, put_words}
use Rattle.forms.specs.Number.{number_of}
use Rattle.forms.specs.Roster.{roster_number}
use Rattle.forms.specs.declared.answer.Refusal.{Refusal}
use Rattle.forms.specs.declared.form.Form.{Form}

-- where the serials begin
abbrev pub serials_place : ℕ
serials_place = 8

-- the length of a form of n lines
abbrev pub form_size : ℕ → ℕ
form_size n = serials_place + 4 * n

-- the fields as they lie in the bytes
abbrev pub lines_of : List ℕ → ℕ
lines_of b = get_or b 0 0

abbrev pub faults_of : List ℕ → ℕ
faults_of b = get_or b 1 0

abbrev pub own_of : List ℕ → ℕ
own_of b = field 4 b 4

abbrev pub serials_of : List ℕ → List ℕ
serials_of b = words (lines_of b) 4 b serials_place

-- number 1: shorter than 8, offset not 8, or length not 8 + 4n
abbrev pub misplaced : List ℕ → Bool
misplaced b = ltb (length b) serials_place || not (eqb (field 2 b 2) serials_place) || not (eqb (length b) (form_size (lines_of b)))

unfoldable pub form_number : List ℕ → ℕ
form_number b = cond (misplaced b) 1 (roster_number (faults_of b) (own_of b) (serials_of b))

-- the same form with another fault number
abbrev pub restated : List ℕ → ℕ → List ℕ
restated b f = put_field 1 b 1 f

-- ---- the order of lines

-- the lines that the bytes hold, whatever n says: all whole words behind the front. A form of right length has n of them, and then they
-- are its serials; fewer than 4 bytes at the end are no line
abbrev pub lines_in : List ℕ → List ℕ
lines_in b = words ((length b - serials_place) / 4) 4 b serials_place

-- two forms that differ in the order of their lines only, be their length right or wrong
pub record Reordered (b c : List ℕ) : Type 0 where
  pub size : length b ≡ length c
  pub front : take serials_place b ≡ take serials_place c
  pub lines : Permᴰ (lines_in b) (lines_in c)

-- ---- the reader

-- number, n, f and own serial; with a refusal's number every field is 0. The serials are read by place, `serial_on` below
pub record FormTold : Type 0 where
  pub number : ℕ
  pub lines : ℕ
  pub faults : ℕ
  pub own : ℕ

abbrev pub refused_form : ℕ → FormTold
refused_form number = record { number = number; lines = 0; faults = 0; own = 0 }

unfoldable pub form_told : List ℕ → FormTold
form_told b =
    cond (eqb (form_number b) 0) (record { number = 0; lines = lines_of b; faults = faults_of b; own = own_of b })
    (refused_form (form_number b))

-- what an answer of the reader says
abbrev pub told_by : Result Form Refusal → FormTold
told_by (Ok form) = record { number = 0; lines = form.lines; faults = form.faults; own = form.own }
told_by (Err why) = refused_form (number_of why)

-- the serial on a line of a form that is taken; 0 of a form that is refused, and past the last line
unfoldable pub serial_on : List ℕ → ℕ → ℕ
serial_on b line = cond (eqb (form_number b) 0) (get_or (serials_of b) line 0) 0

-- ---- the writer

-- number, length written and every byte of the output at exit; shared by all writers
pub record WriteTold : Type 0 where
  pub number : ℕ
  pub written : ℕ
  pub out : List ℕ

-- what a writer tells that wrote so many bytes, and one that refused: length written 0
abbrev pub done_write : ℕ → List ℕ → WriteTold
done_write size out = record { number = 0; written = size; out = out }

abbrev pub refused_write : ℕ → List ℕ → WriteTold
refused_write number out = record { number = number; written = 0; out = out }

abbrev pub written_by : Result ℕ Refusal → List ℕ → WriteTold
written_by (Ok count) out = done_write count out
written_by (Err why) out = refused_write (number_of why) out

-- 7, last, when the output is shorter than what would be written; a refusal changes no byte
abbrev pub write_told : ℕ → ℕ → List ℕ → List ℕ → WriteTold
write_told number size before after =
    cond (eqb number 0) (cond (ltb (length before) size) (refused_write 7 before) (done_write size after)) (refused_write number before)

-- the form of a roster, written over the front of the output; bytes behind it stay
unfoldable pub put_form : List ℕ → ℕ → ℕ → List ℕ → List ℕ
put_form out f own serials =
    put_words 4
    (put_field 4 (put_field 2 (put_field 1 (put_field 1 out 0 (length serials)) 1 f) 2 serials_place) 4 own)
    serials_place serials

unfoldable pub form_written : ℕ → ℕ → List ℕ → List ℕ → WriteTold
form_written f own serials out = write_told (roster_number f own serials) (form_size (length serials)) out (put_form out f own serials)
