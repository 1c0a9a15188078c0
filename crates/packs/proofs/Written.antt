-- What the writer of a sheet tells, in the bytes that it is given: it has as many entries as they have room for.
-- Assumes nothing.
use mathlib.Core.Path.{◌≡◌, ap, ◌∙◌}
use mathlib.Core.Bool.{cond}
use mathlib.Core.List.{List}
use Prim.Native.Nat.{ℕ, ◌-◌, ◌/◌}
use native.Mathlib.Omega.{arith}
use lib.ListN.{length}
use Rattle.fields.specs.Field.{put_field}
use Rattle.forms.specs.Form.{write_told}
use Rattle.packs.specs.Sheet.{entries_place, entry_size, sheet_size, entries_in, entries_number}
use Rattle.packs.specs.Writer.{ascending, put_entries, put_sheet, entries_given, unfit, write_number, sheet_written}
use Rattle.packs.specs.declared.sheet.Entry.{Entry}
use Rattle.packs.proofs.Runs.{length_entries_in}

-- as many entries as the bytes have room for
abbrev given : List ℕ → List Entry
given bytes = entries_in (length bytes / entry_size) bytes 0

given-all : (bytes : List ℕ) → entries_given bytes ≡ given bytes
given-all bytes = let e : length bytes - 0 ≡ length bytes = omega arith in ap (λ (n : ℕ). entries_in (n / entry_size) bytes 0) e

size : (bytes : List ℕ) → length (entries_given bytes) ≡ length bytes / entry_size
size bytes = ap (λ (es : List Entry). length es) (given-all bytes) ∙ length_entries_in (length bytes / entry_size) bytes 0

pub sheet_written_lem : (bytes out : List ℕ) →
    let n = length bytes / entry_size in
    sheet_written bytes out
    ≡ write_told (cond (unfit bytes) 14 (entries_number (given bytes))) (sheet_size n) out
    (put_entries (put_field 2 (put_field 2 out 0 n) 2 entries_place) entries_place (ascending (given bytes)))
unfolding sheet_written write_number put_sheet
sheet_written_lem bytes out = rw (size bytes, given-all bytes)
