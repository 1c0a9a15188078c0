-- The definitions at work on small sheets and on the edges of A1, computed by the checker: what a reader can compare with the paper.
-- Assumes nothing.
use mathlib.Core.Path.{◌≡◌, refl}
use mathlib.Core.Bool.{false}
use Prim.Native.Nat.{ℕ, ◌+◌, ◌*◌}
use mathlib.Core.List.Permᴰ
use mathlib.Core.List.{List, [], ◌∷◌, ◌++◌}
use lib.ListN.{replicate}
use Rattle.fields.specs.Field.{field, put_field}
use Rattle.forms.specs.Column.{how_many, count, twins}
use Rattle.rules.specs.Describe.{last_tick}
use Rattle.node.specs.Calls.{read_number}
use Rattle.node.specs.Image.{fixed_header, headed, sound_image}
use Rattle.node.specs.Layout.{layout}
use Rattle.packs.specs.Number.{not_licensed, not_in_force, in_force}
use Rattle.packs.specs.Sheet.{entry_size, most_entries, entries_in, entries_of, packs, entries_number}
use Rattle.packs.specs.Sheet.{entries_place, misplaced, sheet_number, sheet_told, entry_on, Reordered}
use Rattle.packs.specs.Question.{licence, refused_pack, pack_number, pack_told}
use Rattle.packs.specs.Writer.{insert, ascending, put_entry_bytes, put_entries, put_sheet, write_number, sheet_written}

-- the bytes of an entry of small numbers
abbrev line : ℕ → ℕ → ℕ → List ℕ
line pack first end = 0 ∷ 0 ∷ 0 ∷ pack ∷ 0 ∷ 0 ∷ 0 ∷ first ∷ 0 ∷ 0 ∷ 0 ∷ end ∷ []

-- the bytes of a sheet with a small count and offset in front of these bytes
abbrev sheet : ℕ → ℕ → List ℕ → List ℕ
sheet entries offset lines = 0 ∷ entries ∷ 0 ∷ offset ∷ lines

-- pack 9 is licensed from tick 20 to tick 29, pack 7 never, since it ends where it begins
two : List ℕ
two =
    0 ∷ 2 ∷ 0 ∷ 4
    ∷ 0 ∷ 0 ∷ 0 ∷ 9 ∷ 0 ∷ 0 ∷ 0 ∷ 20 ∷ 0 ∷ 0 ∷ 0 ∷ 30
    ∷ 0 ∷ 0 ∷ 0 ∷ 7 ∷ 0 ∷ 0 ∷ 3 ∷ 232 ∷ 0 ∷ 0 ∷ 3 ∷ 232
    ∷ []

taken : sheet_told two ≡ record { number = 0; count = 2 }
unfolding two sheet_told sheet_number entries_number entries_in packs how_many count twins field
taken = refl

-- its entries exchanged
exchanged : List ℕ
exchanged =
    0 ∷ 2 ∷ 0 ∷ 4
    ∷ 0 ∷ 0 ∷ 0 ∷ 7 ∷ 0 ∷ 0 ∷ 3 ∷ 232 ∷ 0 ∷ 0 ∷ 3 ∷ 232
    ∷ 0 ∷ 0 ∷ 0 ∷ 9 ∷ 0 ∷ 0 ∷ 0 ∷ 20 ∷ 0 ∷ 0 ∷ 0 ∷ 30
    ∷ []

reordered : Reordered entries_place two exchanged
unfolding two exchanged entries_in field
reordered = record { size = refl; front = refl; entries = Permᴰ.swap refl refl }

-- an image that is refused is refused first, whatever the sheet is
image_first : pack_told layout last_tick [] 9 [] ≡ refused_pack 8
unfolding pack_told pack_number read_number sound_image headed fixed_header
image_first = refl

-- line by line, and past the last line
lines :
    (entry_on two 0 ≡ record { pack = 9; first = 20; end = 30 }) × (entry_on two 1 ≡ record { pack = 7; first = 1000; end = 1000 })
    × (entry_on two 2 ≡ record { pack = 0; first = 0; end = 0 })
unfolding two entry_on sheet_number entries_number entries_in packs how_many count twins field
lines = (refl, refl, refl)

-- pack 9 right before its first tick, at it, at its last, and at its end; pack 7 at its first; a pack that is not there, and pack 0
standing :
    (licence 9 19 (entries_of two) ≡ not_in_force) × (licence 9 20 (entries_of two) ≡ in_force)
    × (licence 9 29 (entries_of two) ≡ in_force) × (licence 9 30 (entries_of two) ≡ not_in_force)
    × (licence 7 1000 (entries_of two) ≡ not_in_force) × (licence 8 20 (entries_of two) ≡ not_licensed)
    × (licence 0 0 (entries_of two) ≡ not_licensed)
unfolding two licence entries_in packs how_many count field
standing = (refl, refl, refl, refl, refl, refl, refl)

-- 14: a length one less or one more, another offset, a count that the length does not bear out, no whole header, 201 entries; 200 are
-- a layout
layouts :
    (sheet_number (sheet 1 4 (0 ∷ 0 ∷ 0 ∷ 9 ∷ 0 ∷ 0 ∷ 0 ∷ 20 ∷ 0 ∷ 0 ∷ 0 ∷ [])) ≡ 14)
    × (sheet_number (sheet 1 4 (line 9 20 30 ++ 0 ∷ [])) ≡ 14)
    × (sheet_number (sheet 1 5 (line 9 20 30)) ≡ 14)
    × (sheet_number (sheet 1 5 (line 9 20 30 ++ 0 ∷ [])) ≡ 14)
    × (sheet_number (sheet 2 4 (line 9 20 30)) ≡ 14)
    × (sheet_number (0 ∷ 0 ∷ 0 ∷ []) ≡ 14)
    × (sheet_number (sheet (most_entries + 1) 4 (replicate ((most_entries + 1) * entry_size) 0)) ≡ 14)
    × (misplaced (sheet most_entries 4 (replicate (most_entries * entry_size) 0)) ≡ false)
unfolding sheet_number field
layouts = (refl, refl, refl, refl, refl, refl, refl, refl)

-- 15: pack 0; a pack that stands twice, even behind an entry with first above end. 16: first above end. 0: no entry at all
entries :
    (sheet_number (sheet 1 4 (line 0 20 30)) ≡ 15)
    × (sheet_number (sheet 2 4 (line 9 20 30 ++ line 9 40 50)) ≡ 15)
    × (sheet_number (sheet 3 4 (line 5 31 30 ++ line 9 20 30 ++ line 9 40 50)) ≡ 15)
    × (sheet_number (sheet 2 4 (line 5 31 30 ++ line 0 20 30)) ≡ 15)
    × (sheet_number (sheet 2 4 (line 5 30 30 ++ line 9 31 30)) ≡ 16)
    × (sheet_number (sheet 0 4 []) ≡ 0)
unfolding sheet_number entries_number entries_in packs how_many count twins field
entries = (refl, refl, refl, refl, refl, refl)

-- two entries given in descending order, written over 29 bytes: the sheet, and the byte behind it stays
written :
    sheet_written (line 9 20 30 ++ line 7 40 50) (replicate 29 255)
    ≡ record { number = 0; written = 28; out = sheet 2 4 (line 7 40 50 ++ line 9 20 30 ++ 255 ∷ []) }
unfolding sheet_written write_number put_sheet put_entries put_entry_bytes put_field ascending insert
    entries_number entries_in packs how_many count twins field
written = refl

-- the writer's numbers: 14 for a byte too many and for 201 entries, 15, 16, and 7 last
refused :
    ((sheet_written (line 9 20 30 ++ 0 ∷ []) (replicate 15 255)).number ≡ 14)
    × ((sheet_written (replicate ((most_entries + 1) * entry_size) 0) []).number ≡ 14)
    × ((sheet_written (line 5 31 30 ++ line 9 20 30 ++ line 9 40 50) []).number ≡ 15)
    × ((sheet_written (line 9 31 30) []).number ≡ 16)
    × (sheet_written (line 9 20 30) (replicate 15 255) ≡ record { number = 7; written = 0; out = replicate 15 255 })
unfolding sheet_written write_number entries_number entries_in packs how_many count twins field
refused = (refl, refl, refl, refl, refl)
