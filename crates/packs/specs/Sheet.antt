-- The pack sheet (02, A1): two numbers of 2 bytes, how many entries there are and where they begin, and then the entries, three numbers of
-- 4 bytes each. An entry licenses its pack from the tick first on, and until the tick before end. What the reader of a sheet gives, for
-- every input. 15 and 16 look at the entries through counts alone, 15 at all of them before 16 at any, so their order decides nothing.
use Rattle.std.specs.Prelude.{◌≡◌, ℕ, zero, suc, ◌+◌, ◌-◌, ◌*◌, ◌/◌, Bool, cond, not, ◌||◌, length, get_or, take, ltb, eqb}
use Rattle.std.specs.Prelude.{Result, Ok, Err}
use mathlib.Core.List.{List, [], ◌∷◌, Permᴰ}
use Rattle.fields.specs.Field.{field}
use Rattle.forms.specs.Column.{how_many, count, twins}
use Rattle.packs.specs.Number.{number_of}
use Rattle.packs.specs.declared.answer.Refusal.{Refusal}
use Rattle.packs.specs.declared.sheet.Entry.{Entry}

-- ---- places, sizes and limits

-- the entries stand behind the count and the offset
abbrev pub entries_place : ℕ
entries_place = 4

-- in an entry first stands behind the pack number, and end behind first
abbrev pub first_place : ℕ
first_place = 4

abbrev pub end_place : ℕ
end_place = 8

abbrev pub entry_size : ℕ
entry_size = 12

abbrev pub most_entries : ℕ
most_entries = 200

-- the length of a sheet of n entries
abbrev pub sheet_size : ℕ → ℕ
sheet_size n = entries_place + entry_size * n

-- ---- entries as they lie in the bytes

abbrev pub entry_in_bytes : List ℕ → ℕ → Entry
entry_in_bytes b i = record { pack = field 4 b i; first = field 4 b (i + first_place); end = field 4 b (i + end_place) }

-- the n entries from place i on
unfoldable pub entries_in : ℕ → List ℕ → ℕ → List Entry
entries_in zero b i = []
entries_in (suc n) b i = entry_in_bytes b i ∷ entries_in n b (i + entry_size)

abbrev pub count_of : List ℕ → ℕ
count_of b = field 2 b 0

abbrev pub offset_of : List ℕ → ℕ
offset_of b = field 2 b 2

abbrev pub entries_of : List ℕ → List Entry
entries_of b = entries_in (count_of b) b entries_place

-- ---- numbers 14 to 16

unfoldable pub packs : List Entry → List ℕ
packs [] = []
packs (e ∷ es) = e.pack ∷ packs es

-- first above end. Equal ones are allowed: such a pack is never in force
abbrev pub backward : Entry → Bool
backward e = ltb e.end e.first

-- a pack number stands twice
abbrev pub twice : List Entry → Bool
twice es = ltb 0 (twins (packs es))

-- 15: a pack number is 0 or stands twice; 16: first above end
unfoldable pub entries_number : List Entry → ℕ
entries_number es = cond (ltb 0 (count 0 (packs es)) || twice es) 15 (cond (ltb 0 (how_many backward es)) 16 0)

-- 14: shorter than its header, offset not 4, more than 200 entries, or length not 4 + 12 × count
abbrev pub misplaced : List ℕ → Bool
misplaced b =
    ltb (length b) entries_place || not (eqb (offset_of b) entries_place) || ltb most_entries (count_of b)
    || not (eqb (length b) (sheet_size (count_of b)))

unfoldable pub sheet_number : List ℕ → ℕ
sheet_number b = cond (misplaced b) 14 (entries_number (entries_of b))

-- ---- the reader

-- number and count of entries; with a refusal's number the count is 0. The entries are read by place, `entry_on` below
pub record SheetTold : Type 0 where
  pub number : ℕ
  pub count : ℕ

abbrev pub refused_sheet : ℕ → SheetTold
refused_sheet number = record { number = number; count = 0 }

unfoldable pub sheet_told : List ℕ → SheetTold
sheet_told b = cond (eqb (sheet_number b) 0) (record { number = 0; count = count_of b }) (refused_sheet (sheet_number b))

-- what an answer of the reader says
abbrev pub told_by : Result ℕ Refusal → SheetTold
told_by (Ok count) = record { number = 0; count = count }
told_by (Err why) = refused_sheet (number_of why)

-- an answer of the entries themselves, which is how the question reads a sheet: it says how many there are
abbrev pub counted : Result (List Entry) Refusal → Result ℕ Refusal
counted (Ok es) = Ok (length es)
counted (Err why) = Err why

-- the entry on a line of a sheet that is taken; all 0 of a sheet that is refused, and past the last line
abbrev pub no_entry : Entry
no_entry = record { pack = 0; first = 0; end = 0 }

unfoldable pub entry_on : List ℕ → ℕ → Entry
entry_on b line = cond (eqb (sheet_number b) 0) (get_or (entries_of b) line no_entry) no_entry

-- ---- the order of entries

-- the entries that the bytes hold from a place on, whatever a count says: all whole ones
abbrev pub entries_from : ℕ → List ℕ → List Entry
entries_from place b = entries_in ((length b - place) / entry_size) b place

-- two byte strings of one length that differ in the order of their whole entries from a place on only, be the length right or wrong; up
-- to 11 bytes behind the last whole entry are no entry, and not compared: bytes that have some are refused by their length
pub record Reordered (place : ℕ) (b c : List ℕ) : Type 0 where
  pub size : length b ≡ length c
  pub front : take place b ≡ take place c
  pub entries : Permᴰ (entries_from place b) (entries_from place c)
