-- The rows of the table of numbers that the calls of a sheet give (02, A1), and what the answers mean, as plain propositions with no test
-- and no count in them. What it means that checks give a number is said in forms.
use Rattle.std.specs.Prelude.{◌≡◌, ◌≢◌, ℕ, ◌*◌, ◌%◌, ◌≤◌, ◌<◌, length}
use mathlib.Core.List.{List, [], ◌∷◌, ◌++◌, Memᴰ}
use Rattle.forms.specs.Table.{◌or◌, Check, ◌when◌, Twice, room_check}
use Rattle.node.specs.declared.layout.Layout.{Layout}
use Rattle.node.specs.Table.{read_checks}
use Rattle.packs.specs.Sheet.{entries_place, entry_size, most_entries, sheet_size, count_of, offset_of, entries_of, packs}
use Rattle.packs.specs.Writer.{entries_given}
use Rattle.packs.specs.declared.sheet.Entry.{Entry}

-- 14: shorter than its header, offset not 4, more than 200 entries, or length not 4 + 12 × count
abbrev pub Misplaced : List ℕ → Type 0
Misplaced b =
    (length b < entries_place) or (offset_of b ≢ entries_place) or (most_entries < count_of b) or (length b ≢ sheet_size (count_of b))

-- 14, of the writer: bytes that are no whole entries, or more than 200 of them
abbrev pub Unfit : List ℕ → Type 0
Unfit bytes = (length bytes % entry_size ≢ 0) or (most_entries * entry_size < length bytes)

-- 15: a pack number is 0, or stands twice
abbrev pub BadPack : List Entry → Type 0
BadPack es = Memᴰ 0 (packs es) or Twice (packs es)

-- 16: an entry has first above end
pub record Backward (es : List Entry) : Type 0 where
  pub entry : Entry
  pub listed : Memᴰ entry es
  pub above : entry.end < entry.first

-- 15 and 16
abbrev pub entries_checks : List Entry → List Check
entries_checks es = 15 when BadPack es ∷ 16 when Backward es ∷ []

-- 14 to 16
abbrev pub sheet_checks : List ℕ → List Check
sheet_checks b = 14 when Misplaced b ∷ entries_checks (entries_of b)

-- 8 and 12 of the image, then 14 to 16
abbrev pub pack_checks : Layout → ℕ → List ℕ → List ℕ → List Check
pack_checks L last sheet image = read_checks L last image ++ sheet_checks sheet

-- 14 to 16, and 7 last
abbrev pub sheet_writer_checks : List ℕ → List ℕ → List Check
sheet_writer_checks bytes out =
    14 when Unfit bytes ∷ entries_checks (entries_given bytes) ++ room_check (sheet_size (length (entries_given bytes))) out ∷ []

-- ---- how a pack stands

-- first ≤ tick < end
abbrev pub Covers : ℕ → Entry → Type 0
Covers tick e = (e.first ≤ tick) × (tick < e.end)

-- an entry has this number and covers the tick
pub record InForce (pack tick : ℕ) (es : List Entry) : Type 0 where
  pub entry : Entry
  pub listed : Memᴰ entry es
  pub number : entry.pack ≡ pack
  pub covers : Covers tick entry

-- an entry has this number
abbrev pub OnSheet : ℕ → List Entry → Type 0
OnSheet pack es = Memᴰ pack (packs es)
