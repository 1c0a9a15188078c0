-- WHERE A READER STARTS for pack sheets: what request A1 promises of the reader, the question and the writer, at the layout and the last
-- tick in service. What the words mean is in specs/: the sheet and its reader in Sheet, the question in Question, the writer in Writer,
-- the rows of the table of numbers in Table. That the code gives just these answers, for every input, is the contract of each function
-- (src/). The proofs are short here and stand in the files named.
-- Assumes nothing.
use mathlib.Core.Path.{◌≡◌, sym, ◌∙◌, subst}
use mathlib.Core.Bool.{true}
use mathlib.Core.Logic.{◌↔◌, ◌≢◌}
use mathlib.Core.List.{List, ◌++◌, Memᴰ, Permᴰ}
use Prim.Native.Nat.{ℕ, ◌≤◌}
use lib.ListN.{length, get_or, drop}
use Rattle.fields.specs.Field.{Bytes}
use Rattle.forms.specs.Column.{ascends}
use Rattle.forms.specs.Table.{Says, Understated}
use Rattle.rules.specs.Describe.{last_tick}
use Rattle.node.specs.Calls.{reading}
use Rattle.node.specs.Heard.{image_left}
use Rattle.node.specs.Image.{node_of}
use Rattle.node.specs.Layout.{layout}
use Rattle.node.specs.Runs.{Call}
use Rattle.packs.specs.Number.{not_licensed, not_in_force, in_force}
use Rattle.packs.specs.Question.{licence, PackTold, refused_pack, pack_told, entries_say}
use Rattle.packs.specs.Sheet.{entries_place, sheet_size, entries_of, packs, entries_number, sheet_number}
use Rattle.packs.specs.Sheet.{refused_sheet, sheet_told, entry_on, no_entry, Reordered}
use Rattle.packs.specs.Table.{sheet_checks, pack_checks, sheet_writer_checks, Covers, InForce, OnSheet}
use Rattle.packs.specs.Writer.{ascending, entries_given, sheet_written, bytes_written}
use Rattle.packs.specs.declared.sheet.Entry.{Entry}
use Rattle.packs.proofs.Ascending.{ascending_perm}
use Rattle.packs.proofs.Ended.{ended, absent}
use Rattle.packs.proofs.Meaning.{sheet_says, sheet_refusal, pack_says, pack_refusal, packs_taken}
use Rattle.packs.proofs.Meaning.{sheet_writer_says, sheet_writer_refusal}
use Rattle.packs.proofs.Meaning.{in_force_says, not_licensed_says, the_entry_decides, the_entry_denies}
use Rattle.packs.proofs.Order.{sheet_order, pack_order}
use Rattle.packs.proofs.RoundTrip.{sheet_read_back, entries_read_back, entry_read_back, sheet_ascends, answers_read_back}
use Rattle.packs.proofs.RoundTrip.{sheet_kept, same_bytes, written_again}
use Rattle.packs.proofs.Told.{taken_parts}

-- ---- The reader

module _ (sheet : List ℕ) where
  -- Each number is given exactly when its row of the table applies and no row before it does
  pub sheet_numbers : Says (sheet_told sheet).number (sheet_checks sheet)
  sheet_numbers = sheet_says sheet

  -- A refused sheet has count 0
  pub sheet_refused : ((sheet_told sheet).number ≡ 0 → ⊥) → sheet_told sheet ≡ refused_sheet (sheet_told sheet).number
  sheet_refused = sheet_refusal sheet

-- ---- The question

module _ (sheet : List ℕ) (pack : ℕ) (image : List ℕ) where
  abbrev asked : PackTold
  asked = pack_told layout last_tick sheet pack image

  -- the clock that read gives
  abbrev clock : ℕ
  clock = (reading layout last_tick image).clock

  -- an answer tells how the pack stands at the clock
  told_by_lem : asked.number ≡ 0 → {n : ℕ} {A : Type 0} →
      (licence pack clock (entries_of sheet) ≡ n) ↔ A → (asked.licence ≡ n) ↔ A
  told_by_lem ok says =
      let said = (packs_taken layout last_tick sheet pack image ok).2 in
      (λ q. says.0 (sym said ∙ q), λ x. said ∙ says.1 x)

  entries_taken : asked.number ≡ 0 → entries_number (entries_of sheet) ≡ 0
  entries_taken ok = (taken_parts sheet (packs_taken layout last_tick sheet pack image ok).1).1

  -- 8 and 12 of the image, then 14 to 16 of the sheet, each exactly when its row applies
  pub pack_numbers : Says asked.number (pack_checks layout last_tick sheet image)
  pack_numbers = pack_says layout last_tick sheet pack image

  -- An image that declares less than the full fault number is refused with 8 (02, A7)
  pub pack_refuses_less : Understated (node_of image).lines (node_of image).faults → asked.number ≡ 8
  pack_refuses_less less = (pack_numbers.exactly 8).1 (λ sound. sound.full less)

  -- So is one of another layout, by its byte 3: an image from before the window grew has 0 there (02, A8)
  pub pack_refuses_others : get_or image 3 0 ≢ layout.mark → asked.number ≡ 8
  pack_refuses_others other = (pack_numbers.exactly 8).1 (λ sound. other sound.mark)

  -- A refusal says nothing of the pack
  pub pack_refused : (asked.number ≡ 0 → ⊥) → asked ≡ refused_pack asked.number
  pack_refused = pack_refusal layout last_tick sheet pack image

  -- In force is a number for which some entry has first ≤ clock < end
  pub in_force_exactly : asked.number ≡ 0 → (asked.licence ≡ in_force) ↔ InForce pack clock (entries_of sheet)
  in_force_exactly ok = told_by_lem ok (in_force_says pack clock (entries_of sheet))

  -- The entry that has the number decides, wherever on the sheet it stands: in force where it covers the clock,
  pub the_entry_in_force :
      (e : Entry)
      → asked.number ≡ 0
      → Memᴰ e (entries_of sheet)
      → e.pack ≡ pack
      → (asked.licence ≡ in_force) ↔ Covers clock e
  the_entry_in_force e ok listed same =
      told_by_lem ok (subst (λ (p : ℕ). (licence p clock (entries_of sheet) ≡ in_force) ↔ Covers clock e) same
      (the_entry_decides clock (entries_taken ok) listed))

  -- and on the sheet but not in force where it does not
  pub the_entry_not_in_force :
      (e : Entry)
      → asked.number ≡ 0
      → Memᴰ e (entries_of sheet)
      → e.pack ≡ pack
      → (asked.licence ≡ not_in_force) ↔ (Covers clock e → ⊥)
  the_entry_not_in_force e ok listed same =
      told_by_lem ok (subst (λ (p : ℕ). (licence p clock (entries_of sheet) ≡ not_in_force) ↔ (Covers clock e → ⊥)) same
      (the_entry_denies clock (entries_taken ok) listed))

  -- Not licensed is a number that no entry has
  pub not_licensed_exactly : asked.number ≡ 0 → (asked.licence ≡ not_licensed) ↔ (OnSheet pack (entries_of sheet) → ⊥)
  not_licensed_exactly ok = told_by_lem ok (not_licensed_says pack clock (entries_of sheet))

  -- The clock never falls, so a pack that has ended never comes back: whatever is delivered, refused or read meanwhile. (This is about
  -- one node. A boot makes another, whose clock begins at 0.)
  pub ended_never_comes_back :
      (e : Entry) (calls : List Call)
      → Bytes image
      → asked.number ≡ 0
      → Memᴰ e (entries_of sheet)
      → e.pack ≡ pack
      → e.end ≤ clock
      → pack_told layout last_tick sheet pack (image_left layout last_tick image calls) ≡ record { number = 0; licence = not_in_force }
  ended_never_comes_back e calls bytes ok = ended sheet pack image calls bytes ok e

  -- And a pack that is not on the sheet is not licensed, for ever
  pub not_licensed_for_ever :
      (calls : List Call)
      → Bytes image
      → asked.number ≡ 0
      → (OnSheet pack (entries_of sheet) → ⊥)
      → pack_told layout last_tick sheet pack (image_left layout last_tick image calls) ≡ record { number = 0; licence = not_licensed }
  not_licensed_for_ever calls bytes ok = absent sheet pack image calls bytes ok

-- ---- The order of entries decides nothing: the shop's own story

-- Two sheets alike in all but the order of their entries are read alike,
pub order_of_entries_reads_alike :
    (sheet other : List ℕ)
    → Reordered entries_place sheet other
    → sheet_told sheet ≡ sheet_told other
order_of_entries_reads_alike sheet other r = sheet_order r

-- and answer every question alike, for every pack and every image, be the sheets right or wrong
pub order_of_entries_decides_nothing :
    (sheet other : List ℕ) (pack : ℕ) (image : List ℕ)
    → Reordered entries_place sheet other
    → pack_told layout last_tick sheet pack image ≡ pack_told layout last_tick other pack image
order_of_entries_decides_nothing sheet other pack image r = pack_order r layout last_tick pack image

-- ---- The writer

module _ (entries out : List ℕ) where
  -- 14 to 16, and 7 last, each exactly when its row applies
  pub writer_numbers : Says (sheet_written entries out).number (sheet_writer_checks entries out)
  writer_numbers = sheet_writer_says entries out

  -- A refusal writes nothing
  pub writer_refused :
      ((sheet_written entries out).number ≡ 0 → ⊥)
      → ((sheet_written entries out).written ≡ 0) × ((sheet_written entries out).out ≡ out)
  writer_refused = sheet_writer_refusal entries out

  -- Bytes behind the sheet stay, and so does the length
  pub writer_keeps :
      (drop (sheet_size (length (entries_given entries))) (sheet_written entries out).out
      ≡ drop (sheet_size (length (entries_given entries))) out)
      × (length (sheet_written entries out).out ≡ length out)
  writer_keeps = sheet_kept entries out

  -- What it wrote is read back with as many entries,
  pub written_reads_back :
      Bytes entries
      → (sheet_written entries out).number ≡ 0
      → sheet_told (bytes_written entries out) ≡ record { number = 0; count = length (entries_given entries) }
  written_reads_back = sheet_read_back entries out

  -- the same entries,
  pub written_entries :
      Bytes entries
      → (sheet_written entries out).number ≡ 0
      → Permᴰ (entries_of (bytes_written entries out)) (entries_given entries)
  written_entries bytes ok =
      subst (λ (es : List Entry). Permᴰ es (entries_given entries)) (sym (entries_read_back entries out bytes ok))
      (ascending_perm (entries_given entries))

  -- line by line in ascending pack number,
  pub written_lines :
      (line : ℕ)
      → Bytes entries
      → (sheet_written entries out).number ≡ 0
      → entry_on (bytes_written entries out) line ≡ get_or (ascending (entries_given entries)) line no_entry
  written_lines line bytes ok = entry_read_back entries out bytes ok line

  pub written_ascends :
      Bytes entries
      → (sheet_written entries out).number ≡ 0
      → ascends (packs (entries_of (bytes_written entries out))) ≡ true
  written_ascends = sheet_ascends entries out

  -- and every question is answered as the entries say, in whatever order they came
  pub written_answers :
      (pack : ℕ) (image : List ℕ)
      → Bytes entries
      → (sheet_written entries out).number ≡ 0
      → pack_told layout last_tick (bytes_written entries out) pack image ≡ entries_say layout last_tick (entries_given entries) pack image
  written_answers pack image bytes ok = answers_read_back entries out bytes ok layout last_tick pack image

-- Two lists of entries that are reorderings of each other give the same number and the same bytes
pub order_of_entries_writes_alike :
    (entries others out : List ℕ)
    → Reordered 0 entries others
    → sheet_written entries out ≡ sheet_written others out
order_of_entries_writes_alike = same_bytes

-- A sheet that ascends already is written again byte for byte
pub ascending_written_again :
    (sheet out : List ℕ)
    → Bytes sheet
    → sheet_number sheet ≡ 0
    → ascends (packs (entries_of sheet)) ≡ true
    → length sheet ≤ length out
    → sheet_written (drop entries_place sheet) out ≡ record { number = 0; written = length sheet; out = sheet ++ drop (length sheet) out }
ascending_written_again = written_again
