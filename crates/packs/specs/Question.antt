-- The question (02, A1): given a sheet, a pack number and a node image, is the pack in force at the node's clock? In force is
-- first ≤ clock < end. The answer looks for the number and never at a place; 15 makes the entry that has it the only one. Pack 0 is on
-- no sheet, so it is not licensed. 8 and 12 of the image come before 14 to 16 of the sheet.
use Rattle.std.specs.Prelude.{ℕ, List, Bool, cond, ◌&&◌, leb, ltb, eqb, Result, Ok, Err}
use Rattle.forms.specs.Number.{or_else}
use Rattle.forms.specs.Column.{how_many, count}
use Rattle.node.specs.Calls.{read_number, reading}
use Rattle.node.specs.declared.answer.Refusal.{Refusal as Unread}
use Rattle.node.specs.declared.answer.Refusal.TheVariants as unread
use Rattle.node.specs.declared.layout.Layout.{Layout}
use Rattle.packs.specs.Number.{number_of, licence_of, not_licensed, not_in_force, in_force}
use Rattle.packs.specs.Sheet.{packs, entries_of, sheet_number}
use Rattle.packs.specs.declared.answer.Licence.{Licence}
use Rattle.packs.specs.declared.answer.Refusal.{Refusal}
use Rattle.packs.specs.declared.answer.Refusal.TheVariants.{Image, Passive}
use Rattle.packs.specs.declared.sheet.Entry.{Entry}

-- first ≤ tick < end
abbrev pub covers : ℕ → Entry → Bool
covers tick e = leb e.first tick && ltb tick e.end

-- an entry with this number that is in force at this tick
abbrev pub entry_in_force : ℕ → ℕ → Entry → Bool
entry_in_force pack tick e = eqb e.pack pack && covers tick e

-- how a pack stands at a tick
unfoldable pub licence : ℕ → ℕ → List Entry → ℕ
licence pack tick es =
    cond (ltb 0 (how_many (entry_in_force pack tick) es)) in_force (cond (ltb 0 (count pack (packs es))) not_in_force not_licensed)

-- ---- the call

-- number, and how the pack stands; 0 with a refusal
pub record PackTold : Type 0 where
  pub number : ℕ
  pub licence : ℕ

abbrev pub refused_pack : ℕ → PackTold
refused_pack number = record { number = number; licence = 0 }

-- 8 and 12, then 14 to 16
unfoldable pub pack_number : Layout → ℕ → List ℕ → List ℕ → ℕ
pack_number L last sheet image = or_else (read_number L last image) (sheet_number sheet)

unfoldable pub pack_told : Layout → ℕ → List ℕ → ℕ → List ℕ → PackTold
pack_told L last sheet pack image =
    cond (eqb (pack_number L last sheet image) 0)
    (record { number = 0; licence = licence pack (reading L last image).clock (entries_of sheet) })
    (refused_pack (pack_number L last sheet image))

-- the answer that entries say, with no sheet between: 8 and 12 of the image, else how the pack stands
unfoldable pub entries_say : Layout → ℕ → List Entry → ℕ → List ℕ → PackTold
entries_say L last es pack image =
    cond (eqb (read_number L last image) 0) (record { number = 0; licence = licence pack (reading L last image).clock es })
    (refused_pack (read_number L last image))

-- what the question refuses where the node tells no clock
abbrev pub unread_as : Unread → Refusal
unread_as (unread.Misread why) = Image
unread_as unread.Short = Image
unread_as unread.Room = Image
unread_as unread.Unsound = Image
unread_as unread.Port = Image
unread_as unread.Passive = Passive

-- what an answer to the question says
abbrev pub asked_by : Result Licence Refusal → PackTold
asked_by (Ok how) = record { number = 0; licence = licence_of how }
asked_by (Err why) = refused_pack (number_of why)
