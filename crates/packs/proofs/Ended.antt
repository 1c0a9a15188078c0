-- A licence that has ended never comes back, and a pack that is not on the sheet is never licensed: over any calls on the node, refused
-- ones among them, since its clock never falls. At the layout and the last tick in service.
-- Assumes nothing.
use mathlib.Core.Path.{◌≡◌, sym, ap, ◌∙◌}
use mathlib.Core.List.{List, Memᴰ}
use Prim.Native.Nat.{ℕ, ◌≤◌}
use native.Mathlib.Omega.{arith}
use Rattle.fields.specs.Field.{Bytes}
use Rattle.rules.specs.Describe.{last_tick}
use Rattle.node.specs.Calls.{reading}
use Rattle.node.specs.Heard.{image_left}
use Rattle.node.specs.Layout.{layout}
use Rattle.node.specs.Runs.{Call}
use Rattle.node.proofs.Theorems.{clock_never_falls}
use Rattle.packs.specs.Number.{not_licensed, not_in_force}
use Rattle.packs.specs.Question.{licence, PackTold, pack_told}
use Rattle.packs.specs.Sheet.{entries_of, sheet_number}
use Rattle.packs.specs.Table.{OnSheet}
use Rattle.packs.specs.declared.sheet.Entry.{Entry}
use Rattle.packs.proofs.Meaning.{packs_taken, not_licensed_says, the_entry_denies}
use Rattle.packs.proofs.Told.{taken_parts, pack_told_lem}

module _ (sheet : List ℕ) (pack : ℕ) (image : List ℕ) (calls : List Call)
    (bytes : Bytes image) (ok : (pack_told layout last_tick sheet pack image).number ≡ 0) where
  -- the image that the calls leave
  abbrev left : List ℕ
  left = image_left layout last_tick image calls

  -- the clock that read gives of it
  abbrev clock : ℕ
  clock = (reading layout last_tick left).clock

  later : ((reading layout last_tick left).number ≡ 0) × ((reading layout last_tick image).clock ≤ clock)
  later = clock_never_falls image calls bytes (packs_taken layout last_tick sheet pack image ok).0

  sheet_taken : sheet_number sheet ≡ 0
  sheet_taken = (packs_taken layout last_tick sheet pack image ok).1

  -- a question that was answered is answered again, as the pack stands at that clock
  asked_again : (n : ℕ) → licence pack clock (entries_of sheet) ≡ n →
      pack_told layout last_tick sheet pack left ≡ record { number = 0; licence = n }
  asked_again n e =
      pack_told_lem layout last_tick sheet pack left later.0 sheet_taken
      ∙ ap {B = PackTold} (λ (k : ℕ). record { number = 0; licence = k }) e

  -- a licence that has ended by the clock is not in force
  pub ended : (e : Entry) → Memᴰ e (entries_of sheet) → e.pack ≡ pack → e.end ≤ (reading layout last_tick image).clock →
      pack_told layout last_tick sheet pack left ≡ record { number = 0; licence = not_in_force }
  ended e listed same over =
      asked_again not_in_force
      (ap (λ (p : ℕ). licence p clock (entries_of sheet)) (sym same)
      ∙ (the_entry_denies clock (taken_parts sheet sheet_taken).1 listed).1 (λ c. omega (arith, later.1, c.1)))

  -- a pack that is not on the sheet is not licensed
  pub absent : (OnSheet pack (entries_of sheet) → ⊥) →
      pack_told layout last_tick sheet pack left ≡ record { number = 0; licence = not_licensed }
  absent out = asked_again not_licensed ((not_licensed_says pack clock (entries_of sheet)).1 out)
