-- Laws of what is told with a number: a refusal's number is never 0, so what the reader of a sheet tells says whether the sheet is taken;
-- a sheet that is taken has the entries that its count says, inside its bytes; and what the question tells, by image and sheet.
-- Assumes nothing.
use mathlib.Core.Path.{◌≡◌, refl, sym, ◌∙◌}
use mathlib.Core.List.{List}
use mathlib.Core.Bool.{Bool, true, false, cond, not, ◌||◌}
use Prim.Native.Nat.{ℕ, ◌≤◌}
use native.Mathlib.Omega.{arith}
use lib.ListN.{length, get_or}
use lib.Dec.{ltb, eqb}
use borrow.Author.Tests.{ltb-false, eqb-true, not-false}
use Rattle.forms.specs.Column.{how_many, count, twins}
use Rattle.forms.specs.Number as wire
use Rattle.forms.specs.declared.answer.Refusal.{Refusal as Misread}
use Rattle.forms.specs.declared.answer.Refusal.TheVariants as misread
use Rattle.node.specs.Calls.{read_number, reading}
use Rattle.node.specs.Number as node
use Rattle.node.specs.declared.answer.Refusal.{Refusal as Unread}
use Rattle.node.specs.declared.answer.Refusal.TheVariants as unread
use Rattle.node.specs.Image.{mode_place, sound_image}
use Rattle.node.specs.declared.layout.Layout.{Layout as ImageLayout}
use Rattle.packs.specs.Number.{number_of}
use Rattle.packs.specs.Question.{licence, pack_number, pack_told, refused_pack, unread_as}
use Rattle.packs.specs.Sheet.{entries_place, most_entries, sheet_size, count_of, offset_of, entries_of, misplaced}
use Rattle.packs.specs.Steps.{Lines}
use Rattle.packs.specs.Sheet.{packs, backward, entries_number, sheet_number, SheetTold, sheet_told, refused_sheet}
use Rattle.packs.specs.declared.sheet.Entry.{Entry}
use Rattle.packs.specs.declared.answer.Refusal.{Refusal}
use Rattle.packs.specs.declared.answer.Refusal.TheVariants.{Layout, Pack, Ticks, Room, Image, Passive}
use Rattle.forms.proofs.Meaning.{told}
use Rattle.forms.proofs.Told.{neither}
use Rattle.node.proofs.Outcomes.{read_told}

-- no refusal has number 0
pub refusal : (why : Refusal) → eqb (number_of why) 0 ≡ false
refusal Layout = refl
refusal Pack = refl
refusal Ticks = refl
refusal Room = refl
refusal Image = refl
refusal Passive = refl

-- entries that no number refuses have no pack number 0, and none twice
pub sound_packs : (es : List Entry) → entries_number es ≡ 0 → (count 0 (packs es) ≡ 0) × (twins (packs es) ≡ 0)
unfolding entries_number
sound_packs es z = go (ltb 0 (count 0 (packs es))) (ltb 0 (twins (packs es))) (ltb 0 (how_many backward es)) refl refl z
  where
    go : (s t u : Bool) → ltb 0 (count 0 (packs es)) ≡ s → ltb 0 (twins (packs es)) ≡ t → cond {A = ℕ} (s || t) 15 (cond u 16 0) ≡ 0 →
        (count 0 (packs es) ≡ 0) × (twins (packs es) ≡ 0)
    go true t u p q r = absurd (omega arith)
    go false true u p q r = absurd (omega arith)
    go false false u p q r =
        (omega (arith, ltb-false 0 (count 0 (packs es)) p), omega (arith, ltb-false 0 (twins (packs es)) q))

module _ (b : List ℕ) where
  -- ---- from the number to what is told

  pub refused_sheet_lem : (why : Refusal) → sheet_number b ≡ number_of why → sheet_told b ≡ refused_sheet (number_of why)
  unfolding sheet_told
  refused_sheet_lem why e = rw (e, refusal why)

  pub sheet_taken : sheet_number b ≡ 0 → sheet_told b ≡ record { number = 0; count = count_of b }
  unfolding sheet_told
  sheet_taken e = rw e

  -- ---- and back: the number that is told is the sheet's own

  pub sheet_told_lem : (sheet_told b).number ≡ sheet_number b
  unfolding sheet_told
  sheet_told_lem = told (λ (t : SheetTold). t.number) _ _ (sheet_number b) refl refl

  -- ---- the parts of a sheet that is taken

  -- its layout is right, and no number refuses its entries
  pub taken_parts : sheet_number b ≡ 0 → (misplaced b ≡ false) × (entries_number (entries_of b) ≡ 0)
  unfolding sheet_number
  taken_parts e = go (misplaced b) e
    where
      go : (t : Bool) → cond t 14 (entries_number (entries_of b)) ≡ 0 → (t ≡ false) × (entries_number (entries_of b) ≡ 0)
      go true z = absurd (omega arith)
      go false z = (refl, z)

  -- the parts of a right layout
  pub placed_parts : misplaced b ≡ false → (offset_of b ≡ entries_place) × (count_of b ≤ most_entries) × (length b ≡ sheet_size (count_of b))
  placed_parts e =
      let short = ltb (length b) entries_place in
      let front = short || not (eqb (offset_of b) entries_place) in
      let size = neither (front || ltb most_entries (count_of b)) _ e in
      let few = neither front (ltb most_entries (count_of b)) size.0 in
      let offset = neither short _ few.0 in (
        eqb-true (offset_of b) entries_place (not-false _ offset.1),
        ltb-false most_entries (count_of b) few.1,
        eqb-true (length b) (sheet_size (count_of b)) (not-false _ size.1),
      )

  -- as many entries as its count says, inside its bytes
  pub sheet_lines : sheet_number b ≡ 0 → Lines b entries_place (count_of b)
  sheet_lines z = let p = placed_parts (taken_parts z).0 in record { few = p.1; inside = omega (arith, p.2) }

-- ---- the question

-- a refusal of node with number 8 is told as 8, one with 12 as 12, and none has number 0
eight : (why : Unread) → node.number_of why ≡ 8 → number_of (unread_as why) ≡ 8
eight (unread.Misread why) e = refl
eight unread.Short e = refl
eight unread.Room e = refl
eight unread.Unsound e = refl
eight unread.Port e = refl
eight unread.Passive e = absurd (omega arith)

misread_twelve : (why : Misread) → wire.number_of why ≡ 12 → ⊥
misread_twelve misread.Layout e = omega arith
misread_twelve misread.Limits e = omega arith
misread_twelve misread.Understated e = omega arith
misread_twelve misread.Zero e = omega arith
misread_twelve misread.Twice e = omega arith
misread_twelve misread.Stranger e = omega arith
misread_twelve misread.Room e = omega arith
misread_twelve misread.Shape e = omega arith
misread_twelve misread.Late e = omega arith

misread_some : (why : Misread) → wire.number_of why ≡ 0 → ⊥
misread_some misread.Layout e = omega arith
misread_some misread.Limits e = omega arith
misread_some misread.Understated e = omega arith
misread_some misread.Zero e = omega arith
misread_some misread.Twice e = omega arith
misread_some misread.Stranger e = omega arith
misread_some misread.Room e = omega arith
misread_some misread.Shape e = omega arith
misread_some misread.Late e = omega arith

twelve : (why : Unread) → node.number_of why ≡ 12 → number_of (unread_as why) ≡ 12
twelve (unread.Misread why) e = absurd (misread_twelve why e)
twelve unread.Short e = absurd (omega arith)
twelve unread.Room e = absurd (omega arith)
twelve unread.Unsound e = absurd (omega arith)
twelve unread.Port e = absurd (omega arith)
twelve unread.Passive e = refl

some : (why : Unread) → node.number_of why ≡ 0 → ⊥
some (unread.Misread why) e = misread_some why e
some unread.Short e = omega arith
some unread.Room e = omega arith
some unread.Unsound e = omega arith
some unread.Port e = omega arith
some unread.Passive e = omega arith

module _ (L : ImageLayout) (last : ℕ) (sheet : List ℕ) (pack : ℕ) (image : List ℕ) where
  -- of node's refusals reading gives the numbers of two, 8 and 12, and the question refuses those two with the same number
  pub told_unread : (why : Unread) → (reading L last image).number ≡ node.number_of why →
      pack_told L last sheet pack image ≡ refused_pack (number_of (unread_as why))
  unfolding pack_told pack_number read_number
  told_unread why e = go (sound_image L last image) (eqb (get_or image mode_place 0) 0) why refl refl (sym (read_told L last image) ∙ e)
    where
      go : (s t : Bool) (why : Unread) → sound_image L last image ≡ s → eqb (get_or image mode_place 0) 0 ≡ t →
          read_number L last image ≡ node.number_of why →
          pack_told L last sheet pack image ≡ refused_pack (number_of (unread_as why))
      go true true why p q e = rw (p, q, twelve why (sym e ∙ rw (p, q)))
      go true false why p q e = absurd (some why (sym e ∙ rw (p, q)))
      go false t why p q e = rw (p, eight why (sym e ∙ rw p))

  module _ (clock : (reading L last image).number ≡ 0) where
    pub told_refused : (why : Refusal) → sheet_number sheet ≡ number_of why → pack_told L last sheet pack image ≡ refused_pack (number_of why)
    unfolding pack_told pack_number
    told_refused why e = rw (sym (read_told L last image) ∙ clock, e, refusal why)

    pub pack_told_lem : sheet_number sheet ≡ 0 →
        pack_told L last sheet pack image ≡ record { number = 0; licence = licence pack (reading L last image).clock (entries_of sheet) }
    unfolding pack_told pack_number
    pack_told_lem e = rw (sym (read_told L last image) ∙ clock, e)
