-- The order of entries decides nothing: a sheet whose entries are reordered gets the same number and every question the same answer.
-- Assumes nothing.
use mathlib.Core.Path.{◌≡◌, refl, sym, ap, ◌∙◌, subst₂}
use mathlib.Core.Bool.{Bool, true, false, cond}
use mathlib.Core.List.{List, Permᴰ}
use Prim.Native.Nat.{ℕ, ◌+◌, ◌≤◌}
use native.Mathlib.Omega.{arith}
use lib.Dec.{eqb}
use borrow.Author.Tests.{eqb-true}
use Rattle.fields.specs.Field.{field}
use Rattle.fields.proofs.Fields.{field_take}
use Rattle.forms.proofs.Order.{many_order, count_order, twins_order}
use Rattle.forms.specs.Number.{or_else}
use Rattle.node.specs.Calls.{read_number, reading}
use Rattle.node.specs.declared.layout.Layout.{Layout}
use Rattle.forms.proofs.Told.{none_given}
use Rattle.packs.specs.Question.{entry_in_force, licence, PackTold, refused_pack, pack_number, pack_told}
use Rattle.packs.specs.Sheet.{entries_place, entries_in, entries_of, backward}
use Rattle.packs.specs.Sheet.{entries_number, misplaced, sheet_number, sheet_told, entries_from, Reordered}
use Rattle.packs.specs.Writer.{write_number}
use Rattle.packs.specs.declared.sheet.Entry.{Entry}
use Rattle.packs.proofs.Ascending.{packs_order}
use Rattle.packs.proofs.Told.{taken_parts, placed_parts}

-- ---- entries, and the same ones in another order

module _ {es fs : List Entry} (p : Permᴰ es fs) where
  -- so they get the same number
  pub entries_number_order : entries_number es ≡ entries_number fs
  unfolding entries_number
  entries_number_order = cc (count_order 0 (packs_order p), twins_order (packs_order p), many_order backward p)

  -- and each pack stands as it did
  pub licence_order : (pack tick : ℕ) → licence pack tick es ≡ licence pack tick fs
  unfolding licence
  licence_order pack tick = cc (many_order (entry_in_force pack tick) p, count_order pack (packs_order p))

-- ---- a sheet

-- a sheet of right layout holds as many entries as its count says
lines_entries : (b : List ℕ) → misplaced b ≡ false → entries_from entries_place b ≡ entries_of b
lines_entries b e = ap (λ (n : ℕ). entries_in n b entries_place) (omega (arith, (placed_parts b e).2))

-- two sheets that differ in the order of their entries only
module _ {b c : List ℕ} (r : Reordered entries_place b c) where
  -- the fields in front of the entries are the same
  front_same : (w i : ℕ) → i + w ≤ entries_place → field w b i ≡ field w c i
  front_same w i h =
      sym (field_take w entries_place b i h) ∙ ap (λ (l : List ℕ). field w l i) r.front ∙ field_take w entries_place c i h

  -- both have the same layout
  layout_same : misplaced b ≡ misplaced c
  layout_same = cc (r.size, front_same 2 0 (omega arith), front_same 2 2 (omega arith))

  -- where it is right, they have the same entries in some order
  laid_order : misplaced b ≡ false → Permᴰ (entries_of b) (entries_of c)
  laid_order e =
      subst₂ (λ (l m : List Entry). Permᴰ l m) (lines_entries b e) (lines_entries c (sym layout_same ∙ e)) r.entries

  -- the sheet gets the same number
  pub sheet_number_order : sheet_number b ≡ sheet_number c
  unfolding sheet_number
  sheet_number_order = go (misplaced b) refl ∙ ap (λ (t : Bool). cond t 14 (entries_number (entries_of c))) layout_same
    where
      go : (t : Bool) → misplaced b ≡ t → cond t 14 (entries_number (entries_of b)) ≡ cond t 14 (entries_number (entries_of c))
      go true e = refl
      go false e = entries_number_order (laid_order e)

  -- and the reader tells the same of it
  pub sheet_order : sheet_told b ≡ sheet_told c
  unfolding sheet_told
  sheet_order = cc (sheet_number_order, front_same 2 0 (omega arith))

  -- a sheet that is taken has the same entries in some order
  pub entries_order : sheet_number b ≡ 0 → Permᴰ (entries_of b) (entries_of c)
  entries_order e = laid_order (taken_parts b e).0

  -- every question gets the same answer, be the sheet right or wrong
  pub pack_order : (L : Layout) (last pack : ℕ) (image : List ℕ) → pack_told L last b pack image ≡ pack_told L last c pack image
  unfolding pack_told pack_number
  pack_order L last pack image =
      go (eqb number 0) refl
      ∙ ap (λ (n : ℕ). cond (eqb n 0) (told c) (refused_pack n)) (ap (or_else (read_number L last image)) sheet_number_order)
    where
      number : ℕ
      number = pack_number L last b image

      told : List ℕ → PackTold
      told sheet = record { number = 0; licence = licence pack (reading L last image).clock (entries_of sheet) }

      go : (t : Bool) → eqb number 0 ≡ t → cond t (told b) (refused_pack number) ≡ cond t (told c) (refused_pack number)
      go true e =
          let taken = (none_given (read_number L last image) (sheet_number b) (eqb-true number 0 e)).1 in
          ap {B = PackTold} (λ (n : ℕ). record { number = 0; licence = n })
          (licence_order (entries_order taken) pack (reading L last image).clock)
      go false e = refl

-- ---- the entries that the writer is given

-- it gives the same number for them in any order
pub write_number_order : {b c : List ℕ} → Reordered 0 b c → write_number b ≡ write_number c
unfolding write_number
write_number_order {b} {c} r = cc (r.size, entries_number_order r.entries)
