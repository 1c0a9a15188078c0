-- Each number is given exactly when its row of the table applies, and each licence exactly when the entry that has the number says so.
-- Assumes nothing.
use mathlib.Core.Path.{◌≡◌, refl, sym, ap, ◌∙◌, subst}
use mathlib.Core.Logic.Iff
use mathlib.Core.Logic.{◌↔◌}
use mathlib.Core.Bool.{Bool, true, false, cond, not, ◌||◌, ◌&&◌, false≢true}
use mathlib.Core.List.Memᴰ
use mathlib.Core.List.{List, ◌++◌, Memᴰ}
use Prim.Native.Nat.{ℕ, ◌*◌, ◌%◌}
use native.Mathlib.Omega.{arith}
use lib.ListN.{length}
use lib.Dec.{ltb, eqb}
use borrow.Author.Tests.{ltb-true, lt-ltb, leb-true, le-leb}
use Rattle.forms.specs.Column.{how_many, count, twins}
use Rattle.forms.specs.Table.{Check, Given, Says}
use Rattle.forms.proofs.Columns.{Passes, passing_counted, passing_found}
use Rattle.forms.proofs.Meaning.{Decides, less, equal, opposite, either, both, in_front, none, past, told, write_number_lem}
use Rattle.forms.proofs.Meaning.{member_says, twice_says}
use Rattle.forms.proofs.RoundTrip.{refused_bytes}
use Rattle.node.specs.Calls.{read_number, reading}
use Rattle.node.specs.declared.layout.Layout.{Layout}
use Rattle.node.proofs.Numbers.{read_then}
use Rattle.node.proofs.Outcomes.{read_told}
use Rattle.forms.proofs.Told.{none_given}
use Rattle.packs.specs.Number.{not_licensed, not_in_force, in_force}
use Rattle.packs.specs.Question.{covers, entry_in_force, licence, PackTold, refused_pack, pack_number, pack_told}
use Rattle.packs.specs.Sheet.{entries_place, entry_size, most_entries, sheet_size, count_of, offset_of, entries_of}
use Rattle.packs.specs.Sheet.{packs, backward, twice, entries_number, misplaced, sheet_number}
use Rattle.packs.specs.Sheet.{SheetTold, refused_sheet, sheet_told}
use Rattle.packs.specs.Table.{Misplaced, Unfit, BadPack, Backward, entries_checks, sheet_checks, pack_checks, sheet_writer_checks}
use Rattle.packs.specs.Table.{Covers, InForce, OnSheet}
use Rattle.packs.specs.Writer.{entries_given, unfit, write_number, put_sheet, sheet_written}
use Rattle.packs.specs.declared.sheet.Entry.{Entry}
use Rattle.packs.proofs.Told.{sheet_told_lem, pack_told_lem, sound_packs}

-- ---- what the counts mean

-- entries that pass a test are counted exactly where one stands in the list
many_says : (test : Entry → Bool) (es : List Entry) → Decides (ltb 0 (how_many test es)) (Passes test es)
many_says test es = Iff.trans (less 0 (how_many test es)) (passing_found test es, λ x. passing_counted test x.1 x.2)

-- ---- what a refusal tells

-- an answer whose number is not 0 is the refusal with this number
refusal_told : {A : Type 0} (number : A → ℕ) (taken : A) (refused : ℕ → A) (n : ℕ) →
    number taken ≡ 0 → ((k : ℕ) → number (refused k) ≡ k) →
    (number (cond (eqb n 0) taken (refused n)) ≡ 0 → ⊥) →
    cond (eqb n 0) taken (refused n) ≡ refused (number (cond (eqb n 0) taken (refused n)))
refusal_told number taken refused n p q = go (eqb n 0)
  where
    go : (t : Bool) → (number (cond t taken (refused n)) ≡ 0 → ⊥) →
        cond t taken (refused n) ≡ refused (number (cond t taken (refused n)))
    go true h = absurd (h p)
    go false h = ap refused (sym (q n))

-- ---- 14 to 16

module _ (es : List Entry) where
  bad_pack_says : Decides (ltb 0 (count 0 (packs es)) || twice es) (BadPack es)
  bad_pack_says =
      either _ _ (Iff.trans (less 0 (count 0 (packs es))) (member_says 0 (packs es)))
      (Iff.trans (less 0 (twins (packs es))) (twice_says (packs es)))

  backward_says : Decides (ltb 0 (how_many backward es)) (Backward es)
  backward_says =
      Iff.trans (many_says backward es) (
        λ x. record { entry = x.0; listed = x.1; above = ltb-true _ _ x.2 },
        λ b. (b.entry, b.listed, lt-ltb _ _ b.above),
      )

  -- 15 and 16, with other checks behind
  entries_then : {next : ℕ} {checks : List Check} →
      Says next checks → (Given checks 15 → ⊥) × (Given checks 16 → ⊥) →
      Says (cond (ltb 0 (count 0 (packs es)) || twice es) 15 (cond (ltb 0 (how_many backward es)) 16 next)) (entries_checks es ++ checks)
  entries_then says fresh = in_front 15 bad_pack_says (λ g. fresh.0 g.1) (in_front 16 backward_says fresh.1 says)

  pub entries_says : Says (entries_number es) (entries_checks es)
  unfolding entries_number
  entries_says = entries_then none (omega arith)

module _ (b : List ℕ) where
  -- the layout is wrong exactly where row 14 applies
  pub misplaced_says : Decides (misplaced b) (Misplaced b)
  misplaced_says =
      either _ _
      (either _ _ (either _ _ (less (length b) entries_place) (opposite _ (equal (offset_of b) entries_place))) (less most_entries (count_of b)))
      (opposite _ (equal (length b) (sheet_size (count_of b))))

  pub sheet_number_says : Says (sheet_number b) (sheet_checks b)
  unfolding sheet_number
  sheet_number_says = in_front 14 misplaced_says (omega arith) (entries_says (entries_of b))

  -- the reader's number is what rows 14 to 16 give
  pub sheet_says : Says (sheet_told b).number (sheet_checks b)
  sheet_says = rw (sheet_told_lem b) sheet_number_says

  -- a refusal tells its number and count 0
  pub sheet_refusal : ((sheet_told b).number ≡ 0 → ⊥) → sheet_told b ≡ refused_sheet (sheet_told b).number
  unfolding sheet_told
  sheet_refusal = refusal_told (λ (t : SheetTold). t.number) _ refused_sheet (sheet_number b) refl (λ k. refl)

-- ---- the writer: 14 to 16, and 7 last

module _ (bytes out : List ℕ) where
  unfit_says : Decides (unfit bytes) (Unfit bytes)
  unfit_says = either _ _ (opposite _ (equal (length bytes % entry_size) 0)) (less (most_entries * entry_size) (length bytes))

  -- the writer's number is what rows 14 to 16 give, and 7 last
  pub sheet_writer_says : Says (sheet_written bytes out).number (sheet_writer_checks bytes out)
  unfolding sheet_written write_number entries_number
  sheet_writer_says =
      rw (write_number_lem, past, past, past)
      (in_front 14 unfit_says (omega arith)
      (entries_then (entries_given bytes)
      (in_front 7 (less (length out) (sheet_size (length (entries_given bytes)))) (omega arith) none)
      (omega arith)))

  -- a refusal writes nothing
  pub sheet_writer_refusal : ((sheet_written bytes out).number ≡ 0 → ⊥) →
      ((sheet_written bytes out).written ≡ 0) × ((sheet_written bytes out).out ≡ out)
  unfolding sheet_written
  sheet_writer_refusal =
      refused_bytes (write_number bytes) (sheet_size (length (entries_given bytes))) out (put_sheet out (entries_given bytes))

-- ---- the question: 8 and 12 of the image, then 14 to 16

module _ (L : Layout) (last : ℕ) (sheet : List ℕ) (pack : ℕ) (image : List ℕ) where
  -- it tells `pack_number`
  pack_number_lem : (pack_told L last sheet pack image).number ≡ pack_number L last sheet image
  unfolding pack_told
  pack_number_lem = told (λ (t : PackTold). t.number) _ _ (pack_number L last sheet image) refl refl

  -- the question's number is what rows 8 and 12 give, then 14 to 16
  pub pack_says : Says (pack_told L last sheet pack image).number (pack_checks L last sheet image)
  unfolding pack_number
  pack_says = rw pack_number_lem (read_then L last image (sheet_number_says sheet) (omega arith))

  -- a refusal tells its number and licence 0
  pub pack_refusal : ((pack_told L last sheet pack image).number ≡ 0 → ⊥) →
      pack_told L last sheet pack image ≡ refused_pack (pack_told L last sheet pack image).number
  unfolding pack_told
  pack_refusal = refusal_told (λ (t : PackTold). t.number) _ refused_pack (pack_number L last sheet image) refl (λ k. refl)

  -- an answer tells how the pack stands at the clock that read gives, by a sheet that is taken
  pub packs_taken : (pack_told L last sheet pack image).number ≡ 0 →
      ((reading L last image).number ≡ 0) × (sheet_number sheet ≡ 0)
      × ((pack_told L last sheet pack image).licence ≡ licence pack (reading L last image).clock (entries_of sheet))
  unfolding pack_number
  packs_taken e =
      let passed = none_given (read_number L last image) (sheet_number sheet) (sym pack_number_lem ∙ e) in
      let clock = read_told L last image ∙ passed.0 in
      (clock, passed.1, ap (λ (t : PackTold). t.licence) (pack_told_lem L last sheet pack image clock passed.1))

-- ---- how a pack stands

covers_says : (tick : ℕ) (e : Entry) → Decides (covers tick e) (Covers tick e)
covers_says tick e = both _ _ (leb-true e.first tick, le-leb e.first tick) (less tick e.end)

-- an entry's number is on its sheet
on_sheet : {e : Entry} {es : List Entry} → Memᴰ e es → OnSheet e.pack es
unfolding packs
on_sheet (Memᴰ.head e) = Memᴰ.head (ap (λ (x : Entry). x.pack) e)
on_sheet (Memᴰ.tail m) = Memᴰ.tail (on_sheet m)

module _ (pack tick : ℕ) (es : List Entry) where
  -- the two tests of `licence`
  abbrev force_now : Bool
  force_now = ltb 0 (how_many (entry_in_force pack tick) es)

  abbrev listed : Bool
  listed = ltb 0 (count pack (packs es))

  force_says : Decides force_now (InForce pack tick es)
  force_says =
      Iff.trans (many_says (entry_in_force pack tick) es) (
        λ x.
            let h = (this x.0).0 x.2 in
            record { entry = x.0; listed = x.1; number = h.0; covers = h.1 },
        λ f. (f.entry, f.listed, (this f.entry).1 (f.number, f.covers)),
      )
    where
      this : (e : Entry) → Decides (entry_in_force pack tick e) ((e.pack ≡ pack) × Covers tick e)
      this e = both _ _ (equal e.pack pack) (covers_says tick e)

  listed_says : Decides listed (OnSheet pack es)
  listed_says = Iff.trans (less 0 (count pack (packs es))) (member_says pack (packs es))

  -- a pack that is in force is listed
  both_pass : force_now ≡ true → listed ≡ true
  both_pass e = let f = force_says.0 e in listed_says.1 (Memᴰ.cast (sym f.number) (on_sheet f.listed))

  -- a pack is in force exactly where an entry has its number and covers the tick
  pub in_force_says : (licence pack tick es ≡ in_force) ↔ InForce pack tick es
  unfolding licence
  in_force_says = Iff.trans (go force_now listed) force_says
    where
      go : (s t : Bool) → (cond s in_force (cond t not_in_force not_licensed) ≡ in_force) ↔ (s ≡ true)
      go true t = (λ e. refl, λ e. refl)
      go false true = (λ e. absurd (omega arith), λ e. absurd (false≢true e))
      go false false = (λ e. absurd (omega arith), λ e. absurd (false≢true e))

  -- it is not licensed exactly where no entry has its number
  pub not_licensed_says : (licence pack tick es ≡ not_licensed) ↔ (OnSheet pack es → ⊥)
  unfolding licence
  not_licensed_says = Iff.trans (go force_now listed both_pass) (opposite listed listed_says)
    where
      go : (s t : Bool) → (s ≡ true → t ≡ true) → (cond s in_force (cond t not_in_force not_licensed) ≡ not_licensed) ↔ (not t ≡ true)
      go true true h = (λ e. absurd (omega arith), λ e. absurd (false≢true e))
      go true false h = absurd (false≢true (h refl))
      go false true h = (λ e. absurd (omega arith), λ e. absurd (false≢true e))
      go false false h = (λ e. refl, λ e. refl)

  -- and between the two exactly where it is on the sheet and not in force
  pub not_in_force_says : (licence pack tick es ≡ not_in_force) ↔ (OnSheet pack es × (InForce pack tick es → ⊥))
  unfolding licence
  not_in_force_says = Iff.trans (go force_now listed) (both listed (not force_now) listed_says (opposite force_now force_says))
    where
      go : (s t : Bool) → (cond s in_force (cond t not_in_force not_licensed) ≡ not_in_force) ↔ ((t && not s) ≡ true)
      go true true = (λ e. absurd (omega arith), λ e. absurd (false≢true e))
      go true false = (λ e. absurd (omega arith), λ e. absurd (false≢true e))
      go false true = (λ e. refl, λ e. refl)
      go false false = (λ e. absurd (omega arith), λ e. absurd (false≢true e))

-- ---- the entry that has the number decides

-- no entry has a number that stands nowhere
apart : (pack : ℕ) {x : Entry} {es : List Entry} → count pack (packs es) ≡ 0 → Memᴰ x es → pack ≡ x.pack → ⊥
apart pack {x} {es} z m same = omega (arith, (member_says pack (packs es)).1 (Memᴰ.cast same (on_sheet m)))

-- so the entry that has a number is the only one
only : {e x : Entry} {es : List Entry} → twins (packs es) ≡ 0 → Memᴰ e es → Memᴰ x es → e.pack ≡ x.pack → e ≡ x
unfolding packs twins
only z (Memᴰ.head p) (Memᴰ.head q) same = p ∙ sym q
only z (Memᴰ.head {x = y} p) (Memᴰ.tail m) same =
    absurd (apart y.pack (omega arith) m (ap (λ (y : Entry). y.pack) (sym p) ∙ same))
only z (Memᴰ.tail m) (Memᴰ.head {x = y} q) same =
    absurd (apart y.pack (omega arith) m (ap (λ (y : Entry). y.pack) (sym q) ∙ sym same))
only z (Memᴰ.tail m) (Memᴰ.tail n) same = only (omega arith) m n same

module _ {e : Entry} {es : List Entry} (tick : ℕ) (z : entries_number es ≡ 0) (m : Memᴰ e es) where
  covers_all_lem : InForce e.pack tick es ↔ Covers tick e
  covers_all_lem = (
    λ f. subst (Covers tick) (only (sound_packs es z).1 f.listed m f.number) f.covers,
    λ c. record { entry = e; listed = m; number = refl; covers = c },
  )

  -- its pack is in force exactly where it covers the tick
  pub the_entry_decides : (licence e.pack tick es ≡ in_force) ↔ Covers tick e
  the_entry_decides = Iff.trans (in_force_says e.pack tick es) covers_all_lem

  -- and on the sheet without being in force exactly where it does not
  pub the_entry_denies : (licence e.pack tick es ≡ not_in_force) ↔ (Covers tick e → ⊥)
  the_entry_denies =
      Iff.trans (not_in_force_says e.pack tick es)
      (λ h c. h.1 (covers_all_lem.1 c), λ n. (on_sheet m, λ f. n (covers_all_lem.0 f)))
