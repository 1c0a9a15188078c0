-- What the writer of a sheet wrote its reader gives back, and a sheet that ascends is written again byte for byte; bytes behind what is
-- written stay. Entries given in another order are written as the same bytes.
-- Assumes nothing.
use mathlib.Core.Path.{◌≡◌, refl, sym, ap, ap₂, ◌∙◌}
use mathlib.Core.Logic.{inr}
use mathlib.Core.Bool.{Bool, true, false, cond}
use mathlib.Core.List.Permᴰ
use mathlib.Core.List.{List, ◌++◌}
use Prim.Native.Nat.{ℕ, zero, suc, ◌+◌, ◌-◌, ◌*◌, ◌/◌, ◌%◌, ◌≤◌, ◌<◌}
use native.Mathlib.Nat.{zero-add}
use native.Mathlib.Decide.{ℕ_discrete}
use native.Mathlib.Omega.{arith}
use lib.ListN.{length, get_or, take, drop, length-drop}
use lib.Seq.{get_or-take, get_or-drop, length-take-le}
use lib.Dec.{eqb}
use borrow.Author.Tests.{eq-eqb, ne_eqb, le-ltb}
use Rattle.fields.specs.Field.{field, put_field, Bytes}
use Rattle.fields.proofs.Fields.{field_take, field_put, field_put_other, put_field_lem, length_put, take_put, drop_put}
use Rattle.forms.specs.Column.{twins, ascends}
use Rattle.forms.specs.Form.{WriteTold, write_told}
use Rattle.forms.specs.Number.{or_else}
use Rattle.forms.proofs.RoundTrip.{wrote, wrote_bytes, kept_bytes}
use Rattle.node.specs.Calls.{read_number, reading}
use Rattle.node.specs.declared.layout.Layout.{Layout}
use Rattle.packs.specs.Question.{licence, PackTold, refused_pack, pack_number, pack_told, entries_say}
use Rattle.packs.specs.Sheet.{entries_place, entry_size, most_entries, sheet_size, entries_in, count_of, offset_of, entries_of, packs}
use Rattle.packs.specs.Sheet.{entries_number, sheet_number, sheet_told, entry_on, no_entry, Reordered}
use Rattle.packs.specs.Writer.{ascending, put_entries, put_sheet, entries_given, unfit, write_number, sheet_written, bytes_written}
use Rattle.packs.specs.declared.sheet.Entry.{Entry}
use Rattle.packs.proofs.Ascending.{length_ascending, ascending_perm, ascending_order, ascending_ascends, ascending_self}
use Rattle.packs.proofs.Runs.{length_entries_in, entries_same}
use Rattle.packs.proofs.Meaning.{sheet_writer_says}
use Rattle.packs.proofs.Order.{entries_number_order, licence_order, write_number_order}
use Rattle.packs.proofs.Puts.{narrow_entries, narrow_order, length_put_entries, field_put_entries_before}
use Rattle.packs.proofs.Puts.{drop_put_entries, take_put_entries, entries_put_entries, put_entries_entries}
use Rattle.packs.proofs.Told.{sound_packs, taken_parts, placed_parts, sheet_lines}

-- where 14 to 16 do not refuse the bytes, 15 and 16 do not refuse their entries
given_sound : (bytes : List ℕ) → write_number bytes ≡ 0 → entries_number (entries_given bytes) ≡ 0
unfolding write_number
given_sound bytes = go (unfit bytes)
  where
    go : (t : Bool) → cond t 14 (entries_number (entries_given bytes)) ≡ 0 → entries_number (entries_given bytes) ≡ 0
    go true z = absurd (omega arith)
    go false z = z

-- ---- the bytes of a sheet

module _ (out : List ℕ) (es : List Entry) where
  length_sheet : length (put_sheet out es) ≡ length out
  unfolding put_sheet
  length_sheet = length_put_entries _ entries_place (ascending es) ∙ simp length_put

  drop_sheet : drop (sheet_size (length es)) (put_sheet out es) ≡ drop (sheet_size (length es)) out
  unfolding put_sheet
  drop_sheet =
      drop_put_entries _ entries_place (ascending es) (sheet_size (length es)) (omega (arith, length_ascending es))
      ∙ drop_put 2 _ 2 entries_place (sheet_size (length es)) (omega arith)
      ∙ drop_put 2 out 0 (length es) (sheet_size (length es)) (omega arith)

  -- the bytes written do not depend on what stood there
  take_sheet : (b : List ℕ) → sheet_size (length es) ≤ length out → sheet_size (length es) ≤ length b →
      take (sheet_size (length es)) (put_sheet out es) ≡ take (sheet_size (length es)) (put_sheet b es)
  unfolding put_sheet
  take_sheet b p q =
      take_put_entries _ _ entries_place (ascending es) (sheet_size (length es))
      (omega (arith, length_ascending es)) (simp length_put p) (simp length_put q)
      (take_put 2 _ _ 2 entries_place (simp length_put (omega arith)) (simp length_put (omega arith))
      (take_put 2 out b 0 (length es) (omega arith) (omega arith) refl))

-- bytes behind a sheet stay, and so does the length, whatever the number
pub sheet_kept : (bytes out : List ℕ) →
    (drop (sheet_size (length (entries_given bytes))) (sheet_written bytes out).out ≡ drop (sheet_size (length (entries_given bytes))) out)
    × (length (sheet_written bytes out).out ≡ length out)
unfolding sheet_written
sheet_kept bytes out =
    kept_bytes (write_number bytes) (sheet_size (length (entries_given bytes))) out (put_sheet out (entries_given bytes))
    (drop_sheet out (entries_given bytes)) (length_sheet out (entries_given bytes))

-- ---- what the reader gives back

-- a sheet that the writer gave number 0
module _ (bytes out : List ℕ) (h : Bytes bytes) (ok : (sheet_written bytes out).number ≡ 0) where
  es : List Entry
  es = entries_given bytes

  sheet : List ℕ
  sheet = take (sheet_size (length es)) (put_sheet out es)

  done :
      (write_number bytes ≡ 0) × (sheet_size (length es) ≤ length out)
      × (sheet_written bytes out ≡ record { number = 0; written = sheet_size (length es); out = put_sheet out es })
  unfolding sheet_written es
  done = wrote (write_number bytes) (sheet_size (length es)) out (put_sheet out es) ok

  bytes_of : bytes_written bytes out ≡ sheet
  unfolding sheet
  bytes_of = ap (λ (t : WriteTold). take t.written t.out) done.2

  sound : entries_number es ≡ 0
  unfolding es
  sound = given_sound bytes done.0

  few : length es ≤ most_entries
  unfolding es
  few =
      let fit : most_entries * entry_size < length bytes → ⊥ = λ p. (((sheet_writer_says bytes out).exactly 0).0 ok).0 (inr p) in
      omega (arith, fit, length_entries_in ((length bytes - 0) / entry_size) bytes 0)

  -- a field in front of the entries
  header : (w i : ℕ) → i + w ≤ entries_place →
      field w sheet i ≡ field w (put_field 2 (put_field 2 out 0 (length es)) 2 entries_place) i
  unfolding sheet put_sheet
  header w i p =
      field_take w (sheet_size (length es)) _ i (omega arith) ∙ field_put_entries_before w _ entries_place (ascending es) i p

  count_back : count_of sheet ≡ length es
  count_back =
      header 2 0 (omega arith)
      ∙ field_put_other 2 2 _ 2 entries_place 0 (omega arith)
      ∙ field_put 2 out 0 (length es) (omega (arith, done.1)) (omega (arith, few))

  offset_back : offset_of sheet ≡ entries_place
  offset_back = header 2 2 (omega arith) ∙ field_put 2 _ 2 entries_place (simp length_put (omega (arith, done.1))) (omega arith)

  entries_back : entries_of sheet ≡ ascending es
  unfolding sheet put_sheet es
  entries_back =
      ap (λ (n : ℕ). entries_in n sheet entries_place) (count_back ∙ sym (length_ascending es))
      ∙ entries_same (length (ascending es)) sheet _ entries_place entries_place
      (λ k p. get_or-take (sheet_size (length es)) _ (entries_place + k) 0 (omega (arith, length_ascending es)))
      ∙ entries_put_entries _ entries_place (ascending es)
      (narrow_order (Permᴰ.symm (ascending_perm es)) (narrow_entries _ bytes 0 h))
      (simp length_put (omega (arith, done.1, length_ascending es)))

  number_back : sheet_number sheet ≡ 0
  unfolding sheet_number sheet
  number_back =
      cc (
        le-ltb (length sheet) entries_place (omega (arith, size)),
        eq-eqb (offset_of sheet) entries_place offset_back,
        le-ltb most_entries (count_of sheet) (omega (arith, count_back, few)),
        eq-eqb (length sheet) (sheet_size (count_of sheet)) (omega (arith, size, count_back)),
        entries_back,
        entries_number_order (ascending_perm es),
        sound,
      )
    where
      size : length sheet ≡ sheet_size (length es)
      size = length-take-le (sheet_size (length es)) (put_sheet out es) (omega (arith, done.1, length_sheet out es))

  -- its bytes are taken by the reader
  pub number_read_back : sheet_number (bytes_written bytes out) ≡ 0
  number_read_back = rw bytes_of number_back

  -- with the count of entries
  pub sheet_read_back : sheet_told (bytes_written bytes out) ≡ record { number = 0; count = length (entries_given bytes) }
  unfolding sheet_told es
  sheet_read_back = rw bytes_of (cc (number_back, count_back))

  -- and with the entries
  pub entries_read_back : entries_of (bytes_written bytes out) ≡ ascending (entries_given bytes)
  unfolding es
  entries_read_back = rw bytes_of entries_back

  -- line by line
  pub entry_read_back : (line : ℕ) → entry_on (bytes_written bytes out) line ≡ get_or (ascending (entries_given bytes)) line no_entry
  unfolding entry_on es
  entry_read_back line = rw bytes_of (cc (number_back, entries_back))

  -- they ascend
  pub sheet_ascends : ascends (packs (entries_of (bytes_written bytes out))) ≡ true
  unfolding es
  sheet_ascends = rw entries_read_back (ascending_ascends es (sound_packs es sound).1)

  -- and every pack stands as the entries given say
  pub licences_read_back : (pack tick : ℕ) →
      licence pack tick (entries_of (bytes_written bytes out)) ≡ licence pack tick (entries_given bytes)
  unfolding es
  licences_read_back pack tick = rw entries_read_back (licence_order (ascending_perm es) pack tick)

  -- so every question that comes to the sheet is answered as they say
  pub answers_read_back : (L : Layout) (last pack : ℕ) (image : List ℕ) →
      pack_told L last (bytes_written bytes out) pack image ≡ entries_say L last (entries_given bytes) pack image
  unfolding pack_told pack_number entries_say
  answers_read_back L last pack image =
      ap₂ (λ (n l : ℕ). cond {A = PackTold} (eqb n 0) (record { number = 0; licence = l }) (refused_pack n))
      (image_alone (read_number L last image)) (licences_read_back pack (reading L last image).clock)
    where
      image_alone : (n : ℕ) → or_else n (sheet_number (bytes_written bytes out)) ≡ n
      image_alone zero = number_read_back
      image_alone (suc n) = refl

-- ---- entries in another order

module _ (bytes others out : List ℕ) (r : Reordered 0 bytes others) where
  length_same : length (entries_given bytes) ≡ length (entries_given others)
  length_same =
      length_entries_in _ bytes 0 ∙ ap (λ (n : ℕ). (n - 0) / entry_size) r.size ∙ sym (length_entries_in _ others 0)

  -- the same sheet, where no pack number stands twice
  sheet_same : twins (packs (entries_given bytes)) ≡ 0 → put_sheet out (entries_given bytes) ≡ put_sheet out (entries_given others)
  unfolding put_sheet
  sheet_same once =
      ap₂ (λ (n : ℕ) (l : List Entry). put_entries (put_field 2 (put_field 2 out 0 n) 2 entries_place) entries_place l)
      length_same (ascending_order r.entries once)

  -- two lists of entries that are reorderings of each other give the same bytes, whatever the number
  pub same_bytes : sheet_written bytes out ≡ sheet_written others out
  unfolding sheet_written
  same_bytes =
      elim (ℕ_discrete (write_number bytes) 0) [
        | yes e ↦ cc (number, length_same, sheet_same (sound_packs (entries_given bytes) (given_sound bytes e)).1)
        | no n ↦ cc (number, ne_eqb (write_number bytes) 0 n, ne_eqb (write_number others) 0 (λ e. n (number ∙ e)))
      ]
    where
      number : write_number bytes ≡ write_number others
      number = write_number_order r

-- ---- a sheet written again

-- a sheet that is taken
module _ (b : List ℕ) (e : sheet_number b ≡ 0) where
  offset : offset_of b ≡ entries_place
  offset = (placed_parts b (taken_parts b e).0).0

  size : length b ≡ sheet_size (count_of b)
  size = (placed_parts b (taken_parts b e).0).2

  -- its entries, as the writer is given them
  entries_again : entries_given (drop entries_place b) ≡ entries_of b
  entries_again =
      ap (λ (n : ℕ). entries_in n (drop entries_place b) 0) number
      ∙ entries_same (count_of b) (drop entries_place b) b 0 entries_place (λ k p. rw zero-add (get_or-drop entries_place b k 0))
    where
      number : (length (drop entries_place b) - 0) / entry_size ≡ count_of b
      number = omega (arith, length-drop entries_place b, size)

  number_again : write_number (drop entries_place b) ≡ 0
  unfolding write_number
  number_again =
      cc (
        eq-eqb (length (drop entries_place b) % entry_size) 0 (omega (arith, length-drop entries_place b, size)),
        le-ltb (most_entries * entry_size) (length (drop entries_place b))
            (omega (arith, length-drop entries_place b, size, (sheet_lines b e).few)),
        entries_again,
        (taken_parts b e).1,
      )

  -- a sheet that ascends, written over itself, stays
  sheet_self : Bytes b → ascends (packs (entries_of b)) ≡ true → put_sheet b (entries_of b) ≡ b
  unfolding put_sheet
  sheet_self h up =
      cc (
        length_entries_in (count_of b) b entries_place,
        offset,
        put_field_lem 2 b 0 h,
        put_field_lem 2 b 2 h,
        ascending_self (entries_of b) up,
        put_entries_entries (count_of b) b entries_place h,
      )

-- a sheet that the reader took and that ascends is written byte for byte, over the front of the output
pub written_again : (b out : List ℕ) → Bytes b → sheet_number b ≡ 0 → ascends (packs (entries_of b)) ≡ true → length b ≤ length out →
    sheet_written (drop entries_place b) out ≡ record { number = 0; written = length b; out = b ++ drop (length b) out }
unfolding sheet_written
written_again b out h e up p =
    rw (entries_again b e)
    (wrote_bytes (write_number (drop entries_place b)) (sheet_size (length (entries_of b))) out (put_sheet out (entries_of b)) b ok long
    (take_sheet out (entries_of b) b (omega (arith, long)) (omega (arith, long))
    ∙ ap (take (sheet_size (length (entries_of b)))) (sheet_self b e h up))
    (drop_sheet out (entries_of b)))
  where
    long : length b ≡ sheet_size (length (entries_of b))
    long = omega (arith, size b e, length_entries_in (count_of b) b entries_place)

    ok : (write_told (write_number (drop entries_place b)) (sheet_size (length (entries_of b))) out (put_sheet out (entries_of b))).number ≡ 0
    ok = rw (number_again b e, le-ltb (length out) (sheet_size (length (entries_of b))) (omega (arith, long)))
