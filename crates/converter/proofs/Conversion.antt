-- What the number of a conversion decides: with 0 the node of the old image stands in the new layout, with any other number nothing is
-- written; and each number is given exactly when its row of the table applies. What is written fits the new layout, so that it reads back,
-- and is sound there. Over the layouts and the last tick.
-- Assumes nothing.
use mathlib.Core.Path.{◌≡◌, refl, sym, ap, ◌∙◌}
use mathlib.Core.Bool.{Bool, true, false, cond}
use mathlib.Core.List.{List}
use Prim.Native.Nat.{ℕ, ◌≤◌}
use native.Mathlib.Omega.{arith}
use borrow.Author.Tests.{eq-eqb, ne_eqb, le-ltb, ltb-false}
use lib.ListN.{length, get_or, take, drop}
use lib.Seq.{take_all, length-take-le}
use lib.Dec.{ltb, eqb, lit<}
use Rattle.fields.specs.Field.{Bytes}
use Rattle.fields.proofs.Fields.{field_lt}
use Rattle.fields.proofs.Over.{drop_same}
use Rattle.forms.specs.Table.{Says}
use Rattle.forms.proofs.Meaning.{less, in_front, none, told}
use Rattle.evidence.proofs.Encoded.{rows_fit}
use Rattle.evidence.proofs.Growth.{all_kept_test}
use Rattle.evidence.proofs.Wider.{rows_fit_wider}
use Rattle.rules.specs.Delivery.{State}
use Rattle.rules.specs.declared.node.Node.{Node}
use Rattle.node.specs.Calls.{reading}
use Rattle.node.specs.Image.{mode_place, own_place, tick_place, sent_place, node_of, rows_of, state_of, put_state, headed, sound_image}
use Rattle.node.specs.Layout.{header_size, image_size}
use Rattle.node.specs.Matched.{Matched, Pair}
use Rattle.node.specs.Runs.{under}
use Rattle.node.specs.declared.layout.Layout.{Layout}
use Rattle.node.proofs.Conditions.{not_sound_says}
use Rattle.node.proofs.Images.{StateFits, Written, length_put_state, bytes_put_state, get_d_put_state_after}
use Rattle.node.proofs.Images.{state_lines, state_over, state_read_back}
use Rattle.node.proofs.Numbers.{swap}
use Rattle.node.proofs.Orderly.{sound_order}
use Rattle.node.proofs.Outcomes.{reading_same}
use Rattle.node.proofs.Sound.{Sound, sound_bytes}
use Rattle.node.proofs.SoundImages.{written_sound}
use Rattle.node.proofs.Taken.{passed, past_image}
use Rattle.node.proofs.Wider.{facts_wider, under_wider}
use Rattle.converter.specs.Convert.{Widens, Converted, unconverted, conversion_number, convert_done, converted, new_image}
use Rattle.converter.specs.Table.{convert_checks}

-- ---- the number

-- what a conversion with number 0 has been asked
pub record Ready (L M : Layout) (last : ℕ) (old image : List ℕ) : Type 0 where
  pub sound : sound_image L last old ≡ true
  pub room : image_size M (get_or old 0 0) ≤ length image

module _ (L M : Layout) (last : ℕ) (old image : List ℕ) where
  abbrev number : ℕ
  number = conversion_number L M last old (length image)

  abbrev converts : Converted
  converts = converted L M last old image

  convert_told : converts.number ≡ number
  unfolding converted
  convert_told = told (λ (c : Converted). c.number) (convert_done L M old image) (unconverted number image) number refl refl

  pub convert_done_lem : converts.number ≡ 0 → converts ≡ convert_done L M old image
  unfolding converted
  convert_done_lem ok =
      ap (λ (t : Bool). cond t (convert_done L M old image) (unconverted number image)) (eq-eqb number 0 (sym convert_told ∙ ok))

  pub convert_refused : (converts.number ≡ 0 → ⊥) → converts ≡ unconverted converts.number image
  unfolding converted
  convert_refused n =
      ap (λ (t : Bool). cond t (convert_done L M old image) (unconverted number image)) (ne_eqb number 0 (λ e. n (convert_told ∙ e)))
      ∙ ap (λ (k : ℕ). unconverted k image) (sym convert_told)

  -- 8, 6
  pub convert_says : Says converts.number (convert_checks L M last old image)
  unfolding conversion_number node_of
  convert_says =
      rw (convert_told, swap (sound_image L last old))
      (in_front 8 (not_sound_says L last old) (omega arith)
      (in_front 6 (less (length image) (image_size M (get_or old 0 0))) (omega arith) none))

  pub number_ready : number ≡ 0 → Ready L M last old image
  unfolding conversion_number
  number_ready ok =
      let sound = past_image (sound_image L last old) _ ok in
      let room = passed (ltb (length image) (image_size M (get_or old 0 0))) 6 _ (lit< tt) sound.1 in
      record { sound = sound.0; room = ltb-false _ _ room.0 }

  convert_taken : converts.number ≡ 0 → Ready L M last old image
  convert_taken ok = number_ready (sym convert_told ∙ ok)

  convert_ready : Ready L M last old image → converts.number ≡ 0
  unfolding conversion_number
  convert_ready h = rw (convert_told, h.sound, le-ltb (length image) (image_size M (get_or old 0 0)) h.room)

-- ---- what is left alone, and that nothing hangs on the buffer

module _ (L M : Layout) (last : ℕ) (old image : List ℕ) where
  -- a refusal writes nothing, so all of the buffer lies behind
  abbrev Keeps : Converted → Type 0
  Keeps c = (length c.image ≡ length image) × (drop c.written c.image ≡ drop c.written image)

  pub convert_keeps : Keeps (converts L M last old image)
  unfolding converted state_of node_of
  convert_keeps = go (eqb (number L M last old image) 0)
    where
      long : length (put_state M image (state_of L old)) ≡ length image
      long = length_put_state M image (state_of L old)

      go : (t : Bool) → Keeps (cond t (convert_done L M old image) (unconverted (number L M last old image) image))
      go true = (long, drop_same _ _ _ long (λ j far. get_d_put_state_after M image (state_of L old) j (state_lines L old) far))
      go false = (refl, refl)

convert_bytes :
    (L M : Layout) (last : ℕ) (old image : List ℕ)
    → Bytes image
    → (converts L M last old image).number ≡ 0
    → Bytes (converts L M last old image).image
convert_bytes L M last old image bytes ok = rw (convert_done_lem L M last old image ok) (bytes_put_state M image (state_of L old) bytes)

pub new_alike :
    (L M : Layout) (last : ℕ) (old image other : List ℕ)
    → (converts L M last old image).number ≡ 0
    → (converts L M last old other).number ≡ 0
    → new_image (converts L M last old image) ≡ new_image (converts L M last old other)
unfolding state_of node_of
new_alike L M last old image other ok ok' =
    rw (convert_done_lem L M last old image ok, convert_done_lem L M last old other ok')
    (state_over M image other (state_of L old) (state_lines L old) (convert_taken L M last old image ok).room
    (convert_taken L M last old other ok').room)

-- ---- what is written

module _ (L M : Layout) (widens : Widens L M) (old image : List ℕ) (bytes : Bytes old) where
  -- an old image's numbers fit the new layout, be it sound or not: they are of bytes
  old_fits : image_size M (get_or old 0 0) ≤ length image → StateFits M image (state_of L old)
  unfolding state_of node_of
  old_fits room =
      record {
        node = record {
          lines = bytes 0;
          faults = bytes 1;
          own = field_lt 4 old own_place bytes;
          mode = bytes mode_place;
          tick = field_lt 4 old tick_place bytes;
          sent = field_lt 4 old sent_place bytes;
        };
        rows =
            rows_fit_wider L.masks M.masks widens.masks (rows_of L old) (rows_fit L.masks (get_or old 0 0) old header_size bytes);
        count = state_lines L old;
        room = room;
      }

  -- so they read back
  old_written : image_size M (get_or old 0 0) ≤ length image → Written M image (state_of L old) (put_state M image (state_of L old))
  old_written room =
      state_read_back M image (state_of L old) (record { mark = widens.mark; size = widens.size }) (old_fits room)

  module _ (last : ℕ) (ok : (converts L M last old image).number ≡ 0) where
    ready : Ready L M last old image
    ready = convert_taken L M last old image ok

    pub convert_writes : Written M image (state_of L old) (converts L M last old image).image
    convert_writes = rw (convert_done_lem L M last old image ok) (old_written ready.room)

    before : Sound L.window last (state_of L old)
    before = (sound_bytes L last old ready.sound).node

    -- a state that was sound in the narrower window is sound in the wider one
    pub convert_sound : sound_image M last (converts L M last old image).image ≡ true
    convert_sound =
        written_sound M last image (state_of L old) _
        (facts_wider L.window M.window last widens.window (state_of L old) before) (old_fits ready.room) convert_writes

    -- and holds the same under each serial
    pub convert_ticks :
        (serial kind t : ℕ)
        → under M.window (rows_of M (converts L M last old image).image) serial kind t ≡ under L.window (rows_of L old) serial kind t
    unfolding state_of
    convert_ticks serial kind t =
        ap (λ (s : State). under M.window s.rows serial kind t) convert_writes.state
        ∙ under_wider L.window M.window last widens.window (rows_of L old)
        (all_kept_test L.window last (rows_of L old) before.sets) serial kind t

    -- so that read gives the same
    pub convert_reads : reading M last (converts L M last old image).image ≡ reading L last old
    unfolding state_of
    convert_reads =
        reading_same M L last (converts L M last old image).image old convert_sound ready.sound
        (ap (λ (s : State). s.node) convert_writes.state)

-- ---- the bytes written, by themselves

-- they are what a buffer of just their length would hold
new_alone :
    (L M : Layout) (last : ℕ) (old image exact : List ℕ)
    → (converts L M last old image).number ≡ 0
    → length exact ≡ image_size M (get_or old 0 0)
    → ((converts L M last old exact).number ≡ 0) × (new_image (converts L M last old image) ≡ (converts L M last old exact).image)
new_alone L M last old image exact ok long =
    let ready : Ready L M last old exact = record { sound = (convert_taken L M last old image ok).sound; room = omega arith } in
    let ok' = convert_ready L M last old exact ready in
    let size = ap (λ (c : Converted). c.written) (convert_done_lem L M last old exact ok') in (
      ok',
      new_alike L M last old image exact ok ok'
          ∙ take_all (converts L M last old exact).written (converts L M last old exact).image
          (omega (arith, size, (convert_keeps L M last old exact).0)),
    )

-- so they are an image
pub new_stands :
    (L M : Layout) (last : ℕ) (old image : List ℕ)
    → Widens L M
    → Bytes old
    → (converts L M last old image).number ≡ 0
    → let new = new_image (converts L M last old image) in
    (sound_image M last new ≡ true) × (state_of M new ≡ state_of L old)
new_stands L M last old image widens bytes ok =
    let size = image_size M (get_or old 0 0) in
    let exact = take size image in
    let alone = new_alone L M last old image exact ok (length-take-le size image (convert_taken L M last old image ok).room) in
    rw alone.1
    (convert_sound L M widens old exact bytes last alone.0, (convert_writes L M widens old exact bytes last alone.0).state)

-- ---- the order of rows

-- whether an old image is sound, and so the number, does not hang on the order of its rows
pub number_alike :
    (L M : Layout) (last : ℕ) (old other image buffer : List ℕ)
    → headed L old ≡ headed L other
    → Matched (state_of L old) (state_of L other)
    → length image ≡ length buffer
    → (converts L M last old image).number ≡ (converts L M last other buffer).number
unfolding conversion_number sound_image state_of node_of
number_alike L M last old other image buffer head same long =
    let lines : get_or old 0 0 ≡ get_or other 0 0 = ap (λ (p : Node). p.lines) same.node in
    rw (
      convert_told L M last old image,
      convert_told L M last other buffer,
      head,
      sound_order L.window last same,
      long,
      lines,
    )

module _ (L M : Layout) (last : ℕ) (old other image buffer : List ℕ)
    (pair : Pair L last old other) (long : length image ≡ length buffer) where
  pub number_order : (converts L M last old image).number ≡ (converts L M last other buffer).number
  unfolding conversion_number state_of node_of
  number_order =
      let lines : get_or old 0 0 ≡ get_or other 0 0 = ap (λ (p : Node). p.lines) pair.same.node in
      rw (convert_told L M last old image, convert_told L M last other buffer, pair.first, pair.second, long, lines)

  pub pair_order :
      Widens L M
      → Bytes image
      → Bytes buffer
      → (converts L M last old image).number ≡ 0
      → Pair M last (converts L M last old image).image (converts L M last other buffer).image
  pair_order widens bytes bytes' ok =
      let ok' : (converts L M last other buffer).number ≡ 0 = sym number_order ∙ ok in
      record {
        first = convert_sound L M widens old image pair.bytes₁ last ok;
        second = convert_sound L M widens other buffer pair.bytes₂ last ok';
        bytes₁ = convert_bytes L M last old image bytes ok;
        bytes₂ = convert_bytes L M last other buffer bytes' ok';
        same =
            rw (
              (convert_writes L M widens old image pair.bytes₁ last ok).state,
              (convert_writes L M widens other buffer pair.bytes₂ last ok').state,
            )
            pair.same;
      }
