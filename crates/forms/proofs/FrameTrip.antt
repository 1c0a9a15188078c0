-- What the frame writer wrote the frame reader gives back, flag and all, and what the reader took the writer writes again byte for
-- byte; bytes behind a frame stay, and a refusal changes no byte.
-- Assumes nothing.
use mathlib.Core.Path.{◌≡◌, refl, sym, ap, ◌∙◌}
use mathlib.Core.Logic.{◌↔◌, inl, inr}
use mathlib.Core.Bool.{not, or-false}
use mathlib.Core.List.{List, ◌++◌}
use Prim.Native.Nat.{ℕ, ◌+◌, ◌^◌, ◌≤◌, ◌<◌}
use native.Mathlib.Omega.{arith}
use lib.ListN.{length, get_or, take, drop}
use lib.Seq.{get_or-take, length-take-le}
use Rattle.fields.specs.Field.{field, Bytes}
use Rattle.forms.specs.Form.{WriteTold}
use Rattle.forms.specs.Frame.{frame_size, known_head, frame_at, frame_number, frame_told}
use Rattle.forms.specs.Frame.{Narrow, put_frame_bytes, frame_written, frame_write_number}
use Rattle.forms.specs.Table.{Given, frame_checks}
use Rattle.forms.specs.declared.frame.Frame.{Frame}
use Rattle.fields.proofs.Fields.{field_byte, field_take, field_put, field_put_other, put_field_lem, length_put, take_put, drop_put}
use Rattle.forms.proofs.Frames.{head_narrow, not_bad_head}
use Rattle.forms.proofs.Meaning.{not_apart, frame_told_lem, frame_says, frame_writer_says}
use Rattle.forms.proofs.RoundTrip.{wrote, wrote_bytes, refused_bytes, kept_bytes}

-- ---- a frame put at a place

module _ (out : List ℕ) (i : ℕ) (frame : Frame) where
  pub length_frame : length (put_frame_bytes out i frame) ≡ length out
  unfolding put_frame_bytes
  length_frame = simp length_put

  module _ (inside : i + frame_size ≤ length out) where
    -- it lies there, where it fits its bytes
    pub frame_there : Narrow frame → frame.tick < 2 ^ 32 → frame_at (put_frame_bytes out i frame) i ≡ frame
    unfolding put_frame_bytes
    frame_there narrow fits = λ d. record { kind = kind d; flag = flag d; tick = tick d }
      where
        kind : get_or (put_frame_bytes out i frame) i 0 ≡ frame.kind
        kind =
            sym (field_byte _ i)
            ∙ field_put_other 1 4 _ (i + 4) _ i (omega arith)
            ∙ field_put_other 1 2 _ (i + 2) 0 i (omega arith)
            ∙ field_put_other 1 1 _ (i + 1) _ i (omega arith)
            ∙ field_put 1 out i _ (omega arith) narrow.kind

        flag : get_or (put_frame_bytes out i frame) (i + 1) 0 ≡ frame.flag
        flag =
            sym (field_byte _ (i + 1))
            ∙ field_put_other 1 4 _ (i + 4) _ (i + 1) (omega arith)
            ∙ field_put_other 1 2 _ (i + 2) 0 (i + 1) (omega arith)
            ∙ field_put 1 _ (i + 1) _ (simp length_put (omega arith)) narrow.flag

        tick : field 4 (put_frame_bytes out i frame) (i + 4) ≡ frame.tick
        tick = field_put 4 _ (i + 4) _ (simp length_put (omega arith)) fits

    -- with two zero bytes behind the flag
    zeros_there : field 2 (put_frame_bytes out i frame) (i + 2) ≡ 0
    unfolding put_frame_bytes
    zeros_there =
        field_put_other 2 4 _ (i + 4) _ (i + 2) (omega arith) ∙ field_put 2 _ (i + 2) 0 (simp length_put (omega arith)) (omega arith)

module _ (out : List ℕ) (frame : Frame) where
  drop_frame : drop frame_size (put_frame_bytes out 0 frame) ≡ drop frame_size out
  unfolding put_frame_bytes
  drop_frame =
      drop_put 4 _ 4 frame.tick frame_size (omega arith)
      ∙ drop_put 2 _ 2 0 frame_size (omega arith)
      ∙ drop_put 1 _ 1 frame.flag frame_size (omega arith)
      ∙ drop_put 1 out 0 frame.kind frame_size (omega arith)

  take_frame : (b : List ℕ) → frame_size ≤ length out → frame_size ≤ length b →
      take frame_size (put_frame_bytes out 0 frame) ≡ take frame_size (put_frame_bytes b 0 frame)
  unfolding put_frame_bytes
  take_frame b p q =
      take_put 4 _ _ 4 frame.tick (simp length_put (omega arith)) (simp length_put (omega arith))
      (take_put 2 _ _ 2 0 (simp length_put (omega arith)) (simp length_put (omega arith))
      (take_put 1 _ _ 1 frame.flag (simp length_put (omega arith)) (simp length_put (omega arith))
      (take_put 1 out b 0 frame.kind (omega arith) (omega arith) refl)))

-- the frame in the front of a buffer
front : (b : List ℕ) → frame_at (take frame_size b) 0 ≡ frame_at b 0
front b =
    λ d.
    record {
      kind = get_or-take frame_size b 0 0 (omega arith) d;
      flag = get_or-take frame_size b 1 0 (omega arith) d;
      tick = field_take 4 frame_size b 4 (omega arith) d;
    }

-- the two bytes behind the flag
zero_bytes : (b : List ℕ) → (field 2 b 2 ≡ 0) ↔ ((get_or b 2 0 ≡ 0) × (get_or b 3 0 ≡ 0))
unfolding field
zero_bytes b = omega arith

-- ---- what is written is read back

-- a frame that the writer gave number 0
module _ (last : ℕ) (frame : Frame) (out : List ℕ) (fits : frame.tick < 2 ^ 32) (ok : (frame_written last frame out).number ≡ 0) where
  bytes : List ℕ
  bytes = take frame_size (put_frame_bytes out 0 frame)

  sent :
      (frame_write_number last frame ≡ 0) × (frame_size ≤ length out)
      × (frame_written last frame out ≡ record { number = 0; written = frame_size; out = put_frame_bytes out 0 frame })
  unfolding frame_written
  sent = wrote (frame_write_number last frame) frame_size out (put_frame_bytes out 0 frame) ok

  frame_back : frame_at bytes 0 ≡ frame
  unfolding bytes
  frame_back = front (put_frame_bytes out 0 frame) ∙ frame_there out 0 frame sent.1 narrow fits
    where
      narrow : Narrow frame
      narrow = head_narrow frame (not_bad_head _ _ (((frame_writer_says last frame out).exactly 0).0 ok).0)

  frame_number_back : frame_number last bytes ≡ 0
  unfolding frame_number bytes
  frame_number_back =
      let zeros = (zero_bytes bytes).0 (field_take 2 frame_size _ 2 (omega arith) ∙ zeros_there out 0 frame sent.1) in
      cc (
        length-take-le frame_size (put_frame_bytes out 0 frame) (omega (arith, sent.1, length_frame out 0 frame)),
        ap (λ (f : Frame). f.kind) frame_back,
        ap (λ (f : Frame). f.flag) frame_back,
        ap (λ (f : Frame). f.tick) frame_back,
        zeros.0,
        zeros.1,
        or-false (not (known_head frame.kind frame.flag)),
        sent.0,
      )

  -- its bytes are read back with kind, flag and tick
  pub frame_read_back : frame_told last (take frame_size (frame_written last frame out).out) ≡ record { number = 0; frame = frame }
  unfolding frame_told bytes
  frame_read_back =
      rw (ap (λ (t : WriteTold). t.out) sent.2, frame_number_back)
      (ap (λ (f : Frame). record { number = 0; frame = f }) frame_back)

-- bytes behind a frame stay, and so does the length, whatever the number
pub frame_kept : (last : ℕ) (frame : Frame) (out : List ℕ) →
    (drop frame_size (frame_written last frame out).out ≡ drop frame_size out)
    × (length (frame_written last frame out).out ≡ length out)
unfolding frame_written
frame_kept last frame out =
    kept_bytes (frame_write_number last frame) frame_size out (put_frame_bytes out 0 frame) (drop_frame out frame) (length_frame out 0 frame)

-- a frame that is refused is not written at all
pub frame_refused : (last : ℕ) (frame : Frame) (out : List ℕ) → ((frame_written last frame out).number ≡ 0 → ⊥) →
    ((frame_written last frame out).written ≡ 0) × ((frame_written last frame out).out ≡ out)
unfolding frame_written
frame_refused last frame out = refused_bytes (frame_write_number last frame) frame_size out (put_frame_bytes out 0 frame)

-- ---- what is read is written again

-- a frame that is taken, written over itself, stays
frame_self : (b : List ℕ) → Bytes b → field 2 b 2 ≡ 0 → put_frame_bytes b 0 (frame_at b 0) ≡ b
unfolding put_frame_bytes
frame_self b h e = cc (field_byte b 0, field_byte b 1, put_field_lem 1 b 0 h, put_field_lem 1 b 1 h, put_field_lem 2 b 2 h, put_field_lem 4 b 4 h)

-- what the frame reader took, the frame writer writes byte for byte, over the front of the output
pub frame_written_again : (last : ℕ) (b out : List ℕ) → Bytes b → frame_number last b ≡ 0 → length b ≤ length out →
    frame_written last (frame_at b 0) out ≡ record { number = 0; written = length b; out = b ++ drop (length b) out }
unfolding frame_written
frame_written_again last b out h e p =
    wrote_bytes (frame_write_number last (frame_at b 0)) frame_size out (put_frame_bytes out 0 (frame_at b 0)) b ok size
    (take_frame out (frame_at b 0) b (omega (arith, size)) (omega (arith, size)) ∙ ap (take frame_size) (frame_self b h zeros))
    (drop_frame out (frame_at b 0))
  where
    g : Given (frame_checks last b) 0
    g = ((frame_says last b).exactly 0).0 (frame_told_lem last b ∙ e)

    size : length b ≡ frame_size
    size = not_apart _ _ (λ n. g.0 (inl (inl (inl n))))

    zeros : field 2 b 2 ≡ 0
    zeros = (zero_bytes b).1 (not_apart _ _ (λ n. g.0 (inl (inr n))), not_apart _ _ (λ n. g.0 (inr n)))

    ok : (frame_written last (frame_at b 0) out).number ≡ 0
    ok = ((frame_writer_says last (frame_at b 0) out).exactly 0).1 (λ k. g.0 (inl (inl (inr k))), (g.1.0, (omega (arith, size), refl)))
