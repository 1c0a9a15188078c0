-- The frame (01, "Layouts", and 02, A2), 8 bytes: kind (1 init, 2 echo), flag (1 on an answer, which is an echo, else 0), two zero
-- bytes, tick in 4 bytes. What its reader gives and what its writer leaves, for every input. The last tick is a number of the node's,
-- so it is a parameter here.
use Rattle.std.specs.Prelude.{ℕ, ◌+◌, ◌<◌, List, Bool, cond, not, ◌||◌, ◌&&◌, length, get_or, ltb, leb, eqb, Result, Ok, Err}
use Rattle.fields.specs.Field.{field, put_field}
use Rattle.fields.specs.Kind.{INIT, ECHO}
use Rattle.forms.specs.Form.{WriteTold, write_told}
use Rattle.forms.specs.Number.{number_of}
use Rattle.forms.specs.declared.answer.Refusal.{Refusal}
use Rattle.forms.specs.declared.frame.Frame.{Frame}

-- bytes of a frame
abbrev pub frame_size : ℕ
frame_size = 8

-- the flag of what is sent to all, and of an answer
abbrev pub BROADCAST : ℕ
BROADCAST = 0

abbrev pub ANSWER : ℕ
ANSWER = 1

-- kind 1 with flag 0, or kind 2 with flag 0 or 1
abbrev pub known_head : ℕ → ℕ → Bool
known_head kind flag = (eqb kind INIT && eqb flag BROADCAST) || (eqb kind ECHO && leb flag ANSWER)

-- the frame as it lies in the bytes from place i on
abbrev pub frame_at : List ℕ → ℕ → Frame
frame_at b i = record { kind = get_or b i 0; flag = get_or b (i + 1) 0; tick = field 4 b (i + 4) }

-- 10: not 8 long, kind and flag not known, or bytes 2 and 3 not zero
abbrev pub misshapen : List ℕ → Bool
misshapen b =
    not (eqb (length b) frame_size) || not (known_head (get_or b 0 0) (get_or b 1 0))
    || not (eqb (get_or b 2 0) 0) || not (eqb (get_or b 3 0) 0)

-- 10, then 11: tick above the last tick
unfoldable pub frame_number : ℕ → List ℕ → ℕ
frame_number last b = cond (misshapen b) 10 (cond (ltb last (field 4 b 4)) 11 0)

-- ---- the reader

-- number and frame; with a refusal's number every field is 0
pub record FrameTold : Type 0 where
  pub number : ℕ
  pub frame : Frame

abbrev pub refused_frame : ℕ → FrameTold
refused_frame number = record { number = number; frame = record { kind = 0; flag = 0; tick = 0 } }

unfoldable pub frame_told : ℕ → List ℕ → FrameTold
frame_told last b =
    cond (eqb (frame_number last b) 0) (record { number = 0; frame = frame_at b 0 }) (refused_frame (frame_number last b))

-- what an answer of the reader says
abbrev pub told_by : Result Frame Refusal → FrameTold
told_by (Ok frame) = record { number = 0; frame = frame }
told_by (Err why) = refused_frame (number_of why)

-- ---- the writer

-- kind and flag fit their bytes
pub record Narrow (frame : Frame) : Type 0 where
  pub kind : frame.kind < 256
  pub flag : frame.flag < 256

-- a frame written over the bytes from place i on
unfoldable pub put_frame_bytes : List ℕ → ℕ → Frame → List ℕ
put_frame_bytes out i frame =
    let headed = put_field 1 (put_field 1 out i frame.kind) (i + 1) frame.flag in
    put_field 4 (put_field 2 headed (i + 2) 0) (i + 4) frame.tick

-- 10 for kind and flag, then 11
abbrev pub frame_write_number : ℕ → Frame → ℕ
frame_write_number last frame = cond (not (known_head frame.kind frame.flag)) 10 (cond (ltb last frame.tick) 11 0)

unfoldable pub frame_written : ℕ → Frame → List ℕ → WriteTold
frame_written last frame out = write_told (frame_write_number last frame) frame_size out (put_frame_bytes out 0 frame)
