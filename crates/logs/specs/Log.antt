-- The log (01, "Layouts"): count of events (4), offset of the form (4, always 12), offset e of the events (4), the form from 12 to
-- e, then 12 bytes for each event: port serial, frame. What its reader gives and what its writer leaves, for every input. Event bytes
-- are not judged here.
use Rattle.std.specs.Prelude.{ℕ, ◌+◌, ◌-◌, ◌*◌, ◌/◌, ◌%◌, List, Bool, cond, not, ◌||◌, Result, Ok, Err, length, take, drop, ltb, eqb}
use Rattle.fields.specs.Field.{field, put_field}
use Rattle.forms.specs.Form.{WriteTold, done_write, refused_write, write_told}
use Rattle.forms.specs.Frame.{frame_size}
use Rattle.text.specs.Lay.{lay}
use Rattle.logs.specs.Refusal.{number_of}
use Rattle.logs.specs.declared.file.Log.{Log}
use Rattle.logs.specs.declared.refusal.Refusal.{Refusal}

-- ---- places, sizes and limits

-- the form stands behind the three numbers: 12
abbrev pub form_place : ℕ
form_place = 12

-- in an event the frame stands behind the port serial
abbrev pub frame_place : ℕ
frame_place = 4

-- bytes of an event: 12
abbrev pub event_size : ℕ
event_size = frame_place + frame_size

abbrev pub most_events : ℕ
most_events = 4096

-- a form has 8 to 1,000 bytes
abbrev pub least_form : ℕ
least_form = 8

abbrev pub most_form : ℕ
most_form = 1000

-- so the events begin at 20 to 1,012
abbrev pub least_offset : ℕ
least_offset = form_place + least_form

abbrev pub most_offset : ℕ
most_offset = form_place + most_form

-- ---- the fields and parts as they lie in the bytes

abbrev pub count_of : List ℕ → ℕ
count_of b = field 4 b 0

-- the offset of the form
abbrev pub form_at : List ℕ → ℕ
form_at b = field 4 b 4

-- the offset e of the events
abbrev pub events_at : List ℕ → ℕ
events_at b = field 4 b 8

unfoldable pub form_of : List ℕ → List ℕ
form_of b = take (events_at b - form_place) (drop form_place b)

unfoldable pub events_of : List ℕ → List ℕ
events_of b = drop (events_at b) b

-- not 20 ≤ e ≤ 1,012, or the form's offset not 12, or more than 4,096 events, or length not e + 12 × count
abbrev pub broken : List ℕ → Bool
broken b =
    ltb (length b) form_place || not (eqb (form_at b) form_place) || ltb (events_at b) least_offset || ltb most_offset (events_at b)
    || ltb most_events (count_of b) || not (eqb (length b) (events_at b + event_size * count_of b))

unfoldable pub log_number : List ℕ → ℕ
log_number b = cond (broken b) 13 0

-- ---- the reader

-- number, count of events and offset of the events; with a refusal's number every field is 0
pub record LogTold : Type 0 where
  pub number : ℕ
  pub count : ℕ
  pub events : ℕ

abbrev pub refused_log : ℕ → LogTold
refused_log number = record { number = number; count = 0; events = 0 }

unfoldable pub log_told : List ℕ → LogTold
log_told b =
    cond (eqb (log_number b) 0) (record { number = 0; count = count_of b; events = events_at b }) (refused_log (log_number b))

-- what an answer of the reader says
abbrev pub told_by : Result Log Refusal → LogTold
told_by (Ok log) = record { number = 0; count = log.count; events = log.events }
told_by (Err refusal) = refused_log (number_of refusal)

-- ---- the writer

-- form not 8 to 1,000 bytes, events not a multiple of 12 bytes, or more than 4,096
abbrev pub unfit : List ℕ → List ℕ → Bool
unfit form events =
    ltb (length form) least_form || ltb most_form (length form) || not (eqb (length events % event_size) 0)
    || ltb (event_size * most_events) (length events)

unfoldable pub write_number : List ℕ → List ℕ → ℕ
write_number form events = cond (unfit form events) 13 0

-- the length of a log with these parts
abbrev pub log_size : List ℕ → List ℕ → ℕ
log_size form events = form_place + length form + length events

-- the three numbers in front of the form
abbrev pub put_head : List ℕ → List ℕ → List ℕ → List ℕ
put_head out form events =
    put_field 4
    (put_field 4 (put_field 4 out 0 (length events / event_size)) 4 form_place)
    8 (form_place + length form)

unfoldable pub put_log : List ℕ → List ℕ → List ℕ → List ℕ
put_log out form events = lay (lay (put_head out form events) form_place form) (form_place + length form) events

-- 13, then 7
unfoldable pub log_written : List ℕ → List ℕ → List ℕ → WriteTold
log_written form events out = write_told (write_number form events) (log_size form events) out (put_log out form events)

-- what an answer of the log's writer says
abbrev pub written_by : Result ℕ Refusal → List ℕ → WriteTold
written_by (Ok size) out = done_write size out
written_by (Err refusal) out = refused_write (number_of refusal) out
