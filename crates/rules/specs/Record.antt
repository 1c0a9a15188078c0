-- The outgoing record (01, "Layouts"): destination serial, 0 for all, then a frame; written and read. A broadcast goes to all without
-- the flag, an answer to one serial with it (02, A2).
use Rattle.std.specs.Prelude.{ℕ, zero, suc, ◌+◌, List, [], ◌∷◌}
use Rattle.fields.specs.Field.{field, put_field}
use Rattle.fields.specs.Kind.{ECHO}
use Rattle.forms.specs.Frame.{BROADCAST, ANSWER, frame_at, put_frame_bytes}
use Rattle.forms.specs.declared.frame.Frame.{Frame}

pub record Outgoing : Type 0 where
  pub dest : ℕ
  pub frame : Frame

-- bytes of a record
abbrev pub record_size : ℕ
record_size = 12

-- to all
abbrev pub broadcast : ℕ → ℕ → Outgoing
broadcast kind tick = record { dest = 0; frame = record { kind = kind; flag = BROADCAST; tick = tick } }

-- to one serial alone
abbrev pub answer_to : ℕ → ℕ → Outgoing
answer_to serial tick = record { dest = serial; frame = record { kind = ECHO; flag = ANSWER; tick = tick } }

-- what holds of each record of a list
abbrev pub Every : (Outgoing → Type 0) → List Outgoing → Type 0
Every Holds [] = Unit {0}
Every Holds (r ∷ rs) = Holds r × Every Holds rs

-- ---- written

unfoldable pub put_record_bytes : List ℕ → ℕ → Outgoing → List ℕ
put_record_bytes out i r = put_frame_bytes (put_field 4 out i r.dest) (i + 4) r.frame

-- records one after the other from place i on; what stands behind them stays
unfoldable pub put_records : List ℕ → ℕ → List Outgoing → List ℕ
put_records out i [] = out
put_records out i (r ∷ rs) = put_records (put_record_bytes out i r) (i + record_size) rs

-- ---- read

unfoldable pub record_at : List ℕ → ℕ → Outgoing
record_at b i = record { dest = field 4 b i; frame = frame_at b (i + 4) }

-- n records one after the other from place i on
unfoldable pub records_at : ℕ → List ℕ → ℕ → List Outgoing
records_at zero b i = []
records_at (suc n) b i = record_at b i ∷ records_at n b (i + record_size)
