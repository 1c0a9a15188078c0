-- The rows of the paper's table of numbers that the log's reader and writer give (01, "Layouts" and "Numbers given back"), as plain
-- propositions with no test in them. What it means that checks give a number is said in forms.
use Rattle.std.specs.Prelude.{◌≡◌, List, [], ◌∷◌, ℕ, ◌+◌, ◌*◌, ◌/◌, ◌%◌, ◌≤◌, length}
use Rattle.forms.specs.Table.{Check, ◌when◌, room_check}
use Rattle.logs.specs.Log.{form_place, event_size, most_events, least_form, most_form, least_offset, most_offset}
use Rattle.logs.specs.Log.{count_of, form_at, events_at, log_size}

-- the layout of a log: offset of the form 12, 20 ≤ e ≤ 1,012, at most 4,096 events, and length e + 12 × count
pub record Laid (b : List ℕ) : Type 0 where
  pub form : form_at b ≡ form_place
  pub least : least_offset ≤ events_at b
  pub most : events_at b ≤ most_offset
  pub few : count_of b ≤ most_events
  pub whole : length b ≡ events_at b + event_size * count_of b

-- what the writer takes: form bytes, 8 to 1,000, and event bytes, a multiple of 12, at most 4,096 events
pub record Fit (form events : List ℕ) : Type 0 where
  pub least : least_form ≤ length form
  pub most : length form ≤ most_form
  pub whole : length events % event_size ≡ 0
  pub few : length events / event_size ≤ most_events

abbrev pub log_checks : List ℕ → List Check
log_checks b = 13 when (Laid b → ⊥) ∷ []

-- 13, and 7 last
abbrev pub log_writer_checks : List ℕ → List ℕ → List ℕ → List Check
log_writer_checks form events out = 13 when (Fit form events → ⊥) ∷ room_check (log_size form events) out ∷ []
