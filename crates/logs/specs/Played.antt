-- What an answer of the player says, and what its inner functions ask and promise.
use Rattle.std.specs.Prelude.{◌≡◌, List, ℕ, ◌+◌, ◌*◌, ◌≤◌, Result, length}
use Rattle.forms.specs.Form.{WriteTold}
use Rattle.node.specs.Calls.{Outcome}
use Rattle.node.specs.Image.{node_of}
use Rattle.logs.specs.Listing.{line}
use Rattle.logs.specs.Log.{form_place, event_size, most_events, count_of, events_at, written_by}
use Rattle.logs.specs.Refusal.{number_of}
use Rattle.logs.specs.declared.file.Log.{Log}
use Rattle.logs.specs.declared.line.Line.{Line}
use Rattle.logs.specs.declared.refusal.Refusal.{Refusal}

-- a listing is told as a log that is written
abbrev pub played_by : Result ℕ Refusal → List ℕ → WriteTold
played_by = written_by

-- ---- the lines

-- the text of a line
abbrev pub text_of : Line → List ℕ
text_of l = line l.event l.number l.records l.k l.mode

-- the line of a call, with k and mode as its image has them afterwards
abbrev pub call_line : ℕ → Outcome → Line
call_line event o =
    record { event = event; number = o.number; records = o.records; k = (node_of o.image).tick; mode = (node_of o.image).mode }

-- the one line of a log that is refused
abbrev pub refusal_line : Refusal → Line
refusal_line refusal = record { event = 0; number = number_of refusal; records = 0; k = 0; mode = 0 }

-- a call that is shown: the call of event number e has outcome o, of which the listing has no use for the firings, and this is its line
pub record CallShown (e : ℕ) (o : Outcome) (shown : Line) (image sent : List ℕ) : Type 0 where
  pub line : shown ≡ call_line e o
  pub image_left_lem : image ≡ o.image
  pub out_left : sent ≡ o.out

-- ---- what is asked

-- a log that is taken: count and place of the events are the log's, and they lie in it behind the form
pub record TakenLog (log : List ℕ) (taken : Log) : Type 0 where
  pub count : taken.count ≡ count_of log
  pub events : taken.events ≡ events_at log
  pub behind : form_place ≤ taken.events
  pub few : taken.count ≤ most_events
  pub whole : taken.events + event_size * taken.count ≤ length log
