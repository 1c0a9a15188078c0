-- The listing of a log (01, "The log program"): one line for each call: event number (0 for boot), number given back, records, k,
-- mode as p or a; single spaces, a newline after each.
use Rattle.std.specs.Prelude.{ℕ, zero, suc, ◌+◌, ◌*◌, List, [], ◌∷◌, ◌++◌, cond, length, take, drop, replicate, ltb, eqb}
use Rattle.fields.specs.Field.{field}
use Rattle.forms.specs.Form.{WriteTold, done_write, refused_write}
use Rattle.forms.specs.Frame.{frame_size}
use Rattle.rules.specs.Describe.{room}
use Rattle.node.specs.Calls.{Outcome, booted, deliver_outcome}
use Rattle.node.specs.Image.{node_of}
use Rattle.node.specs.Layout.{most_image}
use Rattle.node.specs.declared.layout.Layout.{Layout}
use Rattle.text.specs.Characters.{blank, newline}
use Rattle.text.specs.Decimal.{most_digits, decimal}
use Rattle.text.specs.Lay.{lay}
use Rattle.logs.specs.Log.{frame_place, event_size, most_events, count_of, events_at, form_of, log_number}

-- ---- the letters of the modes

abbrev pub letter_p : ℕ
letter_p = 112

abbrev pub letter_a : ℕ
letter_a = 97

-- ---- the most bytes of each part

-- a column is a number and a blank
abbrev pub column_room : ℕ
column_room = most_digits + 1

-- a line is four columns, the mode and the newline: at most 46 bytes
abbrev pub line_room : ℕ
line_room = 4 * column_room + 2

-- a listing is boot's line and the events'
abbrev pub listing_room : ℕ
listing_room = (most_events + 1) * line_room

-- ---- the lines

unfoldable pub column : ℕ → List ℕ
column n = decimal n ++ (blank ∷ [])

-- p for a passive node, a for an active one
unfoldable pub letter_of_mode : ℕ → ℕ
letter_of_mode mode = cond (eqb mode 0) letter_p letter_a

unfoldable pub line : ℕ → ℕ → ℕ → ℕ → ℕ → List ℕ
line event number records k mode =
    column event ++ (column number ++ (column records ++ (column k ++ (letter_of_mode mode ∷ newline ∷ []))))

-- the line of a call, with k and mode as its image has them afterwards
unfoldable pub line_of : ℕ → Outcome → List ℕ
line_of event o = line event o.number o.records (node_of o.image).tick (node_of o.image).mode

-- the call of an event at place i of the log: port serial and frame
unfoldable pub event_call : Layout → ℕ → List ℕ → ℕ → List ℕ → List ℕ → Outcome
event_call L last log i image out = deliver_outcome L last image (field 4 log i) (take frame_size (drop (i + frame_place) log)) out

-- the lines of c events from place i of the log on, the first of them number e, on an image and an output
unfoldable pub event_lines : Layout → ℕ → List ℕ → ℕ → ℕ → ℕ → List ℕ → List ℕ → List ℕ
event_lines L last log zero i e image out = []
event_lines L last log (suc c) i e image out =
    line_of e (event_call L last log i image out)
    ++ event_lines L last log c (i + event_size) (e + 1) (event_call L last log i image out).image (event_call L last log i image out).out

-- the buffers that the player lends to the calls: room for every image, and for every call's records
abbrev pub image_lent : List ℕ
image_lent = replicate most_image 0

abbrev pub out_lent : List ℕ
out_lent = replicate room 0

-- boot's line, and where the form is taken the lines of the events
unfoldable pub call_lines : Layout → ℕ → List ℕ → Outcome → List ℕ
call_lines L last log o =
    line_of 0 o ++ cond (eqb o.number 0) (event_lines L last log (count_of log) (events_at log) 1 o.image o.out) []

-- a bad log has one line: 0 13 0 0 p
unfoldable pub listing : Layout → ℕ → List ℕ → List ℕ
listing L last log = cond (eqb (log_number log) 0) (call_lines L last log (booted L (form_of log) image_lent out_lent)) (line 0 13 0 0 0)

-- ---- the player: 7 where the room lent is less than 4,097 lines of 46 bytes, which every listing fits: four numbers of 32 bits

unfoldable pub played : Layout → ℕ → List ℕ → List ℕ → WriteTold
played L last log out =
    cond (ltb (length out) listing_room) (refused_write 7 out) (done_write (length (listing L last log)) (lay out 0 (listing L last log)))
