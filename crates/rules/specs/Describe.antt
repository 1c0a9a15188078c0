-- The node's own description (01, "Limits"): the window, the last tick, how many rules a delivery may fire, the room that boot and
-- deliver ask, and the fresh node. Each number stands here, and on `Node` in the code. Definitions of sets, rows, rules and calls take
-- window and last tick as parameters; contracts and theorems name them.
use Rattle.std.specs.Prelude.{ℕ, ◌+◌, ◌*◌, List, [], ◌∷◌, map}
use Rattle.fields.specs.Kind.{ECHO}
use Rattle.sets.specs.Ticks.{empty}
use Rattle.evidence.specs.Rows.{Row}
use Rattle.rules.specs.Record.{Outgoing, broadcast, record_size}
use Rattle.rules.specs.declared.node.Node.{Node}

abbrev pub window : ℕ
window = 128

abbrev pub last_tick : ℕ
last_tick = 4000000000

-- how many rules one delivery may fire (02, A6). From a sound image fewer do, so the count never decides (proofs/AtRest.antt)
abbrev pub most_firings : ℕ
most_firings = 15

-- bytes of output: a record for each firing, and the answer
abbrev pub room : ℕ
room = (most_firings + 1) * record_size

-- boot (01, "One delivery"): k = 0, last echo 0, passive
abbrev pub fresh_node : ℕ → ℕ → ℕ → Node
fresh_node lines faults own = record { lines = lines; faults = faults; own = own; mode = 0; tick = 0; sent = 0 }

-- all sets empty
unfoldable pub fresh_rows : List ℕ → List Row
fresh_rows serials = map (λ serial. record { serial = serial; echo = empty; init = empty }) serials

-- one record: echo 0 to all
abbrev pub boot_records : List Outgoing
boot_records = broadcast ECHO 0 ∷ []
