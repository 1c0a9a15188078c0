-- What the joints of the engine ask and promise: rows in hand are those of a node's roster; records go behind those that are there; a node
-- settles, and takes a delivery over rows in lent bytes, as the definitions say.
use Rattle.std.specs.Prelude.{ℕ, ◌+◌, ◌*◌, ◌≤◌, ◌<◌, ◌≡◌, Bool, ◌&&◌, ◌||◌, List, [], ◌∷◌, Option, Some, None, eqb, leb, length}
use Rattle.fields.specs.Field.{words}
use Rattle.fields.specs.Kind.{ECHO}
use Rattle.forms.specs.Column.{count}
use Rattle.sets.specs.Sets.{mask_bytes}
use Rattle.evidence.specs.Holders.{holders}
use Rattle.evidence.specs.Rows.{Row, row_bytes, rows_at, put_rows, credit}
use Rattle.rules.specs.Delivery.{State, Delivered}
use Rattle.rules.specs.Describe.{window, last_tick, most_firings, room}
use Rattle.rules.specs.Record.{Outgoing, broadcast, record_size, put_records}
use Rattle.rules.specs.Rules.{unsent, can_r1, can_r2, jump_to, wake_at, or_jump, or_wake, first_rule, Settled}
use Rattle.rules.specs.declared.node.Next.{Next}
use Rattle.rules.specs.declared.node.Node.{Node}
use Rattle.rules.specs.declared.node.Rule.{Rule}
use Rattle.rules.specs.declared.node.Rule.TheVariants.{Rest, Echo, Tick, Jump, Wake}

-- ---- the rows in the buffer

-- a node's rows from place i on, and the node with them
abbrev pub rows_from : Node → List ℕ → ℕ → List Row
rows_from p b i = rows_at mask_bytes p.lines b i

abbrev pub state_from : Node → List ℕ → ℕ → State
state_from p b i = record { node = p; rows = rows_from p b i }

-- they lie inside the buffer, and f is at most n
pub record RowsIn (p : Node) (b : List ℕ) (i : ℕ) : Type 0 where
  pub inside : i + p.lines * row_bytes ≤ length b
  pub fewer : p.faults ≤ p.lines

-- rows in hand are as many as a node's lines, and f is at most n
pub record RowsOf (p : Node) (rows : List Row) : Type 0 where
  pub lines : length rows ≡ p.lines
  pub fewer : p.faults ≤ p.lines

-- ---- two of the rules at once

-- R1 by inits, R2 by echoes
abbrev pub may_echo_by : ℕ → Node → List Row → Bool
may_echo_by kind p rows = leb (p.faults + 1) (holders window kind p.tick rows) && unsent p

abbrev pub may_echo : Node → List Row → Bool
may_echo p rows = can_r1 window p rows || can_r2 window p rows

abbrev pub jump_else_wake : Node → List Row → Rule
jump_else_wake p rows = or_jump (jump_to window p rows) (or_wake (wake_at window p rows))

-- ---- after a frame

-- the rows just after a frame of tick j was credited, an echo or an init, to a node that was at rest before: so near to rest a few
-- questions tell the first rule
pub record JustCredited (w last : ℕ) (p : Node) (rows : List Row) (echo : Bool) (j : ℕ) : Type 0 where
  pub before : List Row
  pub rest : first_rule w last before p ≡ Rest
  pub port : ℕ
  pub kind : ℕ
  pub which : eqb kind ECHO ≡ echo
  pub after : rows ≡ credit w port kind j before

-- the same of a node's rows, in the window and up to the last tick of the node
abbrev pub CreditedIn : Node → List Row → Bool → ℕ → Type 0
CreditedIn p rows echo j = RowsOf p rows × JustCredited window last_tick p rows echo j

-- ---- firing one

-- what a rule that can fire says of the node: below the last tick before a tick, and no jump to 0
abbrev pub CanFire : ℕ → Node → Rule → Type 0
CanFire last p Rest = Unit {0}
CanFire last p Echo = Unit {0}
CanFire last p Tick = p.tick < last
CanFire last p (Jump l) = 0 < l
CanFire last p (Wake x) = Unit {0}

-- ---- what a rule sends to all: a kind and a tick, or nothing

abbrev pub broadcasts : Option (ℕ × ℕ) → List Outgoing
broadcasts (Some (kind, tick)) = broadcast kind tick ∷ []
broadcasts None = []

-- its kind is one byte
abbrev pub FitKind : Option (ℕ × ℕ) → Type 0
FitKind (Some (kind, tick)) = kind < 256
FitKind None = Unit {0}

-- ---- records behind the `start` that are there: the new count n, and at most so many more

pub record SentAs (most : ℕ) (sent : List Outgoing) (start : ℕ) (out : List ℕ) (n : ℕ) (after : List ℕ) : Type 0 where
  pub records : n ≡ start + length sent
  pub few : n ≤ start + most
  pub bytes : after ≡ put_records out (record_size * start) sent

-- ---- settling, behind an answer or none, from a first rule that the caller knows

pub record CanSettle (p : Node) (list : List Row) (out : List ℕ) (start : ℕ) (rule : Rule) : Type 0 where
  pub rows : RowsOf p list
  pub space : room ≤ length out
  pub answers : start ≤ 1
  pub first : rule ≡ first_rule window last_tick list p

pub record SettledAs (s : Settled) (start : ℕ) (out : List ℕ) (r : Next) (after : List ℕ) : Type 0 where
  pub node : r.node ≡ s.node
  pub sent : SentAs most_firings s.records start out r.records after
  pub fired : r.fired ≡ s.firings
  pub allowed : r.fired ≤ most_firings

-- ---- a delivery: the port stands in one row at most, and the node is at rest

pub record CanDeliver (p : Node) (b : List ℕ) (i port : ℕ) (out : List ℕ) : Type 0 where
  pub rows : RowsIn p b i
  pub space : room ≤ length out
  pub once : count port (words p.lines row_bytes b i) ≤ 1
  pub rest : first_rule window last_tick (rows_from p b i) p ≡ Rest

-- the node that follows, its rows in the buffer, its records, and how many rules fired
pub record DeliveredAs (d : Delivered) (b : List ℕ) (i : ℕ) (out : List ℕ) (r : Next) (image after : List ℕ) : Type 0 where
  pub node : r.node ≡ d.state.node
  pub rows : image ≡ put_rows mask_bytes b i d.state.rows
  pub records : r.records ≡ length d.records
  pub few : r.records ≤ most_firings + 1
  pub bytes : after ≡ put_records out 0 d.records
  pub fired : r.fired ≡ d.firings
  pub allowed : r.fired ≤ most_firings
