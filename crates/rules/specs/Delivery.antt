-- One delivery (01, and 02, A2): a node and its rows, a port and a frame; the node that follows, with its records.
use Rattle.std.specs.Prelude.{ℕ, List, [], ◌∷◌, ◌++◌, Bool, cond, not, ◌&&◌, eqb}
use Rattle.fields.specs.Kind.{ECHO}
use Rattle.forms.specs.Frame.{BROADCAST}
use Rattle.forms.specs.declared.frame.Frame.{Frame}
use Rattle.evidence.specs.Rows.{Row, credit}
use Rattle.rules.specs.Describe.{most_firings}
use Rattle.rules.specs.Record.{Outgoing, answer_to}
use Rattle.rules.specs.Rules.{Settled, settle}
use Rattle.rules.specs.declared.node.Node.{Node}

-- the node on lists
pub record State : Type 0 where
  pub node : Node
  pub rows : List Row

pub record Delivered : Type 0 where
  pub state : State
  pub records : List Outgoing
  pub firings : ℕ

-- step 1: the frame is added to the evidence of the port's serial; the flag is not looked at
abbrev pub credited : ℕ → State → ℕ → Frame → List Row
credited w s port frame = credit w port frame.kind frame.tick s.rows

-- (echo, 0) without the flag asks for an answer; an answer is never answered (02, A2)
abbrev pub asks : Frame → Bool
asks frame = eqb frame.kind ECHO && (eqb frame.tick 0 && eqb frame.flag BROADCAST)

abbrev pub other_than : ℕ → ℕ → Bool
other_than own port = not (eqb port own)

-- step 2: another serial that asks draws an answer to that serial alone, with the last echo sent before this delivery
unfoldable pub answer : Node → ℕ → Frame → List Outgoing
answer p port frame = cond (asks frame && other_than p.own port) (answer_to port p.sent ∷ []) []

-- step 3 over the evidence after step 1
unfoldable pub settled : ℕ → ℕ → State → ℕ → Frame → Settled
settled w last s port frame = settle w last (credited w s port frame) most_firings s.node

unfoldable pub delivered : ℕ → ℕ → State → ℕ → Frame → Delivered
delivered w last s port frame =
    record {
      state = record { node = (settled w last s port frame).node; rows = credited w s port frame };
      records = answer s.node port frame ++ (settled w last s port frame).records;
      firings = (settled w last s port frame).firings;
    }
