-- The clock in 003's own words: what the rules keep of it, whatever is delivered. Theorems speak of these.
use Rattle.std.specs.Prelude.{ℕ, ◌≤◌, ◌≡◌, List}
use Rattle.rules.specs.Record.{Outgoing, Every}
use Rattle.rules.specs.declared.node.Node.{Node}

-- a clock in order
pub record InOrder (last : ℕ) (p : Node) : Type 0 where
  pub mode : p.mode ≤ 1
  pub sent : p.sent ≤ p.tick
  pub tick : p.tick ≤ last

-- q after p: the roster's side of the node stays, and its clock stays in order
pub record Ordered (last : ℕ) (p q : Node) : Type 0 where
  pub lines : q.lines ≡ p.lines
  pub faults : q.faults ≡ p.faults
  pub own : q.own ≡ p.own
  pub mode : q.mode ≤ 1
  pub active : p.mode ≤ q.mode
  pub sent : q.sent ≤ q.tick
  pub tick : q.tick ≤ last
  pub later : p.tick ≤ q.tick

-- no record carries a tick above k
abbrev pub Below : ℕ → List Outgoing → Type 0
Below k rs = Every (λ r. r.frame.tick ≤ k) rs
