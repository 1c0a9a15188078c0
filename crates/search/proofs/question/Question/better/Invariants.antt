-- `Question::better` of greatest.rt meets its contract: the search that is left finds what the whole search would.
use mathlib.Core.Path.{◌≡◌}
use Prim.Native.Nat.{◌+◌, ◌-◌}
use Rattle.sets.specs.Sets.{held_by}
use Rattle.evidence.specs.Holders.{first_down, shared, best_of}
use Rattle.search.proofs.question.Question.better.Given as goal

abbrev pub invariant-loop-d : goal.invariant-loop-d
invariant-loop-d l =
    best_of l.self.w l.self.kind l.m l.low l.self.rows.now (held_by l.s)
    ≡ first_down (shared l.self.w l.self.kind l.m l.self.rows.now (held_by l.s)) l.low (l.self.w - l.d) (l.s.top + 1 - l.d)
