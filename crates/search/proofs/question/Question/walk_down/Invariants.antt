-- `Question::walk_down` of greatest.rt meets its contract: look by look no tick that enough rows hold is left above x.
use Prim.Native.Nat.{◌+◌, ◌-◌, ◌≤◌}
use lib.ListN.{take}
use Rattle.sets.specs.Sets.{tick_count}
use Rattle.search.specs.Order.{places, reaching}
use Rattle.search.proofs.Found.{NoneFrom}
use Rattle.search.proofs.question.Question.walk_down.Given as goal

abbrev pub invariant-loop-x : goal.invariant-loop-x
invariant-loop-x l =
    let ask = l.self in
    NoneFrom ask.w ask.kind l.m l.low ask.rows.now l.x × (l.x ≤ tick_count)
    × (l.ended ≤ reaching ask.kind (take places ask.rows.now) (l.x - 1 + ask.w))

abbrev pub decreases-loop-x : goal.decreases-loop-x
decreases-loop-x l = l.x
