-- `Question::look_at_tops` of tops.rt meets its contract: what is counted so far and the tops among the rows left make up all, and so
-- does the greatest of the tops below.
use mathlib.Core.Path.{◌≡◌}
use Prim.Native.Nat.{◌+◌, ◌≤◌, max}
use lib.ListN.{drop}
use Rattle.search.specs.Tops.{many_tops, covers, next_top}
use Rattle.search.proofs.question.Question.look_at_tops.Given as goal

abbrev pub invariant-loop-k : goal.invariant-loop-k
invariant-loop-k l =
    let ask = l.self in
    let rows = ask.rows.now in
    (l.here + many_tops (covers ask.w l.x) ask.kind (drop l.k rows) ≡ many_tops (covers ask.w l.x) ask.kind rows)
    × (max l.next (next_top l.x ask.kind (drop l.k rows)) ≡ next_top l.x ask.kind rows) × (l.here ≤ l.k)
