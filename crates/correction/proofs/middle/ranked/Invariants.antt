-- `middle::ranked` meets its contract: the loop goes from the last reading to the first, and holds the greatest of those from its place on
-- that have at most k of all below them.
use Rattle.std.proofs.Common.{◌≡◌, leb, drop}
use Rattle.correction.specs.Counter.{differences}
use Rattle.correction.specs.Middle.{below, greatest_of}
use Rattle.correction.proofs.middle.ranked.Given as goal

abbrev pub invariant-loop-place : goal.invariant-loop-place
invariant-loop-place l =
    let all = differences l.expected l.readings in
    l.best ≡ greatest_of (λ d. leb (below d all) l.k) (differences l.expected (drop l.place l.readings))
