-- `middle::below` meets its contract: the loop goes from the last reading to the first, and has counted those from its place on.
use Rattle.std.proofs.Common.{◌≡◌, ◌+◌, ◌≤◌, length, drop}
use Rattle.correction.specs.Counter.{differences}
use Rattle.correction.specs.Middle.{below}
use Rattle.correction.proofs.middle.below.Given as goal

abbrev pub invariant-loop-place : goal.invariant-loop-place
invariant-loop-place l = (l.found + l.place ≤ length l.readings) × (l.found ≡ below l.d (differences l.expected (drop l.place l.readings)))
