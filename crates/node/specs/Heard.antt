-- What a node has heard from a sender over any calls (01, "Evidence"): the image that is left, and the frames accepted from a serial.
-- proofs/Heard.antt ties them to `heard` of the sets.
use Rattle.std.specs.Prelude.{ℕ, List, [], ◌∷◌, cond, eqb}
use Rattle.sets.specs.History.{Sent}
use Rattle.rules.specs.Answering.{Arrival}
use Rattle.node.specs.declared.layout.Layout.{Layout}
use Rattle.node.specs.Runs.{Call, called}
use Rattle.node.specs.Traffic.{taken_over}

-- the image that is left after the calls, made one after the other
unfoldable pub image_left : Layout → ℕ → List ℕ → List Call → List ℕ
image_left L last image [] = image
image_left L last image (call ∷ calls) = image_left L last (called L last image call).image calls

-- kind and tick of those frames that came from a serial; evidence does not look at the flag
unfoldable pub came_from : ℕ → List Arrival → List Sent
came_from serial [] = []
came_from serial (a ∷ rest) =
    let others = came_from serial rest in
    cond (eqb a.port serial) (record { kind = a.frame.kind; tick = a.frame.tick } ∷ others) others

-- the frames accepted from a serial over the calls, the oldest first
abbrev pub accepted : Layout → ℕ → List ℕ → ℕ → List Call → List Sent
accepted L last image serial calls = came_from serial (taken_over L last image calls)
