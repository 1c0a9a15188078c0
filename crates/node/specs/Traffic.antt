-- A node's traffic (02, A2): every frame that it took over any calls, with the port that it came from, and every record that it sent,
-- as the bytes of its outputs have them; over calls alone, and over a life from boot on.
use Rattle.std.specs.Prelude.{ℕ, List, [], ◌∷◌, ◌++◌, cond, eqb}
use Rattle.forms.specs.Frame.{frame_at}
use Rattle.rules.specs.Answering.{Arrival}
use Rattle.rules.specs.Record.{Outgoing, records_at}
use Rattle.node.specs.Calls.{Outcome, booted, deliver_outcome}
use Rattle.node.specs.declared.layout.Layout.{Layout}
use Rattle.node.specs.Runs.{Call, Deliver, Read, called}

-- ---- one call

-- the records that it reports, read from its output
abbrev pub records_of : Outcome → List Outgoing
records_of o = records_at o.records o.out 0

unfoldable pub sent_in : Layout → ℕ → List ℕ → Call → List Outgoing
sent_in L last image (Deliver port frame out) = records_of (deliver_outcome L last image port frame out)
sent_in L last image Read = []

-- its frame where it was accepted, with number 0
unfoldable pub taken_in : Layout → ℕ → List ℕ → Call → List Arrival
taken_in L last image (Deliver port frame out) =
    cond (eqb (deliver_outcome L last image port frame out).number 0) (record { port = port; frame = frame_at frame 0 } ∷ []) []
taken_in L last image Read = []

-- ---- calls one after the other, the oldest first

unfoldable pub sent_over : Layout → ℕ → List ℕ → List Call → List Outgoing
sent_over L last image [] = []
sent_over L last image (call ∷ calls) = sent_in L last image call ++ sent_over L last (called L last image call).image calls

unfoldable pub taken_over : Layout → ℕ → List ℕ → List Call → List Arrival
taken_over L last image [] = []
taken_over L last image (call ∷ calls) = taken_in L last image call ++ taken_over L last (called L last image call).image calls

-- ---- a whole life: boot from a form, then the calls

unfoldable pub sent_in_life : Layout → ℕ → List ℕ → List ℕ → List ℕ → List Call → List Outgoing
sent_in_life L last form image out calls =
    let o = booted L form image out in
    records_of o ++ sent_over L last o.image calls
