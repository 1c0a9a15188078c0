-- `player::play_event` meets its contract: the delivery of what stands at the event's place is the event's call, and its line the call's.
use mathlib.Core.Path.{◌≡◌, ap, ap₂, ◌∙◌}
use mathlib.Core.List.{List}
use Prim.Native.Nat.{ℕ, ◌+◌, ◌-◌}
use native.Mathlib.Omega.{arith}
use lib.ListN.{take, drop}
use Rattle.fields.specs.Field.{field}
use Rattle.forms.specs.Frame.{frame_size}
use Rattle.rules.specs.Describe.{last_tick}
use Rattle.node.specs.Calls.{Outcome, deliver_outcome}
use Rattle.node.specs.Layout.{layout}
use Rattle.logs.specs.Listing.{event_call}
use Rattle.logs.specs.Log.{event_size}
use Rattle.logs.specs.Played.{call_line}
use Rattle.logs.proofs.player.play_event.Goals as goal

-- a delivery of the frame and from the port that stand at a place of the log is the call of the event there
delivers : (log image sent : List ℕ) (place size : ℕ) {port : ℕ} {o : Outcome} → size ≡ frame_size → port ≡ field 4 log place →
    o ≡ deliver_outcome layout last_tick image port (take size (drop (place + 4) log)) sent →
    o ≡ event_call layout last_tick log place image sent
unfolding event_call
delivers log image sent place size whole from made =
    made ∙ ap₂ (λ (port size : ℕ). deliver_outcome layout last_tick image port (take size (drop (place + 4) log)) sent) from whole

pub returns : goal.returns
returns c =
    let a = c.args in
    let size : ℕ = a.place + event_size - (a.place + 4) in
    let is =
    delivers a.log.now a.image.now a.sent.now a.place size (omega arith) c.word-port.ensures c.deliver-answer.ensures in
    record {
      line = c.of_call.ensures ∙ ap (call_line a.event) is;
      image_left_lem = ap (λ (o : Outcome). o.image) is;
      out_left = ap (λ (o : Outcome). o.out) is;
    }
