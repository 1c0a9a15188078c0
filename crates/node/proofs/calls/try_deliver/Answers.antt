-- `calls::try_deliver` meets its contract: a delivery with number 0 has a sound image, a port on its roster and a whole frame,
-- which is what the engine asks, and the stores are the definition's.
use mathlib.Core.Path.{◌≡◌, sym, ap, ◌∙◌}
use mathlib.Core.List.{List}
use native.Mathlib.Omega.{arith}
use lib.ListN.{length}
use lib.Dec.{lit<}
use Prim.Native.Nat.{ℕ, ◌≤◌}
use borrow.Author.Tests.{eqb-false}
use Rattle.std.proofs.lemmas.Result.{err_from_is_err_and}
use Rattle.forms.specs.Frame.{frame_at, frame_number}
use Rattle.forms.specs.Number as wire
use Rattle.forms.proofs.Told.{refusal as unread, first_given}
use Rattle.node.specs.Number.{number_of}
use Rattle.node.specs.Calls.{Outcome, refused, deliver_number, delivery_of, image_after, deliver_outcome}
use Rattle.rules.specs.Describe.{window, last_tick}
use Rattle.node.specs.Image.{node_of, state_of}
use Rattle.node.specs.Layout.{layout, header_size}
use Rattle.rules.specs.Steps.{DeliveredAs}
use Rattle.rules.proofs.Clock.{delivered_ordered}
use Rattle.node.proofs.Outcomes.{deliver_refused}
use Rattle.node.proofs.Sound.{SoundBytes, sound_bytes, sound_rows, sound_once, sound_rest}
use Rattle.node.proofs.Taken.{refusal, told_frame_refused, told_frame, Taken, deliver_taken, frame_whole}
use Rattle.node.proofs.calls.try_deliver.Goals.{In_ok-taken, After-deliver-next}
use Rattle.node.proofs.calls.try_deliver.Goals as goal

-- ---- refused: the number is the first of the two that is not 0
refuses : (image : List ℕ) (port : ℕ) (frame out : List ℕ) (k : ℕ)
    → deliver_number layout last_tick image port frame (length out) ≡ k
    → (k ≡ 0 → ⊥)
    → refused k image out ≡ deliver_outcome layout last_tick image port frame out
refuses image port frame out k e n =
    sym (deliver_refused layout last_tick image port frame out (λ z. n (sym e ∙ z)) ∙ ap (λ (m : ℕ). refused m image out) e)

pub returns-in_err-node : goal.returns-in_err-node
unfolding deliver_number
returns-in_err-node c =
    let a = c.args in
    let why = c.in_err-node.field-0.0 in
    let passed = err_from_is_err_and c.from_residual.result c.from_residual.ensures.1 in
    let some = eqb-false _ 0 (refusal why) in
    rw (passed.1, passed.2)
    (refuses a.image.now a.port a.frame.now a.out.now (number_of why)
    (rw (← c.in_err-node.ensures.number) (first_given (number_of why) (frame_number last_tick a.frame.now) (refusal why))) some)

-- past the test room, image and port give 0, and the number is the frame's
pub returns-in_err-taken : goal.returns-in_err-taken
unfolding deliver_number
returns-in_err-taken c =
    let a = c.args in
    let why = c.in_err-taken.field-0.0 in
    let passed = err_from_is_err_and c.from_residual-in_err-taken.result c.from_residual-in_err-taken.ensures.1 in
    rw (passed.1, passed.2)
    (refuses a.image.now a.port a.frame.now a.out.now (wire.number_of why)
    (rw (← c.in_ok-node.ensures.number) (told_frame_refused last_tick _ why c.in_err-taken.ensures))
    (eqb-false _ 0 (unread why)))

-- ---- taken

-- past the test room, image and port give 0; past the reader the frame is that of the bytes, and the number is 0
success : (c : In_ok-taken) →
    let a = c.args in
    deliver_number layout last_tick a.image.now a.port a.frame.now (length a.out.now) ≡ 0
unfolding deliver_number
success c =
    rw (← c.in_ok-node.ensures.number) (told_frame last_tick _ _ c.in_ok-taken.ensures).0

taken : (c : In_ok-taken) →
    let a = c.args in
    Taken layout last_tick a.image.now a.port a.frame.now (length a.out.now)
taken c =
    let a = c.args in
    deliver_taken layout last_tick a.image.now a.port a.frame.now (length a.out.now) (success c)

sound : (c : In_ok-taken) → SoundBytes layout last_tick c.args.image.now
sound c = sound_bytes layout last_tick c.args.image.now (taken c).sound

-- a sound image has no serial twice, whichever port is meant; that it is the call's shows in `done`
pub deliver-next-requires : goal.deliver-next-requires
unfolding node_of
deliver-next-requires c =
    let whole = (goal.at.deliver-next-requires c).In_ok-taken in
    let image = c.args.image.now in
    rw c.in_ok-node.ensures.node
    (record {
      rows = sound_rows last_tick image (sound whole);
      space = (taken whole).space;
      once = sound_once last_tick image (sound whole) _;
      rest = sound_rest last_tick image (sound whole);
    })

-- what the engine promises is the delivery of the definition
done : (c : After-deliver-next) →
    let a = c.args in
    let d = delivery_of layout last_tick a.image.now a.port a.frame.now in
    let last = c.deliver-next.new in
    DeliveredAs d a.image.now header_size a.out.now c.deliver-next.result last.b last.out
unfolding delivery_of state_of node_of
done c =
    rw (c.in_ok-node.ensures.node, (told_frame last_tick _ _ c.in_ok-taken.ensures).1) at
    c.deliver-next.ensures

pub put_clock-requires : goal.put_clock-requires
unfolding delivery_of
put_clock-requires c =
    let whole = (goal.at.put_clock-requires c).In_ok-taken in
    let engine = (goal.at.put_clock-requires c).After-deliver-next in
    -- the mode is still 0 or 1
    let mode : c.deliver-next.result.node.mode ≤ 1 =
    let a = c.args in
    let s = (sound whole).node in
    rw (done engine).node
    (delivered_ordered window last_tick (state_of layout a.image.now) a.port (frame_at a.frame.now 0) (lit< tt) s.sets
    (frame_whole last_tick a.frame.now (taken whole).shape).tick (record { mode = s.mode; sent = s.sent; tick = s.tick })).mode in
    omega (arith, c.deliver-next.auto.b, (sound whole).header, mode)

-- what is reported is what the engine counted
reports : {image out : List ℕ} {records fired n m : ℕ}
    → records ≡ n
    → fired ≡ m
    → ◌≡◌ {A = Outcome} (record { number = 0; records = records; fired = fired; image = image; out = out })
    (record { number = 0; records = n; fired = m; image = image; out = out })
reports {image} {out} e f d = record { number = 0; records = e d; fired = f d; image = image; out = out }

pub returns : goal.returns
unfolding deliver_outcome image_after
returns c =
    let d = done (goal.at.returns c).After-deliver-next in
    rw (
      success (goal.at.returns c).In_ok-taken,
      c.put_clock.ensures,
      d.node,
      d.rows,
      d.bytes,
    )
    (reports (omega (arith, d.records)) (omega (arith, d.fired)))
