-- The lines put so far, with the lines that the events left have on the image and output of now, are the lines of all events.
use Rattle.logs.proofs.Playing.{Playing}
use Rattle.logs.proofs.player.play_calls.Given as goal

abbrev pub invariant-loop-event : goal.invariant-loop-event
invariant-loop-event l =
    Playing l.log l.start l.fn.taken.count l.initial.image l.initial.sent l.initial.page l.image l.sent l.page l.event
