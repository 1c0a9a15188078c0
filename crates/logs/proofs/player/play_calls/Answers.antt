-- `player::play_calls` meets its contract: the call is the boot of the log's form, its line comes first, and behind it stand the lines of
-- the events where the form is taken, of which a turn puts the next.
use mathlib.Core.Path.{◌≡◌, sym, ap, ap₂, ◌∙◌}
use mathlib.Core.List.{List, [], ◌++◌}
use Prim.Native.Nat.{ℕ, ◌+◌, ◌*◌, ◌-◌}
use native.Mathlib.Nat.{sub-zero}
use native.Mathlib.Omega.{arith}
use lib.ListN.{take, drop}
use Rattle.rules.specs.Describe.{last_tick}
use Rattle.node.specs.Calls.{Outcome, booted}
use Rattle.node.specs.Layout.{layout}
use Rattle.logs.specs.Listing.{image_lent, out_lent, line_room, line_of, event_lines, call_lines}
use Rattle.logs.specs.Log.{form_place, event_size, form_of}
use Rattle.logs.specs.Played.{call_line, CallShown, TakenLog}
use Rattle.logs.specs.declared.file.Log.{Log}
use Rattle.logs.specs.declared.line.Line.{Line}
use Rattle.logs.proofs.Lines.{wrote_call, lines_refused, lines_taken}
use Rattle.logs.proofs.Playing.{plays, plays_all}
use Rattle.text.specs.Page.{Wrote}
use Rattle.text.proofs.Pages.{wrote_none, wrote_as, wrote_then}
use Rattle.logs.proofs.player.play_calls.Goals.{After-put}
use Rattle.logs.proofs.player.play_calls.Goals as goal

-- the boot of a log's form
abbrev called : List ℕ → Outcome
called log = booted layout (form_of log) image_lent out_lent

-- a boot of the form that stands in a log that is taken is that
boots : {log : List ℕ} {taken : Log} {o : Outcome} → TakenLog log taken →
    o ≡ booted layout (take (taken.events - form_place) (drop form_place log)) image_lent out_lent → o ≡ called log
unfolding form_of
boots {log} t made =
    made ∙ ap (λ (e : ℕ). booted layout (take (e - form_place) (drop form_place log)) image_lent out_lent) t.events

-- behind boot's line stand the lines of the events
lines : {log : List ℕ} {taken : Log} {o : Outcome} {boot : Line} {image sent : List ℕ} →
    TakenLog log taken → CallShown 0 o boot image sent → boot.number ≡ 0 →
    line_of 0 o ++ event_lines layout last_tick log taken.count taken.events 1 image sent ≡ call_lines layout last_tick log o
lines {log} {taken} {o = o} t shown ok =
    ap₂ (λ (a b : List ℕ). line_of 0 o ++ event_lines layout last_tick log taken.count taken.events 1 a b)
    shown.image_left_lem shown.out_left
    ∙ ap₂ (λ (n e : ℕ). line_of 0 o ++ event_lines layout last_tick log n e 1 o.image o.out) t.count t.events
    ∙ sym (lines_taken layout last_tick log o (sym (ap (λ (l : Line). l.number) shown.line) ∙ ok))

-- where boot's line is put: the call is shown,
shown : (c : After-put) →
    CallShown 0 (called c.args.log.now) c.of_call-boot.result c.boot-answer.new.image c.boot-answer.new.out
shown c =
    let is = boots c.requires.taken c.boot-answer.ensures in
    record {
      line = c.of_call-boot.ensures ∙ ap (call_line 0) is;
      image_left_lem = ap (λ (o : Outcome). o.image) is;
      out_left = ap (λ (o : Outcome). o.out) is;
    }

-- and its line is put
first : (c : After-put) → Wrote c.args.page.now (line_of 0 (called c.args.log.now)) line_room c.put.new.page
first c = wrote_call 0 _ (shown c).line c.put.ensures

pub returns-then-boot-ne0 : goal.returns-then-boot-ne0
returns-then-boot-ne0 c =
    let here = (goal.at.returns-then-boot-ne0 c).After-put in
    let refused : (called c.args.log.now).number ≡ 0 → ⊥ = λ e. c.if-boot-ne0.true (ap (λ (l : Line). l.number) (shown here).line ∙ e) in
    wrote_as (first here) (sym (lines_refused layout last_tick _ _ refused)) (omega arith)

pub loop-event-init : goal.loop-event-init
loop-event-init c =
    let start : c.args.taken.events + event_size * 0 ≡ c.args.taken.events = omega arith in
    record { done = []; wrote = wrote_none; all = rw start (simp sub-zero) }

pub loop-event-preserved : goal.loop-event-preserved
loop-event-preserved c =
    plays c.loop-event.invariant (omega (arith, c.requires, c.put.ensures)) c.loop-event-test.true c.play_event-line.ensures
    c.put-in-loop-event.ensures

pub returns : goal.returns
returns c =
    let here = (goal.at.returns c).After-put in
    let events = plays_all c.loop-event.invariant (omega arith) in
    wrote_as (wrote_then (first here) (omega (arith, c.requires)) events) (lines c.requires.taken (shown here) c.if-boot-ne0.false)
    (omega (arith, c.requires))
