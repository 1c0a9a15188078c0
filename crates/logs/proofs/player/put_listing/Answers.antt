-- `player::put_listing` meets its contract: the reader tells a log that is taken from one that is not, and each has its listing.
use mathlib.Core.Path.{◌≡◌, sym, ap, ◌∙◌}
use mathlib.Core.Logic.{inl, inr}
use mathlib.Core.List.{List}
use Prim.Native.Nat.{ℕ}
use native.Mathlib.Omega.{arith}
use Rattle.node.specs.Calls.{booted}
use Rattle.rules.specs.Describe.{last_tick}
use Rattle.node.specs.Layout.{layout}
use Rattle.logs.specs.Listing.{image_lent, out_lent, call_lines, listing}
use Rattle.logs.specs.Log.{LogTold, count_of, events_at, form_of, broken, log_number, log_told, told_by}
use Rattle.logs.specs.Played.{text_of, refusal_line, TakenLog}
use Rattle.logs.specs.declared.file.Log.{Log}
use Rattle.logs.specs.declared.refusal.Refusal.{Refusal}
use Rattle.std.proofs.Common.{Ok, Err}
use Rattle.logs.specs.Table.{Laid}
use Rattle.logs.proofs.Logs.{Judged, log_judged, told_laid, told_broken}
use Rattle.logs.specs.Refusal.{number_of}
use Rattle.logs.specs.declared.refusal.Refusal.TheVariants.{Layout, Room}
use Rattle.text.proofs.Pages.{wrote_as}
use Rattle.logs.proofs.player.put_listing.Goals as goal

-- a log that is taken has the lines of its calls
record TakenAs (log : List ℕ) (taken : Log) : Type 0 where
  laid : TakenLog log taken
  lines : listing layout last_tick log ≡ call_lines layout last_tick log (booted layout (form_of log) image_lent out_lent)

taken_as : (log : List ℕ) (taken : Log) → told_by (Ok taken) ≡ log_told log → TakenAs log taken
unfolding listing log_number
taken_as log taken e = go (log_judged log)
  where
    go : Judged (broken log) (Laid log) → TakenAs log taken
    go (inl j) =
        let told = e ∙ told_laid log j.1 in
        let count : taken.count ≡ count_of log = ap (λ (t : LogTold). t.count) told in
        let events : taken.events ≡ events_at log = ap (λ (t : LogTold). t.events) told in
        record {
          laid =
              record {
                count = count;
                events = events;
                behind = omega (arith, j.1);
                few = omega (arith, j.1);
                whole = omega (arith, j.1);
              };
          lines = rw j.0;
        }
    go (inr j) = absurd (omega (arith, ap (λ (t : LogTold). t.number) (e ∙ told_broken log j.1)))

-- no refusal has the number of what is taken
refuses : (refusal : Refusal) → number_of refusal ≡ 0 → ⊥
refuses Layout e = omega (arith, e)
refuses Room e = omega (arith, e)

-- a log that is refused has the one line
lines_refused : (log : List ℕ) (refusal : Refusal) → told_by (Err refusal) ≡ log_told log →
    listing layout last_tick log ≡ text_of (refusal_line refusal)
unfolding listing log_number
lines_refused log refusal e = go (log_judged log)
  where
    go : Judged (broken log) (Laid log) → listing layout last_tick log ≡ text_of (refusal_line refusal)
    go (inl j) = absurd (refuses refusal (ap (λ (t : LogTold). t.number) (e ∙ told_laid log j.1)))
    go (inr j) =
        let number : number_of refusal ≡ 13 = ap (λ (t : LogTold). t.number) (e ∙ told_broken log j.1) in
        rw (j.0, number)

pub play_calls-requires-clause-taken : goal.play_calls-requires-clause-taken
play_calls-requires-clause-taken c = (taken_as _ _ c.in-Ok.ensures).laid

pub returns-in-Ok : goal.returns-in-Ok
returns-in-Ok c = wrote_as c.play_calls.ensures (sym (taken_as _ _ c.in-Ok.ensures).lines) (omega arith)

pub returns-in-Err : goal.returns-in-Err
returns-in-Err c = wrote_as c.put.ensures (ap text_of c.of_refusal.ensures ∙ sym (lines_refused _ _ c.in-Err.ensures)) (omega arith)
