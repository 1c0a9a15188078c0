-- What the answers of the calls say, as the definitions of the calls have it; and how a call's answer is made of what came of it. A refusal
-- reports its number alone: no records, no rule fired, clock 0.
use Rattle.std.specs.Prelude.{ℕ, List, Result, Ok, Err}
use Rattle.node.specs.Calls.{Outcome}
use Rattle.node.specs.Calls.{Reading as Told}
use Rattle.node.specs.Number.{number_of}
use Rattle.node.specs.declared.answer.Refusal.{Refusal}
use Rattle.node.specs.declared.calls.Answer.{Answer}
use Rattle.node.specs.declared.calls.Done.{Done}
use Rattle.node.specs.declared.calls.Reading.{Reading}

abbrev pub outcome_by : Answer → List ℕ → List ℕ → Outcome
outcome_by answer image out =
    record { number = answer.number; records = answer.records; fired = answer.fired; image = image; out = out }

abbrev pub reading_by : Reading → Told
reading_by r = record { number = r.number; clock = r.clock }

-- ---- the answers, made of what came of the call

abbrev pub answered : Result Done Refusal → Answer
answered (Ok done) = record { number = 0; records = done.records; fired = done.fired }
answered (Err why) = record { number = number_of why; records = 0; fired = 0 }

abbrev pub clock_told : Result ℕ Refusal → Reading
clock_told (Ok clock) = record { number = 0; clock = clock }
clock_told (Err why) = record { number = number_of why; clock = 0 }
