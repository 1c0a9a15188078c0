-- `Question::scan` of scan.rt meets its contract: row by row the counters go on, and past the last row they tell of all rows.
use lib.ListN.{drop}
use Rattle.search.proofs.Scans.{Scanning}
use Rattle.search.proofs.question.Question.scan.Given as goal

abbrev pub invariant-loop-k : goal.invariant-loop-k
invariant-loop-k l = Scanning l.self.w l.self.kind l.m l.x l.self.rows.now (drop l.k l.self.rows.now) l.levels
