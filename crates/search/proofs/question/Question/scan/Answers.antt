-- `Question::scan` of scan.rt meets its contract: row by row the counters go on, and past the last row they tell of all rows.
use native.Mathlib.Omega.{arith}
use lib.ListN.{get_or, drop}
use Prim.Native.Nat.{◌+◌}
use Rattle.evidence.specs.Rows.{no_row, set_of}
use Rattle.search.proofs.Scans.{held_down, held_end, scan_row, scan_last}
use Rattle.search.proofs.question.Question.scan.Goals as goal

pub loop-k-preserved : goal.loop-k-preserved
loop-k-preserved c =
    let a = c.args in
    let ask = c.args.self.now in
    let rows = ask.rows.now in
    let l = c.loop-k in
    scan_row ask.w ask.kind a.m a.x rows (drop l.k rows) (drop (l.k + 1) rows) l.levels c.count_row-levels.result
    (set_of ask.kind (get_or rows l.k no_row)) l.invariant
    (λ t. held_down ask.w ask.kind t rows l.k (omega (arith, c.len-k-end.ensures))) c.count_row-levels.ensures

pub returns : goal.returns
returns c =
    let a = c.args in
    let ask = c.args.self.now in
    let rows = ask.rows.now in
    let l = c.loop-k in
    scan_last ask.w ask.kind a.m a.x rows (drop l.k rows) l.levels l.invariant
    (λ t. held_end ask.w ask.kind t rows l.k (omega (arith, c.len-k-end.ensures)))
