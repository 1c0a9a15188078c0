-- `Question::count_row` of scan.rt meets its contract: a row that is out of reach holds none of the ticks looked at; any other is
-- counted by its mask.
use mathlib.Core.Path.{◌≡◌}
use mathlib.Core.Logic.{inr}
use Prim.Native.Nat.{ℕ, ◌-◌}
use native.Mathlib.Omega.{arith}
use lib.ListN.{get_or}
use Rattle.evidence.specs.Rows.{no_row, set_of}
use Rattle.sets.proofs.Members.{holds_above, holds_below}
use Rattle.search.specs.Levels.{Counts}
use Rattle.search.specs.declared.levels.Levels.{Levels}
use Rattle.search.proofs.question.Question.count_row.Goals.{then-y-view-via-then-y-view, then-y-view-via-else-y-view+then-x-self}
use Rattle.search.proofs.question.Question.count_row.Goals as goal

-- a row that holds none of these ticks leaves the counters as they are
idle : (l : Levels) (d : ℕ) {c : ℕ} → c ≡ 0 → Counts l l d c
idle l d e = record { stays = λ f. f; counts = inr (omega arith) }

pub returns-then-y-view : goal.returns-then-y-view
returns-then-y-view c t p q =
    let a = c.args in
    let ask = c.args.self.now in
    let s = set_of ask.kind (get_or ask.rows.now a.k no_row) in
    elim c.then-y-view.branch [
      | then-y-view-via-then-y-view w ↦
          idle a.levels (a.x - 1 - t) (holds_above ask.w s t (omega (arith, w.if-y-view.true, c.view.ensures, c.top.ensures)))
      | then-y-view-via-else-y-view+then-x-self w ↦
          idle a.levels (a.x - 1 - t) (holds_below ask.w s t (omega (arith, w.if-x-self.true, c.top.ensures)))
    ]
