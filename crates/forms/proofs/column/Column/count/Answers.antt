-- `Column::count` meets its contract: what is found is what stands in the lines passed.
use mathlib.Core.Path.{refl, ap}
use mathlib.Core.Bool.{cond}
use Prim.Native.Nat.{ℕ}
use native.Mathlib.Omega.{arith}
use lib.Dec.{eqb}
use Rattle.forms.specs.Column.{count}
use Rattle.forms.proofs.Columns.{count_more}
use Rattle.forms.proofs.column.Column.count.Goals as goal

pub loop-line-init : goal.loop-line-init
unfolding count
loop-line-init c = (omega arith, refl)

pub loop-line-preserved : goal.loop-line-preserved
loop-line-preserved c =
    let l = c.loop-line in
    let more = count_more c.args.self.now l.line (omega arith) c.args.x in
    let one = c.one_if_same-found.ensures in
    (omega (arith, one.1), omega (arith, more, one.0, ap (λ (n : ℕ). cond {A = ℕ} (eqb n c.args.x) 1 0) c.number.ensures))
