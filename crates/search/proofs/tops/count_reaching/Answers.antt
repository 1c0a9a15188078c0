-- `tops::count_reaching` meets its contract: what is counted so far and the tops among the rows left make up all.
use borrow.Author.Tests.{le-leb, lt-leb}
use Prim.Native.Nat.{◌<◌}
use native.Mathlib.Omega.{arith}
use lib.Dec.{leb}
use lib.ListN.{length, get_or}
use Rattle.evidence.specs.Rows.{no_row, set_of}
use Rattle.search.proofs.Reaches.{many_passed, many_missed, many_end}
use Rattle.search.proofs.tops.count_reaching.Goals.{then-low-top, else-low-top}
use Rattle.search.proofs.tops.count_reaching.Goals as goal

pub loop-k-preserved : goal.loop-k-preserved
loop-k-preserved c =
    let a = c.args in
    let l = c.loop-k in
    let some : l.k < length a.rows.now = omega (arith, c.len-k-end.ensures) in
    let top = (set_of a.kind (get_or a.rows.now l.k no_row)).top in
    elim c.if-low-top.branch [
      | then-low-top w ↦
          let all = many_passed a.kind a.rows.now l.k some (leb a.low) (le-leb a.low top (omega (arith, w.if-low-top.true))) in
          (omega (arith, w.found-is, all), omega arith)
      | else-low-top w ↦
          let all = many_missed a.kind a.rows.now l.k some (leb a.low) (lt-leb a.low top (omega (arith, w.if-low-top.false))) in
          (omega (arith, w.found-is, all), omega arith)
    ]

pub returns : goal.returns
returns c =
    let a = c.args in
    omega (arith, c.loop-k.invariant, many_end a.kind a.rows.now c.loop-k.k (omega (arith, c.len-k-end.ensures)) (leb a.low))
