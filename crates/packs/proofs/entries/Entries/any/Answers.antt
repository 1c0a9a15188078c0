-- `Entries::any` meets its contract: up to the line that is reached no entry passed.
use mathlib.Core.Path.{sym, ap}
use mathlib.Core.Bool.{false}
use native.Mathlib.Omega.{arith}
use lib.Dec.{ltb}
use lib.ListN.{get_or}
use Rattle.packs.specs.Sheet.{no_entry}
use Rattle.packs.proofs.Runs.{none_passes}
use Rattle.packs.proofs.entries.Entries.any.Goals as goal

pub returns : goal.returns
returns g c test same =
    let es = c.args.self.now in
    sym (ap (ltb 0)
    (none_passes test no_entry es (λ k p. sym (same (get_or es k no_entry) false (c.loop-line.invariant k (omega arith))))))
