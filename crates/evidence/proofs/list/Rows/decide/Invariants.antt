-- `Rows::decide` of early.rt meets its contract: the rows read so far, and what the definition says of those left and what is lacking,
-- make up all.
use mathlib.Core.Path.{◌≡◌}
use Prim.Native.Nat.{◌+◌, ◌<◌}
use lib.ListN.{drop}
use Rattle.evidence.specs.Early.{decide}
use Rattle.evidence.proofs.Earliest.{read_before}
use Rattle.evidence.proofs.list.Rows.decide.Given as goal

abbrev pub invariant-loop-k : goal.invariant-loop-k
invariant-loop-k l =
    (read_before l.k (decide l.w l.kind l.t l.lacking (drop l.k l.self)) ≡ decide l.w l.kind l.t l.m l.self)
    × (0 < l.lacking) × (l.k + l.lacking + l.spare ≡ l.n)
