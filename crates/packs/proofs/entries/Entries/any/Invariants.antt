-- `Entries::any` meets its contract: up to the line that is reached no entry passed.
use mathlib.Core.Bool.{false}
use Prim.Native.Nat.{ℕ, ◌<◌}
use lib.ListN.{get_or}
use Rattle.packs.specs.Sheet.{no_entry}
use Rattle.packs.proofs.entries.Entries.any.Given as goal

abbrev pub invariant-loop-line : goal.invariant-loop-line
invariant-loop-line g l = (k : ℕ) → k < l.line → goal.F-post g l.passes (get_or l.self k no_entry) false
