-- `Column::count` meets its contract: what is found is what stands in the lines passed.
use mathlib.Core.Path.{◌≡◌}
use Prim.Native.Nat.{◌≤◌}
use lib.ListN.{take}
use Rattle.forms.specs.Column.{count}
use Rattle.forms.proofs.column.Column.count.Given as goal

abbrev pub invariant-loop-line : goal.invariant-loop-line
invariant-loop-line l = (l.found ≤ l.line) × (l.found ≡ count l.x (take l.line l.self))
