-- `Marks::mark` meets its contract: the bit of its bucket is set, and no other changes.
use mathlib.Core.Path.{ap, ◌∙◌}
use mathlib.Core.List.{List}
use native.Mathlib.Omega.{arith}
use Prim.Native.Nat.{ℕ}
use lib.ListN.{set}
use Rattle.forms.proofs.Marks.{marked}
use Rattle.forms.proofs.column.Marks.mark.Goals as goal

pub returns : goal.returns
returns c =
    marked c.self.inside.words c.args.k c.requires (omega arith) ∙ ap (λ (l : List ℕ). set l c.args.k 1) c.self.view_is
