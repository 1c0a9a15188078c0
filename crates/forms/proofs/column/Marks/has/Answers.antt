-- `Marks::has` meets its contract: it tests the bit of its bucket.
use mathlib.Core.Path.{ap, ◌∙◌}
use mathlib.Core.List.{List}
use Prim.Native.Nat.{ℕ}
use lib.Dec.{ltb}
use lib.ListN.{get_or}
use Rattle.forms.proofs.Marks.{has_mark}
use Rattle.forms.proofs.column.Marks.has.Goals as goal

pub returns : goal.returns
returns c = has_mark c.self.inside.words c.args.k c.requires ∙ ap (λ (l : List ℕ). ltb 0 (get_or l c.args.k 0)) c.self.view_is
