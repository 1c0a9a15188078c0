-- `Layout::in_service` meets its contract: its three numbers are the definition's. The `refl` is written out because a refusal then shows
-- which number differs.
use mathlib.Core.Path.{refl}
use Rattle.node.proofs.layout.Layout.in_service.Goals as goal

pub returns : goal.returns
returns c = refl
