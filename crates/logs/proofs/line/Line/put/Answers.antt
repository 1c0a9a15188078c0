-- `line::Line::put` meets its contract: four columns, the mode and the newline, each put behind the one before, are the line put at once.
use Rattle.std.proofs.Common.{ap}
use mathlib.Core.List.{[], ◌∷◌}
use native.Mathlib.Omega.{arith}
use Prim.Native.Nat.{ℕ}
use Rattle.text.specs.Characters.{newline}
use Rattle.logs.specs.Listing.{line}
use Rattle.text.proofs.Pages.{wrote_as, wrote_then}
use Rattle.logs.proofs.line.Line.put.Goals as goal

pub returns : goal.returns
unfolding line
returns c =
    let mode = ap (λ (letter : ℕ). letter ∷ newline ∷ []) c.mode_letter.ensures in
    let end = wrote_as (wrote_then c.push.ensures (omega arith) c.push-2.ensures) {s = 2} mode (omega arith) in
    wrote_then c.put_column.ensures (omega arith)
    (wrote_then c.put_column-2.ensures (omega arith)
    (wrote_then c.put_column-3.ensures (omega arith)
    (wrote_then c.put_column-4.ensures (omega arith) end)))
