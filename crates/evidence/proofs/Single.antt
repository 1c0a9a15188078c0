-- The contracts of the searches for a serial's row and for the greatest tick allow one answer: what an answer says determines the answer.
-- Assumes nothing.
use mathlib.Core.Path.{◌≡◌, refl, ap}
use native.Mathlib.Nat.{suc_inj}
use native.Mathlib.Omega.{arith}
use Prim.Native.Nat.{ℕ}
use Rattle.std.specs.Prelude.{Option, Some, None}
use Rattle.evidence.specs.Holders.{tick_told, place_told}

pub one_found : (a b : Option ℕ) → place_told a ≡ place_told b → a ≡ b
one_found (Some i) (Some k) e = ap Some (suc_inj e)
one_found (Some i) None e = absurd (omega arith)
one_found None (Some k) e = absurd (omega arith)
one_found None None e = refl

pub one_tick : (a b : Option ℕ) → tick_told a ≡ tick_told b → a ≡ b
one_tick = one_found
