-- "Held by m" in the paper's words (01, "One delivery"): by at least m distinct serials. The definitions count rows instead, and
-- proofs/Serials.antt shows that both are the same wherever no serial stands twice in the roster.
use Rattle.std.specs.Prelude.{◌≡◌, ℕ, ◌≤◌, length}
use mathlib.Core.List.{List, map, Memᴰ}
use Rattle.forms.specs.Table.{Twice}
use Rattle.sets.specs.Ticks.{holds}
use Rattle.evidence.specs.Rows.{Row, set_of}

-- the roster: the serials of the rows, in their order
abbrev pub serials_in : List Row → List ℕ
serials_in rows = map (λ row. row.serial) rows

-- a serial holds (kind, t): it has a row, whose set of the kind holds the tick
pub record Holder (w kind t : ℕ) (rows : List Row) (serial : ℕ) : Type 0 where
  pub row : Row
  pub listed : Memᴰ row rows
  pub its : row.serial ≡ serial
  pub held : holds w (set_of kind row) t ≡ 1

-- (kind, t) is held by m: at least m serials hold it, no serial twice among them
pub record HeldBy (w kind t m : ℕ) (rows : List Row) : Type 0 where
  pub serials : List ℕ
  pub many : m ≤ length serials
  pub distinct : Twice serials → ⊥
  pub each : (serial : ℕ) → Memᴰ serial serials → Holder w kind t rows serial
