-- Groups of controllers of a roster, each as a test of serials: a controller that two groups share and that is not faulty (003, Lemma
-- A.1, where two groups of n - f do; 02, A7).
use Rattle.std.specs.Prelude.{◌≡◌, ℕ, Bool, true, false}
use mathlib.Core.List.{List, Memᴰ}

-- a serial of the roster that belongs to both groups and not to the faulty ones
pub record Shared (one other faulty : ℕ → Bool) (roster : List ℕ) : Type 0 where
  pub serial : ℕ
  pub listed : Memᴰ serial roster
  pub in_one : one serial ≡ true
  pub in_other : other serial ≡ true
  pub correct : faulty serial ≡ false
