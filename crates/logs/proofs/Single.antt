-- Two outcomes that a contract of the log's reader, its writer or the player allows coincide: what is told determines the answer, and
-- of a writer every byte of the output.
-- Assumes nothing.
use mathlib.Core.Path.{◌≡◌, refl}
use mathlib.Core.List.{List}
use mathlib.Core.Bool.{cond}
use Prim.Native.Nat.{ℕ}
use lib.Dec.{eqb}
use Rattle.std.proofs.Common.{Result, Ok, Err}
use Rattle.forms.specs.Form.{WriteTold}
use Rattle.forms.proofs.Single.{one_answer, one_write}
use Rattle.logs.specs.Log.{LogTold, told_by, written_by}
use Rattle.logs.specs.Played.{played_by}
use Rattle.logs.specs.declared.file.Log.{Log}
use Rattle.logs.specs.declared.refusal.Refusal.{Refusal}
use Rattle.logs.specs.declared.refusal.Refusal.TheVariants.{Layout, Room}

-- the refusal of a number
refusal_of : ℕ → Refusal
refusal_of number = cond (eqb number 7) Room Layout

-- ---- the reader

-- the answer that tells this
read_of : LogTold → Result Log Refusal
read_of told = cond (eqb told.number 0) (Ok (record { count = told.count; events = told.events })) (Err (refusal_of told.number))

read_is : (a : Result Log Refusal) → read_of (told_by a) ≡ a
unfolding read_of refusal_of
read_is (Ok log) = refl
read_is (Err Layout) = refl
read_is (Err Room) = refl

pub one_log : (a b : Result Log Refusal) → told_by a ≡ told_by b → a ≡ b
one_log = one_answer told_by read_of read_is

-- ---- the writers

written_of : WriteTold → Result ℕ Refusal
written_of told = cond (eqb told.number 0) (Ok told.written) (Err (refusal_of told.number))

written_is : (a : Result ℕ Refusal) (out : List ℕ) → (written_of (written_by a out) ≡ a) × ((written_by a out).out ≡ out)
unfolding written_of refusal_of
written_is (Ok size) out = (refl, refl)
written_is (Err Layout) out = (refl, refl)
written_is (Err Room) out = (refl, refl)

pub one_log_written : (a b : Result ℕ Refusal) (out other : List ℕ) → written_by a out ≡ written_by b other → (a ≡ b) × (out ≡ other)
one_log_written = one_write written_by written_of written_is

pub one_played : (a b : Result ℕ Refusal) (out other : List ℕ) → played_by a out ≡ played_by b other → (a ≡ b) × (out ≡ other)
one_played = one_log_written
