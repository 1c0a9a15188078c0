-- Number 13 of the log's reader and writer is given exactly when the paper says, and 7 of the writer after it. The rows of the paper's
-- table are propositions (specs/Table.antt).
-- Assumes nothing.
use mathlib.Core.Path.{◌≡◌, refl, ap}
use mathlib.Core.Logic.{◌↔◌, inl, inr}
use mathlib.Core.List.{List}
use Prim.Native.Nat.{ℕ}
use native.Mathlib.Omega.{arith}
use lib.ListN.{length}
use Rattle.forms.specs.Table.{Says}
use Rattle.forms.proofs.Meaning.{less, in_front, none, past, told, write_number_lem}
use Rattle.logs.specs.Log.{broken, log_number, LogTold, log_told, write_number, log_size, log_written}
use Rattle.logs.specs.Table.{Laid, Fit, log_checks, log_writer_checks}
use Rattle.logs.proofs.Logs.{Judged, log_judged, write_judged, judged_decides, told_laid, told_broken}

-- the reader takes a log exactly where its layout holds
pub log_taken : (b : List ℕ) → ((log_told b).number ≡ 0) ↔ Laid b
log_taken b = go (log_judged b)
  where
    go : Judged (broken b) (Laid b) → ((log_told b).number ≡ 0) ↔ Laid b
    go (inl j) = (λ _. j.1, λ l. ap (λ (t : LogTold). t.number) (told_laid b l))
    go (inr j) = (λ e. absurd (omega (arith, ap (λ (t : LogTold). t.number) (told_broken b j.1))), λ l. absurd (j.1 l))

-- the log reader tells `log_number`
pub log_told_lem : (b : List ℕ) → (log_told b).number ≡ log_number b
unfolding log_told
log_told_lem b = told (λ (t : LogTold). t.number) _ _ (log_number b) refl refl

-- the log reader's number is 13 where the layout is broken
pub log_says : (b : List ℕ) → Says (log_told b).number (log_checks b)
unfolding log_number
log_says b = rw (log_told_lem b) (in_front 13 (judged_decides (log_judged b)) (omega arith) none)

-- the log writer's number is 13 for the parts, and 7 last
pub log_writer_says : (form events out : List ℕ) → Says (log_written form events out).number (log_writer_checks form events out)
unfolding log_written write_number
log_writer_says form events out =
    rw (write_number_lem, past)
    (in_front 13 (judged_decides (write_judged form events)) (omega arith)
    (in_front 7 (less (length out) (log_size form events)) (omega arith) none))

-- ---- single rows

-- each row is one instance of these; so 13 of the reader and of the writer
row_13 : (b : List ℕ) → ((log_told b).number ≡ 13) ↔ (Laid b → ⊥)
row_13 b = (log_says b).exactly 13

writer_row_13 : (form events out : List ℕ) → ((log_written form events out).number ≡ 13) ↔ (Fit form events → ⊥)
writer_row_13 form events out = (log_writer_says form events out).exactly 13
