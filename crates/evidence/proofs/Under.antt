-- What is held under a serial: a credited frame is heard there and under no other serial, and the sets of a sound image are proper.
-- Assumes nothing.
use mathlib.Core.Path.{◌≡◌, refl, sym, ap, ◌∙◌}
use mathlib.Core.Logic.{◌⊎◌, inl, inr}
use mathlib.Core.Bool.{Bool, true, false, cond}
use mathlib.Core.List.{List, [], ◌∷◌}
use Prim.Native.Nat.{ℕ, ◌+◌}
use native.Mathlib.Omega.{arith}
use borrow.Author.Tests.{eqb-true}
use lib.Dec.{eqb}
use Rattle.fields.specs.Kind.{INIT, ECHO}
use Rattle.forms.specs.Column.{count}
use Rattle.sets.specs.History.{Sent, hear}
use Rattle.sets.specs.Ticks.{empty}
use Rattle.sets.proofs.Members.{Proper, proper_facts, proper_empty}
use Rattle.evidence.specs.Holders.{held_under}
use Rattle.evidence.specs.Rows.{Row, set_of, credit_row, credit_of, credit}
use Rattle.evidence.specs.Serials.{serials_in}
use Rattle.evidence.proofs.Frames.{serial_credited, both_any}
use Rattle.evidence.proofs.Growth.{Kept, AllKept}

-- a kind that frames have
abbrev pub Known : ℕ → Type 0
Known kind = (kind ≡ INIT) ⊎ (kind ≡ ECHO)

module _ (w kind j asked : ℕ) (known : Known kind) (wanted : Known asked) where
  abbrev frame : Sent
  frame = record { kind = kind; tick = j }

  -- ---- one row

  hears : (k a : ℕ) (row : Row) → Known k → Known a → set_of a (credit_row w k j row) ≡ hear w a (set_of a row) (record { kind = k; tick = j })
  unfolding set_of credit_row hear
  hears k a row (inl p) (inl q) = rw (p, q)
  hears k a row (inl p) (inr q) = rw (p, q)
  hears k a row (inr p) (inl q) = rw (p, q)
  hears k a row (inr p) (inr q) = rw (p, q)

  row_hears :
      (serial : ℕ) (row : Row)
      → eqb row.serial serial ≡ true
      → set_of asked (credit_of w serial kind j row) ≡ hear w asked (set_of asked row) frame
  unfolding credit_of
  row_hears serial row e = rw e (hears kind asked row known wanted)

  row_alone : (port : ℕ) (row : Row) → eqb row.serial port ≡ false → credit_of w port kind j row ≡ row
  unfolding credit_of
  row_alone port row e = rw e

  -- ---- all rows

  -- a frame credited to a serial is heard under it
  abbrev OwnHeard : ℕ → List Row → Type 0
  OwnHeard serial rows = held_under (credit w serial kind j rows) serial asked ≡ hear w asked (held_under rows serial asked) frame

  pub under_own : (serial : ℕ) (rows : List Row) → (count serial (serials_in rows) ≡ 0 → ⊥) → OwnHeard serial rows
  unfolding held_under credit count credit_of
  under_own serial [] listed = absurd (listed refl)
  under_own serial (row ∷ rows) listed =
      rw (serial_credited w serial kind j row) (go (eqb row.serial serial) refl (under_own serial rows) listed)
    where
      go :
          (t : Bool)
          → eqb row.serial serial ≡ t
          → ((count serial (serials_in rows) ≡ 0 → ⊥) → OwnHeard serial rows)
          → (cond t 1 0 + count serial (serials_in rows) ≡ 0 → ⊥)
          → cond t (set_of asked (credit_of w serial kind j row)) (held_under (credit w serial kind j rows) serial asked)
          ≡ hear w asked (cond t (set_of asked row) (held_under rows serial asked)) frame
      go true e ih n = row_hears serial row e
      go false e ih n = ih (λ z. n (omega arith))

  pub under_other :
      (port serial : ℕ) (rows : List Row)
      → (port ≡ serial → ⊥)
      → held_under (credit w port kind j rows) serial asked ≡ held_under rows serial asked
  unfolding held_under credit credit_of
  under_other port serial [] apart = refl
  under_other port serial (row ∷ rows) apart =
      rw (serial_credited w port kind j row)
      (go (eqb row.serial port) refl (eqb row.serial serial) refl (under_other port serial rows apart))
    where
      go :
          (t : Bool)
          → eqb row.serial port ≡ t
          → (u : Bool)
          → eqb row.serial serial ≡ u
          → held_under (credit w port kind j rows) serial asked ≡ held_under rows serial asked
          → cond u (set_of asked (credit_of w port kind j row)) (held_under (credit w port kind j rows) serial asked)
          ≡ cond u (set_of asked row) (held_under rows serial asked)
      go true e true f ih = absurd (apart (sym (eqb-true row.serial port e) ∙ eqb-true row.serial serial f))
      go false e true f ih = ap (set_of asked) (row_alone port row e)
      go t e false f ih = ih

-- ---- proper sets

pub held_proper : (w last : ℕ) (rows : List Row) (serial kind : ℕ) → AllKept w last rows → Proper w (held_under rows serial kind)
unfolding held_under
held_proper w last [] serial kind h = proper_facts w empty (proper_empty w empty refl)
held_proper w last (row ∷ rows) serial kind h = go (eqb row.serial serial) (held_proper w last rows serial kind h.1)
  where
    go : (t : Bool) → Proper w (held_under rows serial kind) → Proper w (cond t (set_of kind row) (held_under rows serial kind))
    go true r = (both_any (Kept w last) kind row h.0).good
    go false r = r
