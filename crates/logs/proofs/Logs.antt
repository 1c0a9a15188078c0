-- What the numbers of a log say: where the paper's layout holds and where the writer takes its parts, and what reader and writer
-- answer there and elsewhere. Callers cite these and never look into the tests.
-- Assumes nothing.
use mathlib.Core.Path.{◌≡◌, refl, sym, ◌∙◌}
use mathlib.Core.Logic.{◌⊎◌, inl, inr}
use mathlib.Core.Bool.{Bool, true, false, not, ◌||◌, false≢true}
use mathlib.Core.List.{List}
use Prim.Native.Nat.{ℕ, suc, ◌+◌, ◌*◌, ◌%◌, ◌≤◌, ◌<◌}
use native.Mathlib.Decide.{dec_le}
use native.Mathlib.Omega.{arith}
use lib.ListN.{length}
use lib.Dec.{ltb, eqb}
use borrow.Author.Tests.{ltb-true, ltb-false, eqb-true, eqb-false, lt-ltb, le-ltb}
use Rattle.forms.specs.Form.{WriteTold, done_write, refused_write}
use Rattle.forms.proofs.Meaning.{Decides}
use Rattle.logs.specs.Log.{form_place, event_size, most_events, least_form, most_form, least_offset, most_offset, count_of, form_at, events_at}
use Rattle.logs.specs.Log.{broken, log_number, refused_log, log_told, unfit, write_number, log_size, put_log, log_written}
use Rattle.logs.specs.Table.{Laid, Fit}

-- ---- the tests

-- a test that passes exactly where what it is made for does not hold
abbrev pub Judged : Bool → Type 0 → Type 0
Judged refuses Holds = ((refuses ≡ false) × Holds) ⊎ ((refuses ≡ true) × (Holds → ⊥))

pub log_judged : (b : List ℕ) → Judged (broken b) (Laid b)
log_judged b =
    go (ltb (length b) form_place) refl (eqb (form_at b) form_place) refl (ltb (events_at b) least_offset) refl
    (ltb most_offset (events_at b)) refl (ltb most_events (count_of b)) refl (eqb (length b) (events_at b + event_size * count_of b)) refl
  where
    go : (t₁ : Bool) → ltb (length b) form_place ≡ t₁ → (t₂ : Bool) → eqb (form_at b) form_place ≡ t₂ →
        (t₃ : Bool) → ltb (events_at b) least_offset ≡ t₃ → (t₄ : Bool) → ltb most_offset (events_at b) ≡ t₄ →
        (t₅ : Bool) → ltb most_events (count_of b) ≡ t₅ → (t₆ : Bool) → eqb (length b) (events_at b + event_size * count_of b) ≡ t₆ →
        Judged (t₁ || not t₂ || t₃ || t₄ || t₅ || not t₆) (Laid b)
    go true e₁ t₂ e₂ t₃ e₃ t₄ e₄ t₅ e₅ t₆ e₆ = inr (refl, λ l. omega (arith, ltb-true))
    go false e₁ false e₂ t₃ e₃ t₄ e₄ t₅ e₅ t₆ e₆ = inr (refl, λ l. eqb-false _ _ e₂ l.form)
    go false e₁ true e₂ true e₃ t₄ e₄ t₅ e₅ t₆ e₆ = inr (refl, λ l. omega (arith, ltb-true))
    go false e₁ true e₂ false e₃ true e₄ t₅ e₅ t₆ e₆ = inr (refl, λ l. omega (arith, ltb-true))
    go false e₁ true e₂ false e₃ false e₄ true e₅ t₆ e₆ = inr (refl, λ l. omega (arith, ltb-true))
    go false e₁ true e₂ false e₃ false e₄ false e₅ false e₆ = inr (refl, λ l. eqb-false _ _ e₆ l.whole)
    go false e₁ true e₂ false e₃ false e₄ false e₅ true e₆ =
        inl (
          refl,
          record {
            form = eqb-true _ _ e₂;
            least = ltb-false _ _ e₃;
            most = ltb-false _ _ e₄;
            few = ltb-false _ _ e₅;
            whole = eqb-true _ _ e₆;
          },
        )

pub write_judged : (form events : List ℕ) → Judged (unfit form events) (Fit form events)
write_judged form events =
    go (ltb (length form) least_form) refl (ltb most_form (length form)) refl (eqb (length events % event_size) 0) refl
    (ltb (event_size * most_events) (length events)) refl
  where
    go : (t₁ : Bool) → ltb (length form) least_form ≡ t₁ → (t₂ : Bool) → ltb most_form (length form) ≡ t₂ →
        (t₃ : Bool) → eqb (length events % event_size) 0 ≡ t₃ → (t₄ : Bool) → ltb (event_size * most_events) (length events) ≡ t₄ →
        Judged (t₁ || t₂ || not t₃ || t₄) (Fit form events)
    go true e₁ t₂ e₂ t₃ e₃ t₄ e₄ = inr (refl, λ l. omega (arith, ltb-true))
    go false e₁ true e₂ t₃ e₃ t₄ e₄ = inr (refl, λ l. omega (arith, ltb-true))
    go false e₁ false e₂ false e₃ t₄ e₄ = inr (refl, λ l. eqb-false _ _ e₃ l.whole)
    go false e₁ false e₂ true e₃ true e₄ = inr (refl, λ l. omega (arith, ltb-true))
    go false e₁ false e₂ true e₃ false e₄ =
        inl (
          refl,
          record {
            least = ltb-false _ _ e₁;
            most = ltb-false _ _ e₂;
            whole = eqb-true _ _ e₃;
            few = omega (arith, ltb-false);
          },
        )

-- what is judged
module _ {refuses : Bool} {Holds : Type 0} where
  pub judged_decides : Judged refuses Holds → Decides refuses (Holds → ⊥)
  judged_decides (inl j) = (λ e. absurd (false≢true (sym j.0 ∙ e)), λ n. absurd (n j.1))
  judged_decides (inr j) = (λ e. j.1, λ n. j.0)

  judged_sound : Judged refuses Holds → Holds → refuses ≡ false
  judged_sound (inl j) h = j.0
  judged_sound (inr j) h = absurd (j.1 h)

-- ---- the answers

module _ (b : List ℕ) where
  pub told_laid : Laid b → log_told b ≡ record { number = 0; count = count_of b; events = events_at b }
  unfolding log_told log_number
  told_laid l = rw (judged_sound (log_judged b) l)

  pub told_broken : (Laid b → ⊥) → log_told b ≡ refused_log 13
  unfolding log_told log_number
  told_broken n = rw ((judged_decides (log_judged b)).1 n)

module _ (form events out : List ℕ) where
  pub written_fit : Fit form events → log_size form events ≤ length out →
      log_written form events out ≡ done_write (log_size form events) (put_log out form events)
  unfolding log_written write_number
  written_fit f p = rw (judged_sound (write_judged form events) f, le-ltb (length out) (log_size form events) p)

  pub written_short : Fit form events → length out < log_size form events → log_written form events out ≡ refused_write 7 out
  unfolding log_written write_number
  written_short f p = rw (judged_sound (write_judged form events) f, lt-ltb (length out) (log_size form events) p)

  pub written_unfit : (Fit form events → ⊥) → log_written form events out ≡ refused_write 13 out
  unfolding log_written write_number
  written_unfit n = rw ((judged_decides (write_judged form events)).1 n)

-- what the check of the reader, and of the writer, needs
pub ruleset tells = (told_laid, told_broken)

pub ruleset writes = (written_fit, written_short, written_unfit)

-- what the writer answers in each case
pub data Answer (form events out : List ℕ) : WriteTold → Type 0 where
  wrote : Fit form events → log_size form events ≤ length out →
      Answer form events out (done_write (log_size form events) (put_log out form events))
  refused : (number : ℕ) → Answer form events out (refused_write (suc number) out)

pub answer : (form events out : List ℕ) → Answer form events out (log_written form events out)
answer form events out = go (write_judged form events) (dec_le (log_size form events) (length out))
  where
    go : Judged (unfit form events) (Fit form events) → Dec (log_size form events ≤ length out) →
        Answer form events out (log_written form events out)
    go (inl j) (yes p) = rw (written_fit form events out j.1 p) (wrote j.1 p)
    go (inl j) (no p) = rw (written_short form events out j.1 (omega arith)) (refused 6)
    go (inr j) d = rw (written_unfit form events out j.1) (refused 12)
