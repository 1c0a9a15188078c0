-- What a frame does to rows: in the row of its sender the set of its kind takes the frame's ticks, and every other set and every
-- serial stays. So a property of sets that every insertion keeps is kept by a frame, of both sets of every row.
-- Assumes nothing.
use mathlib.Core.Path.{◌≡◌, refl, sym, ◌∙◌}
use mathlib.Core.Bool.{Bool, true, false, cond}
use mathlib.Core.List.{List, [], ◌∷◌}
use Prim.Native.Nat.{ℕ, zero, suc, ◌<◌}
use native.Mathlib.Omega.{arith}
use lib.Dec.{eqb}
use Rattle.fields.specs.Kind.{INIT, ECHO}
use Rattle.sets.specs.Ticks.{Held, insert, insert_all, run, many_added, added, add}
use Rattle.evidence.specs.Rows.{Row, set_of, credit_row, credit_of, credit}

-- ---- one row

module _ (w serial kind j : ℕ) (row : Row) where
  -- the row stays, or one of its sets takes the frame's ticks
  credited :
      (P : Row → Type 0) → P row →
      (eqb kind ECHO ≡ true → P (record { serial = row.serial; echo = add w kind row.echo j; init = row.init })) →
      (eqb kind ECHO ≡ false → P (record { serial = row.serial; echo = row.echo; init = add w kind row.init j })) →
      P (credit_of w serial kind j row)
  unfolding credit_of credit_row
  credited P same echo init = go (eqb row.serial serial) (eqb kind ECHO) refl
    where
      go :
          (its e : Bool) → eqb kind ECHO ≡ e →
          P (cond its (cond e (record { serial = row.serial; echo = add w kind row.echo j; init = row.init })
          (record { serial = row.serial; echo = row.echo; init = add w kind row.init j })) row)
      go false e q = same
      go true true q = echo q
      go true false q = init q

  pub serial_credited : (credit_of w serial kind j row).serial ≡ row.serial
  serial_credited = credited (λ r. r.serial ≡ row.serial) refl (λ e. refl) (λ e. refl)

  -- the set of any kind before and after
  pub set_credited :
      (k : ℕ) (P : Held → Held → Type 0) → ((s : Held) → P s s) → ((s : Held) → P (add w kind s j) s) →
      P (set_of k (credit_of w serial kind j row)) (set_of k row)
  unfolding set_of
  set_credited k P same more =
      credited (λ r. P (set_of k r) (set_of k row)) (same (set_of k row)) (λ e. go_echo (eqb k ECHO)) (λ e. go_init (eqb k ECHO))
    where
      go_echo : (e : Bool) → P (cond e (add w kind row.echo j) row.init) (cond e row.echo row.init)
      go_echo true = more row.echo
      go_echo false = same row.init

      go_init : (e : Bool) → P (cond e row.echo (add w kind row.init j)) (cond e row.echo row.init)
      go_init true = same row.echo
      go_init false = more row.init

  -- a set of the other kind stays
  pub set_other : (k : ℕ) → (eqb kind ECHO ≡ eqb k ECHO → ⊥) → set_of k (credit_of w serial kind j row) ≡ set_of k row
  unfolding set_of
  set_other k n =
      credited (λ r. set_of k r ≡ set_of k row) refl (λ e. go_echo (eqb k ECHO) (λ f. n (e ∙ sym f)))
      (λ e. go_init (eqb k ECHO) (λ f. n (e ∙ sym f)))
    where
      go_echo : (e : Bool) → (e ≡ true → ⊥) → cond e (add w kind row.echo j) row.init ≡ cond e row.echo row.init
      go_echo true other = absurd (other refl)
      go_echo false other = refl

      go_init : (e : Bool) → (e ≡ false → ⊥) → cond e row.echo (add w kind row.init j) ≡ cond e row.echo row.init
      go_init true other = refl
      go_init false other = absurd (other refl)

-- ---- every row

abbrev pub Every : (Row → Type 0) → List Row → Type 0
Every P [] = Unit {0}
Every P (row ∷ rows) = P row × Every P rows

pub every_map : {P Q : Row → Type 0} (rows : List Row) → ((row : Row) → P row → Q row) → Every P rows → Every Q rows
every_map [] weaker h = tt
every_map (row ∷ rows) weaker h = (weaker row h.0, every_map rows weaker h.1)

pub every_credited :
    (w serial kind j : ℕ) (P : Row → Type 0) → ((row : Row) → P row → P (credit_of w serial kind j row)) →
    (rows : List Row) → Every P rows → Every P (credit w serial kind j rows)
unfolding credit
every_credited w serial kind j P keeps [] h = tt
every_credited w serial kind j P keeps (row ∷ rows) h =
    (keeps row h.0, every_credited w serial kind j P keeps rows h.1)

-- ---- a property of sets

-- of both sets of a row, and so of the set of any kind
abbrev pub Both : (Held → Type 0) → Row → Type 0
Both P row = P row.echo × P row.init

pub both_any : (P : Held → Type 0) (k : ℕ) (row : Row) → Both P row → P (set_of k row)
unfolding set_of
both_any P k row h = go (eqb k ECHO)
  where
    go : (e : Bool) → P (cond e row.echo row.init)
    go true = h.0
    go false = h.1

-- a property that the insertion of any tick below a bound keeps
module _ (w bound : ℕ) (P : Held → Type 0) (keeps : (s : Held) (t : ℕ) → t < bound → P s → P (insert w s t)) where
  run_keeps : (s : Held) (c j : ℕ) → j < bound → P s → P (insert_all w s (run c j))
  unfolding insert_all run
  run_keeps s zero j p h = h
  run_keeps s (suc c) zero p h = keeps s 0 p h
  run_keeps s (suc c) (suc j) p h = run_keeps (insert w s (suc j)) c j (omega arith) (keeps s (suc j) p h)

  add_keeps : (kind : ℕ) (s : Held) (j : ℕ) → j < bound → P s → P (add w kind s j)
  unfolding add added
  add_keeps kind s j p h = run_keeps s (many_added kind) j p h

  module _ (serial kind j : ℕ) (small : j < bound) where
    -- a frame keeps it, of both sets of its row and of every row
    pub row_keeps : (row : Row) → Both P row → Both P (credit_of w serial kind j row)
    unfolding set_of
    row_keeps row h = (after ECHO h.0, after INIT h.1)
      where
        after : (k : ℕ) → P (set_of k row) → P (set_of k (credit_of w serial kind j row))
        after k = set_credited w serial kind j row k (λ a b. P b → P a) (λ s g. g) (λ s g. add_keeps kind s j small g)

    pub credit_keeps : (rows : List Row) → Every (Both P) rows → Every (Both P) (credit w serial kind j rows)
    credit_keeps = every_credited w serial kind j (Both P) row_keeps
