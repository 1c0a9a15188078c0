-- What a credited frame can do to rows: no tick gains a holder but those that the frame adds, nor more holders than its sender has
-- rows, and none of the other kind; sets stay proper, tops stay at most the last tick, and serials stay.
-- Assumes nothing.
use mathlib.Core.Path.{◌≡◌, refl, ap₂}
use mathlib.Core.Logic.{◌⊎◌, inl, inr}
use mathlib.Core.Bool.{Bool, true, false, cond, ◌&&◌, and-eq-true_iff}
use mathlib.Core.List.Memᴰ
use mathlib.Core.List.{List, [], ◌∷◌, map, Memᴰ}
use Prim.Native.Nat.{ℕ, zero, suc, ◌+◌, ◌≤◌, ◌<◌, max}
use native.Mathlib.Decide.{dec_le, dec_lt}
use native.Mathlib.Omega.{arith}
use borrow.Author.Tests.{leb-true, le-leb}
use lib.Dec.{leb, eqb}
use Rattle.fields.specs.Kind.{ECHO}
use Rattle.forms.specs.Column.{count}
use Rattle.sets.specs.Ticks.{Held, holds, insert, insert_all, run, added, add, proper}
use Rattle.sets.proofs.Members.{Proper, holds_above, holds_below, holds_le, insert_top, insert_old, insert_proper}
use Rattle.sets.proofs.Members.{proper_facts, proper_test}
use Rattle.evidence.specs.Holders.{holders}
use Rattle.evidence.specs.Rows.{Row, set_of, credit_row, credit_of, credit, proper_set, proper_rows}
use Rattle.evidence.specs.Serials.{serials_in}
use Rattle.evidence.proofs.Frames.{serial_credited, set_credited, set_other, Every, Both, both_any, credit_keeps}

-- ---- the ticks that a frame adds lie at most two below its own

run_near : (u c j : ℕ) → Memᴰ u (run c j) → (u ≤ j) × (j < u + c)
unfolding run
run_near u zero j m = absurd (Memᴰ.not-nil m)
run_near u (suc c) zero m = go (Memᴰ.cases_cons m)
  where
    go : (u ≡ 0) ⊎ Memᴰ u [] → (u ≤ 0) × (0 < u + suc c)
    go (inl e) = omega arith
    go (inr n) = absurd (Memᴰ.not-nil n)
run_near u (suc c) (suc j) m = go (λ n. run_near u c j n) (Memᴰ.cases_cons m)
  where
    go :
        (Memᴰ u (run c j) → (u ≤ j) × (j < u + c)) → (u ≡ suc j) ⊎ Memᴰ u (run c j) →
        (u ≤ suc j) × (suc j < u + suc c)
    go ih (inl e) = omega arith
    go ih (inr n) = let h = ih n in omega (arith, h)

pub added_near : (kind j u : ℕ) → Memᴰ u (added kind j) → (u ≤ j) × (j ≤ u + 2)
unfolding added
added_near kind j u m = go (eqb kind ECHO) m
  where
    go : (t : Bool) → Memᴰ u (run (cond t 3 1) j) → (u ≤ j) × (j ≤ u + 2)
    go true n = let h = run_near u 3 j n in omega (arith, h)
    go false n = let h = run_near u 1 j n in omega (arith, h)

-- ---- one set

-- a tick that is not inserted is not newly held
insert_less : (w : ℕ) (s : Held) (t u : ℕ) → 0 < w → (u ≡ t → ⊥) → holds w (insert w s t) u ≤ holds w s u
insert_less w s t u wide ne =
    elim (dec_lt (max s.top t) (u + w)) [
      | yes p ↦ omega (arith, insert_old w s t u wide ne p)
      | no p ↦ omega (arith, holds_below w (insert w s t) u (omega (arith, insert_top w s t wide)))
    ]

all_less :
    (w : ℕ) (s : Held) (ts : List ℕ) (u : ℕ) → 0 < w → (Memᴰ u ts → ⊥) → holds w (insert_all w s ts) u ≤ holds w s u
unfolding insert_all
all_less w s [] u wide n = omega arith
all_less w s (t ∷ ts) u wide n =
    omega (
      arith,
      all_less w (insert w s t) ts u wide (λ m. n (Memᴰ.tail m)),
      insert_less w s t u wide (λ e. n (Memᴰ.head e)),
    )

add_less :
    (w kind : ℕ) (s : Held) (j u : ℕ) → 0 < w → (Memᴰ u (added kind j) → ⊥) → holds w (add w kind s j) u ≤ holds w s u
unfolding add
add_less w kind s j u wide n = all_less w s (added kind j) u wide n

-- ---- rows

-- no tick gains a holder but those that the frame adds
pub holders_less :
    (w serial kind j k u : ℕ) (rows : List Row) → 0 < w → (Memᴰ u (added kind j) → ⊥) →
    holders w k u (credit w serial kind j rows) ≤ holders w k u rows
unfolding holders credit
holders_less w serial kind j k u [] wide n = omega arith
holders_less w serial kind j k u (row ∷ rows) wide n =
    omega (
      arith,
      holders_less w serial kind j k u rows wide n,
      set_credited w serial kind j row k (λ (a b : Held). holds w a u ≤ holds w b u) (λ s. le s) (λ s. add_less w kind s j u wide n),
    )
  where
    le : (s : Held) → holds w s u ≤ holds w s u
    le s = omega arith

-- the sender alone can be a new holder
pub holders_more :
    (w serial kind j k u : ℕ) (rows : List Row) →
    holders w k u (credit w serial kind j rows) ≤ holders w k u rows + count serial (serials_in rows)
unfolding holders credit credit_of count
holders_more w serial kind j k u [] = omega arith
holders_more w serial kind j k u (row ∷ rows) = go (eqb row.serial serial) (holders_more w serial kind j k u rows)
  where
    go :
        (its : Bool) →
        holders w k u (credit w serial kind j rows) ≤ holders w k u rows + count serial (serials_in rows) →
        holds w (set_of k (cond its (credit_row w kind j row) row)) u + holders w k u (credit w serial kind j rows)
        ≤ holds w (set_of k row) u + holders w k u rows + (cond its 1 0 + count serial (serials_in rows))
    go true ih = omega (arith, holds_le w (set_of k (credit_row w kind j row)) u)
    go false ih = omega arith

-- no tick of the other kind gains or loses a holder
pub holders_other :
    (w serial kind j k u : ℕ) (rows : List Row) → (eqb kind ECHO ≡ eqb k ECHO → ⊥) →
    holders w k u (credit w serial kind j rows) ≡ holders w k u rows
unfolding holders credit
holders_other w serial kind j k u [] n = refl
holders_other w serial kind j k u (row ∷ rows) n =
    ap₂ (λ (s : Held) (m : ℕ). holds w s u + m) (set_other w serial kind j row k n) (holders_other w serial kind j k u rows n)

pub serials_credited :
    (w serial kind j : ℕ) (rows : List Row) →
    map (λ (row : Row). row.serial) (credit w serial kind j rows) ≡ map (λ (row : Row). row.serial) rows
unfolding credit
serials_credited w serial kind j [] = refl
serials_credited w serial kind j (row ∷ rows) =
    ap₂ (λ (x : ℕ) (l : List ℕ). x ∷ l) (serial_credited w serial kind j row) (serials_credited w serial kind j rows)

-- ---- proper sets stay proper

-- a set as a sound image may hold it, as facts
pub record Kept (w last : ℕ) (s : Held) : Type 0 where
  pub bounded : s.top ≤ last
  pub good : Proper w s

kept : (w last : ℕ) (s : Held) → proper_set w last s ≡ true → Kept w last s
unfolding proper_set
kept w last s e =
    let h = (and-eq-true_iff (leb s.top last) (proper w s)).0 e in
    record { bounded = leb-true s.top last h.0; good = proper_facts w s h.1 }

kept_test : (w last : ℕ) (s : Held) → Kept w last s → proper_set w last s ≡ true
unfolding proper_set
kept_test w last s h =
    (and-eq-true_iff (leb s.top last) (proper w s)).1 (le-leb s.top last h.bounded, proper_test w s h.good)

-- the two sets of each row
abbrev pub AllKept : ℕ → ℕ → List Row → Type 0
AllKept w last rows = Every (Both (Kept w last)) rows

pub all_kept : (w last : ℕ) (rows : List Row) → proper_rows w last rows ≡ true → AllKept w last rows
unfolding proper_rows
all_kept w last [] e = tt
all_kept w last (row ∷ rows) e =
    let echo = proper_set w last row.echo in
    let init = proper_set w last row.init in
    let h = (and-eq-true_iff echo (init && proper_rows w last rows)).0 e in
    let g = (and-eq-true_iff init (proper_rows w last rows)).0 h.1 in
    ((kept w last row.echo h.0, kept w last row.init g.0), all_kept w last rows g.1)

pub all_kept_test : (w last : ℕ) (rows : List Row) → AllKept w last rows → proper_rows w last rows ≡ true
unfolding proper_rows
all_kept_test w last [] h = refl
all_kept_test w last (row ∷ rows) h =
    ap₂ (λ (a b : Bool). a && b) (kept_test w last row.echo h.0.0)
    (ap₂ (λ (a b : Bool). a && b) (kept_test w last row.init h.0.1) (all_kept_test w last rows h.1))

pub credit_kept :
    (w last serial kind j : ℕ) (rows : List Row) → 0 < w → j ≤ last → AllKept w last rows →
    AllKept w last (credit w serial kind j rows)
credit_kept w last serial kind j rows wide p = credit_keeps w (suc last) (Kept w last) insert_kept serial kind j (omega arith) rows
  where
    insert_kept : (s : Held) (t : ℕ) → t < suc last → Kept w last s → Kept w last (insert w s t)
    insert_kept s t q h =
        record { bounded = omega (arith, insert_top w s t wide, h.bounded); good = insert_proper w s t wide h.good }

-- a tick that somebody holds is at most the last tick
pub held_bounded : (w last k u : ℕ) (rows : List Row) → AllKept w last rows → 0 < holders w k u rows → u ≤ last
unfolding holders
held_bounded w last k u [] h p = absurd (omega arith)
held_bounded w last k u (row ∷ rows) h p =
    let s = set_of k row in
    elim (dec_le u s.top) [
      | yes q ↦ omega (arith, (both_any (Kept w last) k row h.0).bounded)
      | no q ↦ held_bounded w last k u rows h.1 (omega (arith, holds_above w s u (omega arith)))
    ]
