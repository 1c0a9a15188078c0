-- "Held by m" is what the count of rows says: where no serial stands twice in the roster, at least m rows hold (kind, t) exactly
-- where at least m distinct serials do. Once for echo and init, and for every width, tick and m.
-- Assumes nothing.
use mathlib.Core.Path.{◌≡◌, refl, sym, ap, ◌∙◌}
use mathlib.Core.Logic.{◌↔◌, ◌≢◌, ◌⊎◌, inl, inr, ⊎_elim}
use mathlib.Core.List.Memᴰ
use mathlib.Core.List.{List, [], ◌∷◌, Memᴰ}
use Prim.Native.Nat.{ℕ, suc, ◌+◌, ◌≤◌}
use native.Mathlib.Decide.{dec_lt, ℕ_discrete}
use native.Mathlib.Omega.{arith}
use lib.ListN.{length}
use Rattle.forms.specs.Column.{count, twins}
use Rattle.forms.specs.Table.{Twice}
use Rattle.forms.proofs.Meaning.{member_says, twice_says}
use Rattle.sets.specs.Ticks.{holds}
use Rattle.sets.proofs.Members.{holds_le}
use Rattle.evidence.specs.Rows.{Row, set_of}
use Rattle.evidence.specs.Holders.{holders}
use Rattle.evidence.specs.Serials.{serials_in, Holder, HeldBy}

-- ---- lists with no serial twice

-- with one more in front: it is not among the others
once_cons : (x : ℕ) (l : List ℕ) → (Twice (x ∷ l) → ⊥) ↔ ((Memᴰ x l → ⊥) × (Twice l → ⊥))
unfolding twins
once_cons x l = (
  λ once. (
    λ m. once ((twice_says (x ∷ l)).0 (omega (arith, (member_says x l).1 m))),
    λ t. once ((twice_says (x ∷ l)).0 (omega (arith, (twice_says l).1 t))),
  ),
  λ h t. elim (dec_lt 0 (count x l)) [
    | yes p ↦ h.0 ((member_says x l).0 p)
    | no q ↦ h.1 ((twice_says l).0 (omega (arith, (twice_says (x ∷ l)).1 t)))
  ],
)

-- a list without x: at most one shorter, with no member but those of the list other than x
record Without (x : ℕ) (l : List ℕ) : Type 0 where
  left : List ℕ
  most : length l ≤ suc (length left)
  once : Twice left → ⊥
  other : (s : ℕ) → Memᴰ s left → Memᴰ s l × (s ≢ x)

without : (x : ℕ) (l : List ℕ) → (Twice l → ⊥) → Without x l
without x [] once = record { left = []; most = omega arith; once = once; other = λ s m. absurd (Memᴰ.not-nil m) }
without x (y ∷ l) once = go (ℕ_discrete y x) (without x l apart.1)
  where
    apart : (Memᴰ y l → ⊥) × (Twice l → ⊥)
    apart = (once_cons y l).0 once

    go : Dec (y ≡ x) → Without x l → Without x (y ∷ l)
    go (yes e) below =
        record { left = l; most = omega arith; once = apart.1; other = λ s m. (Memᴰ.tail m, λ f. apart.0 (Memᴰ.cast (e ∙ sym f) m)) }
    go (no n) below =
        record {
          left = y ∷ below.left;
          most = omega (arith, below.most);
          once = (once_cons y below.left).1 (λ m. apart.0 (below.other y m).0, below.once);
          other = λ s m. kept s (Memᴰ.cases_cons m);
        }
      where
        kept : (s : ℕ) → (s ≡ y) ⊎ Memᴰ s below.left → Memᴰ s (y ∷ l) × (s ≢ x)
        kept s (inl e) = (Memᴰ.head e, λ f. n (sym e ∙ f))
        kept s (inr m) = (Memᴰ.tail (below.other s m).0, (below.other s m).1)

-- ---- rows and serials

module _ (w kind t : ℕ) where
  -- one row more in front
  later : {row : Row} {rows : List Row} {serial : ℕ} → Holder w kind t rows serial → Holder w kind t (row ∷ rows) serial
  later h = record { row = h.row; listed = Memᴰ.tail h.listed; its = h.its; held = h.held }

  -- and back, where it is not the first row that holds it
  behind : {row : Row} {rows : List Row} {serial : ℕ} (h : Holder w kind t (row ∷ rows) serial) →
      (h.row ≡ row → ⊥) → Holder w kind t rows serial
  behind h ne =
      record {
        row = h.row;
        listed = ⊎_elim (λ e. absurd (ne e)) (λ m. m) (Memᴰ.cases_cons h.listed);
        its = h.its;
        held = h.held;
      }

  -- a serial that holds something stands in the roster
  in_roster : {rows : List Row} {serial : ℕ} → Holder w kind t rows serial → Memᴰ serial (serials_in rows)
  in_roster h = Memᴰ.cast (sym h.its) (Memᴰ.map (λ (row : Row). row.serial) h.listed)

  -- the serials of all rows that hold it
  all_holders : (rows : List Row) → (Twice (serials_in rows) → ⊥) → HeldBy w kind t (holders w kind t rows) rows
  unfolding holders
  all_holders [] once = record { serials = []; many = omega arith; distinct = once; each = λ s q. absurd (Memᴰ.not-nil q) }
  all_holders (row ∷ rows) once = go (ℕ_discrete (holds w (set_of kind row) t) 1) (all_holders rows apart.1)
    where
      apart : (Memᴰ row.serial (serials_in rows) → ⊥) × (Twice (serials_in rows) → ⊥)
      apart = (once_cons row.serial (serials_in rows)).0 once

      go : Dec (holds w (set_of kind row) t ≡ 1) →
          HeldBy w kind t (holders w kind t rows) rows →
          HeldBy w kind t (holds w (set_of kind row) t + holders w kind t rows) (row ∷ rows)
      go (yes e) h =
          record {
            serials = row.serial ∷ h.serials;
            many = omega (arith, h.many);
            distinct = (once_cons row.serial h.serials).1 (λ q. apart.0 (in_roster (h.each row.serial q)), h.distinct);
            each = λ s q. elim (Memᴰ.cases_cons q) [
              | inl f ↦ record { row = row; listed = Memᴰ.head refl; its = sym f; held = e }
              | inr r ↦ later (h.each s r)
            ];
          }
      go (no n) h =
          record {
            serials = h.serials;
            many = omega (arith, h.many, holds_le w (set_of kind row) t);
            distinct = h.distinct;
            each = λ s q. later (h.each s q);
          }

  -- distinct serials that hold it are no more than the rows that do
  no_more : (rows : List Row) (serials : List ℕ) →
      (Twice serials → ⊥) →
      ((s : ℕ) → Memᴰ s serials → Holder w kind t rows s) →
      length serials ≤ holders w kind t rows
  unfolding holders
  no_more [] [] once each = omega arith
  no_more [] (s ∷ serials) once each = absurd (Memᴰ.not-nil (each s (Memᴰ.head refl)).listed)
  no_more (row ∷ rows) serials once each =
      let rest = without row.serial serials once in
      elim (ℕ_discrete (holds w (set_of kind row) t) 1) [
        | yes e ↦ omega (
          arith,
          rest.most,
          no_more rows rest.left rest.once (λ s m.
              behind (each s (rest.other s m).0)
              (λ f. (rest.other s m).1 (sym (each s (rest.other s m).0).its ∙ ap (λ (r : Row). r.serial) f))),
        )
        | no n ↦ omega (
          arith,
          no_more rows serials once (λ s m.
              behind (each s m) (λ f. n (sym (ap (λ (r : Row). holds w (set_of kind r) t) f) ∙ (each s m).held))),
        )
      ]

-- at least m rows hold (kind, t) exactly where at least m distinct serials do
pub held_by_says : (w kind t m : ℕ) (rows : List Row) →
    (Twice (serials_in rows) → ⊥) →
    (m ≤ holders w kind t rows) ↔ HeldBy w kind t m rows
held_by_says w kind t m rows once = (
  λ p. let h = all_holders w kind t rows once in
      record { serials = h.serials; many = omega arith; distinct = h.distinct; each = h.each },
  λ h. omega (arith, h.many, no_more w kind t rows h.serials h.distinct h.each),
)
