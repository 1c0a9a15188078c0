-- A set stored in its row is the list of rows credited by serial: the store in place that the code makes, and the map over rows
-- that the definitions speak of. So bytes of other rows stay.
-- Assumes nothing.
use mathlib.Core.Path.{◌≡◌, refl, sym, ap, ap₂, ◌∙◌}
use mathlib.Core.Bool.{Bool, true, false, cond}
use mathlib.Core.List.{List, [], ◌∷◌}
use Prim.Native.Nat.{ℕ, zero, suc, ◌+◌, ◌*◌, ◌≤◌, ◌<◌}
use native.Mathlib.Nat.{mul-suc, suc-mul, suc_inj}
use native.Mathlib.Omega.{arith}
use borrow.Author.Tests.{eqb-true}
use lib.ListN.{get_or}
use lib.Dec.{eqb}
use Rattle.fields.specs.Field.{field, put_field, words, Bytes}
use Rattle.fields.specs.Kind.{ECHO}
use Rattle.fields.proofs.Fields.{put_field_lem}
use Rattle.forms.specs.Column.{count}
use Rattle.sets.specs.Ticks.{Held, add}
use Rattle.evidence.specs.Holders.{one_on, place_of}
use Rattle.evidence.specs.Rows.{Row, set_size, row_size, echo_place, init_place, place_of_set}
use Rattle.evidence.specs.Rows.{set_at, row_at, rows_at, put_set, put_row_bytes, put_rows, credit_row, credit_of, credit}
use Rattle.evidence.proofs.Encoded.{get_d_put_row_other, bytes_put_rows}
use Rattle.evidence.proofs.Layouts.{bytes_put_set, get_d_put_set_other, set_apart, row_same, rows_same, put_set_lem, put_row_lem, put_rows_lem}

-- the list with the set of a kind credited in the row that stands at place p
abbrev pub stored : (mb w kind j : ℕ) → List ℕ → ℕ → List ℕ
stored mb w kind j b p = put_set mb b (p + place_of_set mb kind) (add w kind (set_at mb b (p + place_of_set mb kind)) j)

-- ---- one row

put_credit :
    (mb w kind j : ℕ) (b : List ℕ) (i : ℕ) → Bytes b → put_row_bytes mb b i (credit_row w kind j (row_at mb b i)) ≡ stored mb w kind j b i
unfolding put_row_bytes credit_row row_at place_of_set
put_credit mb w kind j b i h = go (eqb kind ECHO)
  where
    echoes : ℕ
    echoes = i + echo_place

    inits : ℕ
    inits = i + init_place mb

    -- one set is stored, and the other stands there already
    echoed :
        (s : Held) →
        put_set mb (put_set mb (put_field 4 b i (field 4 b i)) echoes s) inits (set_at mb b inits) ≡ put_set mb b echoes s
    echoed s =
        ap (λ (l : List ℕ). put_set mb (put_set mb l echoes s) inits (set_at mb b inits)) (put_field_lem 4 b i h)
        ∙ ap (put_set mb (put_set mb b echoes s) inits) (sym (set_apart mb b echoes s inits (λ k l p q e. omega arith)))
        ∙ put_set_lem mb (put_set mb b echoes s) inits (bytes_put_set mb b echoes s h)

    initial :
        (s : Held) →
        put_set mb (put_set mb (put_field 4 b i (field 4 b i)) echoes (set_at mb b echoes)) inits s ≡ put_set mb b inits s
    initial s =
        ap (λ (l : List ℕ). put_set mb (put_set mb l echoes (set_at mb b echoes)) inits s) (put_field_lem 4 b i h)
        ∙ ap (λ (l : List ℕ). put_set mb l inits s) (put_set_lem mb b echoes h)

    row_of : Bool → Row
    row_of t =
        cond t (record { serial = field 4 b i; echo = add w kind (set_at mb b echoes) j; init = set_at mb b inits })
        (record { serial = field 4 b i; echo = set_at mb b echoes; init = add w kind (set_at mb b inits) j })

    go :
        (t : Bool) →
        let p = i + cond t echo_place (init_place mb) in
        put_set mb (put_set mb (put_field 4 b i (row_of t).serial) echoes (row_of t).echo) inits (row_of t).init
        ≡ put_set mb b p (add w kind (set_at mb b p) j)
    go true = echoed (add w kind (set_at mb b echoes) j)
    go false = initial (add w kind (set_at mb b inits) j)

-- ---- a serial that is in no row

pub credit_none :
    (mb w serial kind j n : ℕ) (b : List ℕ) (i : ℕ) → count serial (words n (row_size mb) b i) ≡ 0 →
    credit w serial kind j (rows_at mb n b i) ≡ rows_at mb n b i
unfolding credit credit_of rows_at row_at words count
credit_none mb w serial kind j zero b i e = refl
credit_none mb w serial kind j (suc n) b i e =
    go (eqb (field 4 b i) serial) (credit_none mb w serial kind j n b (i + row_size mb)) e
  where
    rest : List Row
    rest = rows_at mb n b (i + row_size mb)

    more : ℕ
    more = count serial (words n (row_size mb) b (i + row_size mb))

    go :
        (t : Bool) → (more ≡ 0 → credit w serial kind j rest ≡ rest) → cond t 1 0 + more ≡ 0 →
        cond t (credit_row w kind j (row_at mb b i)) (row_at mb b i) ∷ credit w serial kind j rest ≡ row_at mb b i ∷ rest
    go true ih f = absurd (omega arith)
    go false ih f = ap (λ (l : List Row). row_at mb b i ∷ l) (ih (omega arith))

pub place_none :
    (mb serial n : ℕ) (b : List ℕ) (i : ℕ) → place_of serial (rows_at mb n b i) ≡ 0 → count serial (words n (row_size mb) b i) ≡ 0
unfolding place_of rows_at row_at words count
place_none mb serial zero b i e = refl
place_none mb serial (suc n) b i e =
    go (eqb (field 4 b i) serial) (place_of serial (rows_at mb n b (i + row_size mb))) (place_none mb serial n b (i + row_size mb)) e
  where
    more : ℕ
    more = count serial (words n (row_size mb) b (i + row_size mb))

    go : (t : Bool) (p : ℕ) → (p ≡ 0 → more ≡ 0) → cond t 1 (one_on p) ≡ 0 → cond t 1 0 + more ≡ 0
    go true p ih f = absurd (omega arith)
    go false zero ih f = omega (arith, ih refl)
    go false (suc p) ih f = absurd (omega arith)

pub place_le : (serial mb n : ℕ) (b : List ℕ) (i : ℕ) → place_of serial (rows_at mb n b i) ≤ n
unfolding place_of rows_at
place_le serial mb zero b i = omega arith
place_le serial mb (suc n) b i =
    go (eqb (row_at mb b i).serial serial) (place_of serial (rows_at mb n b (i + row_size mb))) (place_le serial mb n b (i + row_size mb))
  where
    go : (t : Bool) (p : ℕ) → p ≤ n → cond t 1 (one_on p) ≤ suc n
    go true p q = omega arith
    go false zero q = omega arith
    go false (suc p) q = omega arith

-- ---- the row of a serial

place_small : (mb kind : ℕ) → place_of_set mb kind + set_size mb ≤ row_size mb
unfolding place_of_set
place_small mb kind = go (eqb kind ECHO)
  where
    go : (t : Bool) → cond t echo_place (init_place mb) + set_size mb ≤ row_size mb
    go true = omega arith
    go false = omega arith

first_row :
    (mb w serial kind j n : ℕ) (b : List ℕ) (i : ℕ) → Bytes b → count serial (words n (row_size mb) b (i + row_size mb)) ≡ 0 →
    put_rows mb (put_row_bytes mb b i (credit_row w kind j (row_at mb b i))) (i + row_size mb)
    (credit w serial kind j (rows_at mb n b (i + row_size mb)))
    ≡ stored mb w kind j b i
first_row mb w serial kind j n b i h e =
    ap₂ (λ (l : List ℕ) (r : List Row). put_rows mb l (i + row_size mb) r) (put_credit mb w kind j b i h)
    (credit_none mb w serial kind j n b (i + row_size mb) e
    ∙ rows_same mb n b (stored mb w kind j b i) (i + row_size mb)
    (λ k p. sym (get_d_put_set_other mb b place after k (λ m q f. omega (arith, place_small mb kind)))))
    ∙ put_rows_lem mb n (stored mb w kind j b i) (i + row_size mb) (bytes_put_set mb b place after h)
  where
    place : ℕ
    place = i + place_of_set mb kind

    after : Held
    after = add w kind (set_at mb b place) j

pub credit_at :
    (mb w serial kind j n : ℕ) (b : List ℕ) (i k : ℕ) → Bytes b → place_of serial (rows_at mb n b i) ≡ suc k →
    count serial (words n (row_size mb) b i) ≤ 1 →
    put_rows mb b i (credit w serial kind j (rows_at mb n b i)) ≡ stored mb w kind j b (i + row_size mb * k)
unfolding place_of rows_at words count credit credit_of put_rows row_at
credit_at mb w serial kind j zero b i k h e c = absurd (omega arith)
credit_at mb w serial kind j (suc n) b i k h e c =
    go (eqb (field 4 b i) serial) (place_of serial rest) k e c (λ m. credit_at mb w serial kind j n b (i + row_size mb) m h)
  where
    rest : List Row
    rest = rows_at mb n b (i + row_size mb)

    more : ℕ
    more = count serial (words n (row_size mb) b (i + row_size mb))

    places : (m : ℕ) → i + row_size mb + row_size mb * m ≡ i + row_size mb * suc m
    places m = omega (arith, mul-suc (row_size mb) m)

    start : (m : ℕ) → 0 ≡ m → i ≡ i + row_size mb * m
    start m z = omega (arith, ap (λ (x : ℕ). row_size mb * x) z)

    go :
        (t : Bool) (p k : ℕ) → cond t 1 (one_on p) ≡ suc k → cond t 1 0 + more ≤ 1 →
        ((m : ℕ) → p ≡ suc m → more ≤ 1 →
        put_rows mb b (i + row_size mb) (credit w serial kind j rest) ≡ stored mb w kind j b (i + row_size mb + row_size mb * m)) →
        put_rows mb (put_row_bytes mb b i (cond t (credit_row w kind j (row_at mb b i)) (row_at mb b i))) (i + row_size mb)
        (credit w serial kind j rest)
        ≡ stored mb w kind j b (i + row_size mb * k)
    go true p k f c ih = first_row mb w serial kind j n b i h (omega arith) ∙ ap (stored mb w kind j b) (start k (suc_inj f))
    go false zero k f c ih = absurd (omega arith)
    go false (suc p) zero f c ih = absurd (omega arith)
    go false (suc p) (suc m) f c ih =
        ap (λ (l : List ℕ). put_rows mb l (i + row_size mb) (credit w serial kind j rest)) (put_row_lem mb b i h)
        ∙ ih m (suc_inj f) (omega arith) ∙ ap (stored mb w kind j b) (places m)

-- ---- bytes of other rows

-- a byte stays that lies in no row of the serial. The rows are read from b and written to c, which is like b from their place on
pub credit_elsewhere : (mb w serial kind j n : ℕ) (b c : List ℕ) (i p : ℕ) →
    Bytes c →
    ((q : ℕ) → i ≤ q → get_or c q 0 ≡ get_or b q 0) →
    ((k : ℕ) → k < n → field 4 b (i + k * row_size mb) ≡ serial → i + k * row_size mb ≤ p → p < i + k * row_size mb + row_size mb → ⊥) →
    get_or (put_rows mb c i (credit w serial kind j (rows_at mb n b i))) p 0 ≡ get_or c p 0
unfolding put_rows credit credit_of rows_at row_at
credit_elsewhere mb w serial kind j zero b c i p bytes same out = refl
credit_elsewhere mb w serial kind j (suc n) b c i p bytes same out =
    credit_elsewhere mb w serial kind j n b (put_row_bytes mb c i row) (i + row_size mb) p (bytes_put_rows mb c i (row ∷ []) bytes)
    (λ q r. get_d_put_row_other mb c i row q (λ k l e. omega arith) ∙ same q (omega arith))
    (λ k l e from to. out (suc k) (omega arith) (ap (field 4 b) (sym (next k)) ∙ e) (omega (arith, next k)) (omega (arith, next k)))
    ∙ here (eqb (field 4 b i) serial) refl
  where
    row : Row
    row = credit_of w serial kind j (row_at mb b i)

    next : (k : ℕ) → i + row_size mb + k * row_size mb ≡ i + suc k * row_size mb
    next k = omega (arith, suc-mul k (row_size mb))

    first : i + 0 * row_size mb ≡ i
    first = omega arith

    here : (t : Bool) →
        eqb (field 4 b i) serial ≡ t →
        get_or (put_row_bytes mb c i (cond t (credit_row w kind j (row_at mb b i)) (row_at mb b i))) p 0 ≡ get_or c p 0
    here true e =
        let found : field 4 b (i + 0 * row_size mb) ≡ serial = ap (field 4 b) first ∙ eqb-true (field 4 b i) serial e in
        get_d_put_row_other mb c i _ p (λ k l f. out 0 (omega arith) found (omega arith) (omega arith))
    here false e =
        ap (λ (r : Row). get_or (put_row_bytes mb c i r) p 0) (row_same mb b c i (λ k l. sym (same (i + k) (omega arith))))
        ∙ ap (λ (l : List ℕ). get_or l p 0) (put_row_lem mb c i bytes)
