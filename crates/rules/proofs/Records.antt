-- Laws of records in bytes: they keep the length and the bytes before and behind them, and records behind records are one list of
-- records; so what joints send adds up.
-- Assumes nothing.
use mathlib.Core.Path.{◌≡◌, refl, sym, ap, ◌∙◌}
use mathlib.Core.List.{List, [], ◌∷◌, ◌++◌}
use Prim.Native.Nat.{ℕ, suc, ◌+◌, ◌*◌, ◌≤◌, ◌<◌}
use native.Mathlib.Nat.{add-zero}
use native.Mathlib.Omega.{arith}
use lib.ListN.{length, get_or, length-append}
use Rattle.forms.specs.Frame.{put_frame_bytes}
use Rattle.fields.proofs.Fields.{length_put, get_d_put_other}
use Rattle.rules.specs.Record.{Outgoing, record_size, put_record_bytes, put_records}
use Rattle.rules.specs.Steps.{SentAs}

pub length_put_record : (out : List ℕ) (i : ℕ) (r : Outgoing) → length (put_record_bytes out i r) ≡ length out
unfolding put_record_bytes put_frame_bytes
length_put_record out i r = simp length_put

pub length_put_records : (out : List ℕ) (i : ℕ) (rs : List Outgoing) → length (put_records out i rs) ≡ length out
unfolding put_records
length_put_records out i [] = refl
length_put_records out i (r ∷ rs) = length_put_records (put_record_bytes out i r) (i + record_size) rs ∙ length_put_record out i r

-- a byte outside a record
get_d_put_record_other : (out : List ℕ) (i : ℕ) (r : Outgoing) (j : ℕ) →
    ((k : ℕ) → k < record_size → j ≡ i + k → ⊥) →
    get_or (put_record_bytes out i r) j 0 ≡ get_or out j 0
unfolding put_record_bytes put_frame_bytes
get_d_put_record_other out i r j far =
    get_d_put_other 4 _ (i + 4 + 4) _ j (λ k q e. far (8 + k) (omega arith) (omega arith))
    ∙ get_d_put_other 2 _ (i + 4 + 2) _ j (λ k q e. far (6 + k) (omega arith) (omega arith))
    ∙ get_d_put_other 1 _ (i + 4 + 1) _ j (λ k q e. far (5 + k) (omega arith) (omega arith))
    ∙ get_d_put_other 1 _ (i + 4) _ j (λ k q e. far (4 + k) (omega arith) (omega arith))
    ∙ get_d_put_other 4 _ i _ j (λ k q e. far k (omega arith) e)

-- a byte behind the records
pub get_d_put_records_after : (out : List ℕ) (i : ℕ) (rs : List Outgoing) (j : ℕ) →
    i + record_size * length rs ≤ j →
    get_or (put_records out i rs) j 0 ≡ get_or out j 0
unfolding put_records
get_d_put_records_after out i [] j p = refl
get_d_put_records_after out i (r ∷ rs) j p =
    get_d_put_records_after (put_record_bytes out i r) (i + record_size) rs j (omega arith)
    ∙ get_d_put_record_other out i r j (λ k q e. omega arith)

-- a byte before them
pub get_d_put_records_before : (out : List ℕ) (i : ℕ) (rs : List Outgoing) (j : ℕ) →
    j < i →
    get_or (put_records out i rs) j 0 ≡ get_or out j 0
unfolding put_records
get_d_put_records_before out i [] j p = refl
get_d_put_records_before out i (r ∷ rs) j p =
    get_d_put_records_before (put_record_bytes out i r) (i + record_size) rs j (omega arith)
    ∙ get_d_put_record_other out i r j (λ k q e. omega arith)

pub put_records_none : (out : List ℕ) (i : ℕ) → put_records out i [] ≡ out
unfolding put_records
put_records_none out i = refl

put_records_append :
    (out : List ℕ) (i : ℕ) (xs ys : List Outgoing)
    → put_records out i (xs ++ ys) ≡ put_records (put_records out i xs) (i + record_size * length xs) ys
unfolding put_records
put_records_append out i [] ys = ap (λ (j : ℕ). put_records out j ys) (sym (add-zero i))
put_records_append out i (x ∷ xs) ys =
    put_records_append (put_record_bytes out i x) (i + record_size) xs ys
    ∙ ap (λ (j : ℕ). put_records (put_records (put_record_bytes out i x) (i + record_size) xs) j ys) (behind (length xs))
  where
    behind : (n : ℕ) → i + record_size + record_size * n ≡ i + record_size * suc n
    behind n = omega arith

-- n records stand from place 0 on, and with xs they are m
pub put_records_behind :
    (out : List ℕ) (n m : ℕ) (xs ys : List Outgoing)
    → m ≡ n + length xs
    → put_records out (record_size * n) (xs ++ ys) ≡ put_records (put_records out (record_size * n) xs) (record_size * m) ys
put_records_behind out n m xs ys e =
    let place : record_size * n + record_size * length xs ≡ record_size * m = omega arith in
    put_records_append out (record_size * n) xs ys ∙ ap (λ (j : ℕ). put_records (put_records out (record_size * n) xs) j ys) place

-- ---- what a joint sends: nothing, one record, some and then others

pub sent_none : {out : List ℕ} {n : ℕ} → SentAs 1 [] n out n out
unfolding put_records
sent_none = record { records = omega arith; few = omega arith; bytes = refl }

pub sent_one :
    {out after : List ℕ} {n : ℕ} {r : Outgoing}
    → after ≡ put_record_bytes out (record_size * n) r
    → SentAs 1 (r ∷ []) n out (n + 1) after
unfolding put_records
sent_one e = record { records = refl; few = omega arith; bytes = e }

pub sent_then :
    {most more start n m : ℕ} {xs ys : List Outgoing} {out mid after : List ℕ}
    → SentAs most xs start out n mid
    → SentAs more ys n mid m after
    → SentAs (most + more) (xs ++ ys) start out m after
sent_then {start = start} {n = n} {xs = xs} {ys = ys} {out = out} h g =
    record {
      records = omega (arith, length-append xs ys);
      few = omega arith;
      bytes =
          g.bytes ∙ ap (λ (l : List ℕ). put_records l (record_size * n) ys) h.bytes
          ∙ sym (put_records_behind out start n xs ys h.records);
    }
