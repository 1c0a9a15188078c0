-- What is put as records is read back, each as it was, where each fits its bytes.
-- Assumes nothing.
use mathlib.Core.Path.{◌≡◌, refl, ap₂, ◌∙◌}
use mathlib.Core.List.{List, [], ◌∷◌}
use Prim.Native.Nat.{ℕ, ◌+◌, ◌*◌, ◌^◌, ◌≤◌, ◌<◌}
use native.Mathlib.Omega.{arith}
use lib.ListN.{length, get_or}
use Rattle.fields.specs.Field.{field, put_field}
use Rattle.forms.specs.Frame.{Narrow, frame_at, put_frame_bytes}
use Rattle.fields.proofs.Fields.{field_same, field_put, field_put_other, length_put}
use Rattle.forms.proofs.FrameTrip.{frame_there}
use Rattle.rules.specs.Record.{Outgoing, record_size, Every, put_record_bytes, put_records, record_at, records_at}
use Rattle.rules.proofs.Records.{length_put_record, get_d_put_records_before}

pub record Fits (r : Outgoing) : Type 0 where
  pub dest : r.dest < 2 ^ 32
  pub narrow : Narrow r.frame
  pub tick : r.frame.tick < 2 ^ 32

-- a record whose bytes are the same in two lists
record_same : (b c : List ℕ) (i : ℕ) → ((j : ℕ) → j < i + record_size → get_or b j 0 ≡ get_or c j 0) → record_at b i ≡ record_at c i
unfolding record_at
record_same b c i same =
    λ d.
    record {
      dest = field_same 4 b c i i (λ k p. same (i + k) (omega arith)) d;
      frame =
          record {
            kind = same (i + 4) (omega arith) d;
            flag = same (i + 4 + 1) (omega arith) d;
            tick = field_same 4 b c (i + 4 + 4) (i + 4 + 4) (λ k p. same (i + 4 + 4 + k) (omega arith)) d;
          };
    }

-- one record put at a place lies there
record_there : (out : List ℕ) (i : ℕ) (r : Outgoing) → Fits r → i + record_size ≤ length out → record_at (put_record_bytes out i r) i ≡ r
unfolding record_at put_record_bytes put_frame_bytes
record_there out i r fits inside = λ d. record { dest = dest d; frame = frame d }
  where
    dest : field 4 (put_frame_bytes (put_field 4 out i r.dest) (i + 4) r.frame) i ≡ r.dest
    dest =
        field_put_other 4 4 _ (i + 4 + 4) _ i (omega arith)
        ∙ field_put_other 4 2 _ (i + 4 + 2) 0 i (omega arith)
        ∙ field_put_other 4 1 _ (i + 4 + 1) _ i (omega arith)
        ∙ field_put_other 4 1 _ (i + 4) _ i (omega arith)
        ∙ field_put 4 out i r.dest (omega arith) fits.dest

    frame : frame_at (put_frame_bytes (put_field 4 out i r.dest) (i + 4) r.frame) (i + 4) ≡ r.frame
    frame = frame_there _ (i + 4) r.frame (simp length_put (omega arith)) fits.narrow fits.tick

pub records_none : (b : List ℕ) (i : ℕ) → records_at 0 b i ≡ []
unfolding records_at
records_none b i = refl

pub records_back : (out : List ℕ) (i : ℕ) (rs : List Outgoing) → Every Fits rs → i + record_size * length rs ≤ length out →
    records_at (length rs) (put_records out i rs) i ≡ rs
unfolding records_at put_records
records_back out i [] fits inside = refl
records_back out i (r ∷ rs) fits inside =
    ap₂ (λ (x : Outgoing) (xs : List Outgoing). x ∷ xs)
    (record_same (put_records (put_record_bytes out i r) (i + record_size) rs) (put_record_bytes out i r) i
    (get_d_put_records_before (put_record_bytes out i r) (i + record_size) rs)
    ∙ record_there out i r fits.0 (omega arith))
    (records_back (put_record_bytes out i r) (i + record_size) rs fits.1 (rw (length_put_record out i r) (omega arith)))
