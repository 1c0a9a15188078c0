-- Laws of a frame's kind and flag, shared by the reader and the writer.
-- Assumes nothing.
use mathlib.Core.Path.{◌≡◌, refl}
use mathlib.Core.Bool.{Bool, true, false, false≢true}
use mathlib.Core.Logic.{◌⊎◌, inl, inr, ⊎_elim}
use Prim.Native.Nat.{ℕ}
use native.Mathlib.Omega.{arith}
use Rattle.fields.specs.Kind.{INIT, ECHO}
use Rattle.forms.specs.Frame.{known_head, Narrow}
use Rattle.forms.specs.Table.{KnownHead, BadHead}
use Rattle.forms.specs.declared.frame.Frame.{Frame}
use Rattle.forms.proofs.Meaning.{Decides, head_says}

-- what is not bad is known
pub not_bad_head : (kind flag : ℕ) → (BadHead kind flag → ⊥) → KnownHead kind flag
not_bad_head kind flag h = go (known_head kind flag) (head_says kind flag)
  where
    go : (t : Bool) → Decides t (KnownHead kind flag) → KnownHead kind flag
    go true d = d.0 refl
    go false d = absurd (h (λ k. false≢true (d.1 k)))

-- the kind is init or echo
pub head_kind : (kind flag : ℕ) → KnownHead kind flag → (kind ≡ INIT) ⊎ (kind ≡ ECHO)
head_kind kind flag (inl h) = inl h.0
head_kind kind flag (inr h) = inr h.0

-- kind and flag are bytes
pub head_narrow : (frame : Frame) → KnownHead frame.kind frame.flag → Narrow frame
head_narrow frame (inl h) = record { kind = omega arith; flag = omega arith }
head_narrow frame (inr h) = record { kind = omega arith; flag = ⊎_elim (λ e. omega arith) (λ e. omega arith) h.1 }
