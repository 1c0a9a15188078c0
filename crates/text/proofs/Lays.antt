-- Laws of `lay`, bytes laid over a list from a place on: what a writer that goes on where it stopped leaves, and that nothing but the
-- place laid over changes. It is the library's copy of all the bytes (`paste`). Callers cite these and never look into `lay`.
-- Assumes nothing.
use mathlib.Core.Path.{◌≡◌, sym, ap₂, ◌∙◌, subst}
use Prim.Native.Nat.{ℕ, ◌+◌, ◌-◌, ◌≤◌}
use native.Mathlib.Nat.{add-sub_of_le}
use native.Mathlib.Omega.{arith}
use mathlib.Core.List.{List, [], ◌++◌, append_assoc}
use lib.ListN.{length, take, drop, length-append}
use lib.Seq.{take-length, drop-drop, paste, paste-zero, length-paste, take-paste, drop-paste}
use Rattle.text.specs.Lay.{lay}

pub lay_paste : (out : List ℕ) (i : ℕ) (bytes : List ℕ) → lay out i bytes ≡ paste out i bytes (length bytes)
unfolding lay
lay_paste out i bytes = rw take-length

-- ---- the parts and the length

module _ (out : List ℕ) (i : ℕ) (bytes : List ℕ) where
  pub take_lay : i ≤ length out → take (i + length bytes) (lay out i bytes) ≡ take i out ++ bytes
  take_lay p = rw (lay_paste, take-paste out i bytes (length bytes) p (omega arith), take-length)

  -- what stands behind the bytes stays
  pub drop_lay : (n : ℕ) → i + length bytes ≤ n → i ≤ length out → drop n (lay out i bytes) ≡ drop n out
  drop_lay n q p =
      let past : ℕ = i + length bytes in
      subst (λ (m : ℕ). drop m (lay out i bytes) ≡ drop m out) (add-sub_of_le q)
      (rw (
        ← drop-drop (n - past) past (lay out i bytes),
        ← drop-drop (n - past) past out,
        lay_paste,
        drop-paste out i bytes (length bytes) p (omega arith),
      ))

  pub length_lay : i + length bytes ≤ length out → length (lay out i bytes) ≡ length out
  length_lay p = rw lay_paste (length-paste out i bytes (length bytes) p (omega arith))

-- ---- no byte, some bytes and then others

pub lay_none : (out : List ℕ) (i : ℕ) → lay out i [] ≡ out
unfolding lay
lay_none out i = sym (paste-zero out i [])

-- what a writer that goes on leaves: bytes laid behind bytes laid are all of them laid at once
pub lay_append : (out : List ℕ) (i : ℕ) (xs ys : List ℕ) → i + length xs + length ys ≤ length out →
    lay out i (xs ++ ys) ≡ lay (lay out i xs) (i + length xs) ys
unfolding lay
lay_append out i xs ys p =
    let end : ℕ = i + length xs + length ys in
    let size : i + length (xs ++ ys) ≡ end = omega (arith, length-append xs ys) in
    ap₂ (λ (l : List ℕ) (n : ℕ). l ++ drop n out) (sym (append_assoc (take i out) xs ys)) size
    ∙ sym (ap₂ (λ (l r : List ℕ). l ++ ys ++ r) (take_lay out i xs (omega arith)) (drop_lay out i xs end (omega arith) (omega arith)))
