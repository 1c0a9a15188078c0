-- Laws of the marks of buckets, kept as bits: none at first, the test of one, and one more.
-- Assumes nothing.
use mathlib.Core.Path.{◌≡◌, refl, sym, ap, subst, ◌∙◌}
use mathlib.Core.Bool.{not}
use mathlib.Core.List.{List}
use mathlib.Core.Logic.{◌≢◌}
use Prim.Native.Nat.{ℕ, zero, suc, ◌*◌, ◌/◌, ◌%◌, ◌^◌, ◌<◌}
use native.Mathlib.Decide.{ℕ_discrete}
use native.Mathlib.Omega.{arith}
use lib.Bits.{bit_and, bit_or}
use lib.Dec.{eqb, ltb}
use lib.ListN.{length, length-set, get_or, set}
use lib.Seq.{get_or-set_same, get_or-set_other}
use borrow.Author.Tests.{lt-ltb, ne_eqb}
use Rattle.std.specs.Int.{w64, bit_at}
use Rattle.std.proofs.lemmas.Nat.Bits.{shr_and_one, bit_at_set_same, bit_at_set_other}
use Rattle.std.proofs.lemmas.List.FromFn.{length-map-range_with_len, get_or-map-range_with_len, fill_by_all}
use Rattle.forms.specs.Marks.{mark, marks}
use Rattle.forms.specs.Tally.{buckets}

marks_at : (words : List ℕ) (k : ℕ) → k < buckets → get_or (marks words) k 0 ≡ mark words k
unfolding marks
marks_at words k p = get_or-map-range_with_len (mark words) 0 buckets k k 0 p (omega arith)

module _ (words : List ℕ) (k : ℕ) (p : k < buckets) where
  -- the test of a bit
  pub has_mark : not (eqb (bit_and (get_or words (k / 64) 0 / 2 ^ (k % 64)) 1) 0) ≡ ltb 0 (get_or (marks words) k 0)
  unfolding mark
  has_mark = rw (marks_at words k p, shr_and_one (get_or words (k / 64) 0) (k % 64)) (above (bit_at (get_or words (k / 64) 0) (k % 64)))
    where
      above : (n : ℕ) → not (eqb n 0) ≡ ltb 0 n
      above zero = refl
      above (suc n) = rw (ne_eqb (suc n) 0 (λ e. omega arith), lt-ltb 0 (suc n) (omega arith)) refl

  module _ (size : length words ≡ 4) where
    -- the word with one bit more
    word : ℕ
    word = bit_or (get_or words (k / 64) 0) (1 * 2 ^ (k % 64) % 2 ^ 64)

    mark_same : mark (set words (k / 64) word) k ≡ 1
    unfolding mark word
    mark_same =
        ap (λ (x : ℕ). bit_at x (k % 64)) (get_or-set_same words (k / 64) word 0 (omega arith))
        ∙ bit_at_set_same w64 (get_or words (k / 64) 0) (k % 64) (omega arith)

    mark_other : (j : ℕ) → j ≢ k → mark (set words (k / 64) word) j ≡ mark words j
    unfolding mark word
    mark_other j ne =
        elim (ℕ_discrete (j / 64) (k / 64)) [
          | yes e ↦
              ap (λ (i : ℕ). bit_at (get_or (set words (k / 64) word) i 0) (j % 64)) e
              ∙ ap (λ (x : ℕ). bit_at x (j % 64)) (get_or-set_same words (k / 64) word 0 (omega arith))
              ∙ bit_at_set_other w64 (get_or words (k / 64) 0) (k % 64) (omega arith) (j % 64) (λ q. ne (omega arith))
              ∙ ap (λ (i : ℕ). bit_at (get_or words i 0) (j % 64)) (sym e)
          | no n ↦ ap (λ (x : ℕ). bit_at x (j % 64)) (get_or-set_other words (k / 64) (j / 64) word 0 n)
        ]

    -- one more
    pub marked : marks (set words (k / 64) (bit_or (get_or words (k / 64) 0) (1 * 2 ^ (k % 64) % 2 ^ 64))) ≡ set (marks words) k 1
    unfolding marks word
    marked =
        sym (fill_by_all (mark (set words (k / 64) word)) (set (marks words) k 1) buckets 0 whole each)
      where
        all : length (marks words) ≡ buckets
        all = length-map-range_with_len (mark words) 0 buckets

        whole : length (set (marks words) k 1) ≡ buckets
        whole = length-set (marks words) k 1 ∙ all

        each : (j : ℕ) → j < buckets → get_or (set (marks words) k 1) j 0 ≡ mark (set words (k / 64) word) j
        each j q =
            elim (ℕ_discrete j k) [
              | yes e ↦
                  subst
                  (λ (i : ℕ). get_or (set (marks words) k 1) i 0 ≡ mark (set words (k / 64) word) i)
                  (sym e)
                  (get_or-set_same (marks words) k 1 0 (omega (arith, all)) ∙ sym mark_same)
              | no n ↦
                  get_or-set_other (marks words) k j 1 0 n
                  ∙ marks_at words j q
                  ∙ sym (mark_other j n)
            ]
