-- Laws of the old rows in bytes as the list that `OldRows` is: its serials, and where some of the rows stand.
-- Assumes nothing.
use mathlib.Core.Path.{◌≡◌, refl, sym, ap, ap₂, ◌∙◌}
use mathlib.Core.List.{List, ◌∷◌}
use Prim.Native.Nat.{ℕ, zero, suc, ◌+◌, ◌-◌, ◌*◌, ◌<◌, ◌≤◌}
use native.Mathlib.Nat.{suc-mul, zero-mul}
use native.Mathlib.Omega.{arith}
use lib.ListN.{length, take, drop}
use Rattle.fields.specs.Field.{words}
use Rattle.evidence.specs.Rows.{Row, row_size, row_at, rows_at}
use Rattle.evidence.specs.Serials.{serials_in}
use Rattle.evidence.proofs.Layouts.{serials_of_rows}
use Rattle.evidence.proofs.Lists.{count_is}
use Rattle.node.specs.Layout.{old_layout}

-- bytes of a mask and of a row
abbrev pub masks : ℕ
masks = old_layout.masks

abbrev pub row_bytes : ℕ
row_bytes = row_size masks

-- ---- some of the rows

rows_drop : (n : ℕ) (b : List ℕ) (i k : ℕ) → k ≤ n → drop k (rows_at masks n b i) ≡ rows_at masks (n - k) b (i + k * row_bytes)
unfolding rows_at
rows_drop n b i zero p = ap₂ (λ (m j : ℕ). rows_at masks m b j) {x = n} {y = n - 0} (omega arith) (omega (arith, zero-mul row_bytes))
rows_drop zero b i (suc k) p = absurd (omega arith)
rows_drop (suc n) b i (suc k) p =
    rows_drop n b (i + row_bytes) k (omega arith)
    ∙ ap₂ (λ (m j : ℕ). rows_at masks m b j) {x = n - k} {y = suc n - suc k} (omega arith) (omega (arith, suc-mul k row_bytes))

rows_take : (n : ℕ) (b : List ℕ) (i m : ℕ) → m ≤ n → take m (rows_at masks n b i) ≡ rows_at masks m b i
unfolding rows_at
rows_take n b i zero p = refl
rows_take zero b i (suc m) p = absurd (omega arith)
rows_take (suc n) b i (suc m) p = ap (λ (rs : List Row). row_at masks b i ∷ rs) (rows_take n b (i + row_bytes) m (omega arith))

-- ---- of a list that is these rows
module _ (n : ℕ) (b : List ℕ) (i : ℕ) (rows : List Row) (view_is : rows_at masks n b i ≡ rows) where
  pub serials_are : words n row_bytes b i ≡ serials_in rows
  serials_are = sym (serials_of_rows masks n b i) ∙ ap serials_in view_is

  pub part_is : (k m : ℕ) → k + m ≤ length rows → rows_at masks m b (i + k * row_bytes) ≡ take m (drop k rows)
  part_is k m p =
      sym (rows_take (n - k) b (i + k * row_bytes) m (omega (arith, count_is masks n b i rows view_is)))
      ∙ ap (take m) (sym (rows_drop n b i k (omega (arith, count_is masks n b i rows view_is))))
      ∙ ap (λ (rs : List Row). take m (drop k rs)) view_is

  -- they lie inside the bytes, as all rows do
  pub part_inside : (k m : ℕ) → k + m ≤ length rows → i + n * row_bytes ≤ length b → i + k * row_bytes + m * row_bytes ≤ length b
  part_inside k m p inside = omega (arith, count_is masks n b i rows view_is)

  pub row_inside : (k : ℕ) → k < length rows → i + n * row_bytes ≤ length b → i + k * row_bytes + row_bytes ≤ length b
  row_inside k p inside = omega (arith, count_is masks n b i rows view_is)
