-- Laws of a run of entries in bytes: the way down it entry by entry, its pack numbers as a column, and whether one passes a test.
-- Assumes nothing.
use mathlib.Core.Path.{◌≡◌, refl, sym, ap, ap₂, ◌∙◌}
use mathlib.Core.Bool.{Bool, true, false, cond}
use mathlib.Core.List.{List, [], ◌∷◌}
use Prim.Native.Nat.{ℕ, zero, suc, ◌+◌, ◌-◌, ◌*◌, ◌≤◌, ◌<◌}
use native.Mathlib.Nat.{add_assoc}
use native.Mathlib.Omega.{arith}
use lib.ListN.{length, get_or}
use lib.Dec.{lit≤, ltb}
use borrow.Author.Tests.{lt-ltb, ltb-true}
use Rattle.fields.specs.Field.{field, words}
use Rattle.fields.proofs.Fields.{field_same}
use Rattle.forms.specs.Column.{how_many}
use Rattle.packs.specs.Sheet.{first_place, end_place, entry_size, entry_in_bytes, entries_in, packs, no_entry}
use Rattle.packs.specs.declared.sheet.Entry.{Entry}

pub length_entries_in : (n : ℕ) (b : List ℕ) (i : ℕ) → length (entries_in n b i) ≡ n
unfolding entries_in
length_entries_in zero b i = refl
length_entries_in (suc n) b i = ap suc (length_entries_in n b (i + entry_size))

-- a run of which an entry is left is that entry, and then the run one entry shorter
pub entries_step : (n : ℕ) (b : List ℕ) (i : ℕ) → 0 < n → entries_in n b i ≡ entry_in_bytes b i ∷ entries_in (n - 1) b (i + entry_size)
unfolding entries_in
entries_step zero b i p = absurd (omega arith)
entries_step (suc n) b i p = let e : n ≡ suc n - 1 = omega arith in ap (λ (m : ℕ). entry_in_bytes b i ∷ entries_in m b (i + entry_size)) e

-- the entry on a line
pub get_d_entries_in : (n : ℕ) (b : List ℕ) (i k : ℕ) → k < n → get_or (entries_in n b i) k no_entry ≡ entry_in_bytes b (i + k * entry_size)
unfolding entries_in
get_d_entries_in zero b i k p = absurd (omega arith)
get_d_entries_in (suc n) b i zero p = let e : i ≡ i + 0 * entry_size = omega arith in ap (entry_in_bytes b) e
get_d_entries_in (suc n) b i (suc k) p =
    let e : i + entry_size + k * entry_size ≡ i + suc k * entry_size = omega arith in
    get_d_entries_in n b (i + entry_size) k (omega arith) ∙ ap (entry_in_bytes b) e

-- runs whose bytes are the same are the same
pub entries_same : (n : ℕ) (b c : List ℕ) (i j : ℕ) → ((k : ℕ) → k < n * entry_size → get_or b (i + k) 0 ≡ get_or c (j + k) 0) →
    entries_in n b i ≡ entries_in n c j
unfolding entries_in
entries_same zero b c i j h = refl
entries_same (suc n) b c i j h =
    ap₂ (λ (e : Entry) (l : List Entry). e ∷ l) entry
    (entries_same n b c (i + entry_size) (j + entry_size)
    (λ k q.
    ap (λ (m : ℕ). get_or b m 0) (add_assoc i entry_size k)
    ∙ h (entry_size + k) (omega arith)
    ∙ ap (λ (m : ℕ). get_or c m 0) (sym (add_assoc j entry_size k))))
  where
    -- the word at a place of the first entry
    word : (p : ℕ) → p + 4 ≤ entry_size → field 4 b (i + p) ≡ field 4 c (j + p)
    word p r =
        field_same 4 b c (i + p) (j + p)
        (λ k q.
        ap (λ (m : ℕ). get_or b m 0) (add_assoc i p k)
        ∙ h (p + k) (omega arith)
        ∙ ap (λ (m : ℕ). get_or c m 0) (sym (add_assoc j p k)))

    pack : field 4 b i ≡ field 4 c j
    pack = field_same 4 b c i j (λ k q. h k (omega arith))

    entry : entry_in_bytes b i ≡ entry_in_bytes c j
    entry d = record { pack = pack d; first = word first_place (lit≤ tt) d; end = word end_place (lit≤ tt) d }

-- the pack numbers are a column
pub packs_words : (n : ℕ) (b : List ℕ) (i : ℕ) → packs (entries_in n b i) ≡ words n entry_size b i
unfolding entries_in packs words
packs_words zero b i = refl
packs_words (suc n) b i = ap (λ (l : List ℕ). field 4 b i ∷ l) (packs_words n b (i + entry_size))

pub length_packs : (es : List Entry) → length (packs es) ≡ length es
unfolding packs
length_packs [] = refl
length_packs (e ∷ es) = ap suc (length_packs es)

-- ---- a run seen as the list of its entries

module _ (n : ℕ) (b : List ℕ) (i : ℕ) {es : List Entry} (is : entries_in n b i ≡ es) where
  pub run_length : n ≡ length es
  run_length = sym (length_entries_in n b i) ∙ ap (λ (l : List Entry). length l) is

  pub run_entry : (k : ℕ) → k < length es → entry_in_bytes b (i + entry_size * k) ≡ get_or es k no_entry
  run_entry k p =
      let place : i + entry_size * k ≡ i + k * entry_size = omega arith in
      ap (entry_in_bytes b) place
      ∙ sym (get_d_entries_in n b i k (omega (arith, run_length)))
      ∙ ap (λ (l : List Entry). get_or l k no_entry) is

  -- its pack numbers are a column
  pub run_packs : words n entry_size b i ≡ packs es
  run_packs = sym (packs_words n b i) ∙ ap packs is

-- ---- how many of a list pass a test

module _ {A : Type 0} (test : A → Bool) (d : A) where
  -- one does
  pub one_passes : (xs : List A) (k : ℕ) → k < length xs → test (get_or xs k d) ≡ true → ltb 0 (how_many test xs) ≡ true
  unfolding how_many
  one_passes [] k p e = absurd (omega arith)
  one_passes (x ∷ xs) zero p e =
      let one : ◌≡◌ {A = ℕ} (cond (test x) 1 0) 1 = ap (λ (t : Bool). cond {A = ℕ} t 1 0) e in lt-ltb 0 _ (omega (arith, one))
  one_passes (x ∷ xs) (suc k) p e =
      let rest = ltb-true 0 (how_many test xs) (one_passes xs k (omega arith) e) in lt-ltb 0 _ (omega (arith, rest))

  -- none does
  pub none_passes : (xs : List A) → ((k : ℕ) → k < length xs → test (get_or xs k d) ≡ false) → how_many test xs ≡ 0
  unfolding how_many
  none_passes [] h = refl
  none_passes (x ∷ xs) h =
      let none : ◌≡◌ {A = ℕ} (cond (test x) 1 0) 0 = ap (λ (t : Bool). cond {A = ℕ} t 1 0) (h 0 (omega arith)) in
      omega (arith, none, none_passes xs (λ k p. h (suc k) (omega arith)))
