-- Laws of a column of words, over the stride: the way down it line by line, what a store of words leaves, and that words stored
-- read back.
-- Assumes nothing.
use mathlib.Core.Path.{◌≡◌, refl, sym, ap, ap₂, ◌∙◌}
use Prim.Native.Nat.{ℕ, zero, suc, ◌+◌, ◌-◌, ◌*◌, ◌^◌, ◌≤◌, ◌<◌}
use native.Mathlib.Nat.{suc-mul, add_assoc}
use native.Mathlib.Omega.{arith}
use mathlib.Core.List.{List, [], ◌∷◌}
use lib.ListN.{length, get_or, take, drop}
use Rattle.fields.specs.Field.{field, put_field, words, put_words, Bytes}
use Rattle.fields.proofs.Fields.{field_same, field_lt, field_put, put_field_lem, length_put, get_d_put_other, take_put, drop_put}

-- every element is a number of 4 bytes
abbrev pub Words : List ℕ → Type 0
Words vs = (k : ℕ) → get_or vs k 0 < 2 ^ 32

pub length_words : (n s : ℕ) (b : List ℕ) (i : ℕ) → length (words n s b i) ≡ n
unfolding words
length_words zero s b i = refl
length_words (suc n) s b i = ap suc (length_words n s b (i + s))

pub words_words : (n s : ℕ) (b : List ℕ) (i : ℕ) → Bytes b → Words (words n s b i)
unfolding words
words_words zero s b i h k = omega arith
words_words (suc n) s b i h zero = field_lt 4 b i h
words_words (suc n) s b i h (suc k) = words_words n s b (i + s) h k

-- a column of which a line is left is that line, and then the column one line shorter
pub size_step : (n s : ℕ) → 0 < n → n * s ≡ (n - 1) * s + s
size_step zero s p = omega arith
size_step (suc n) s p = suc-mul n s ∙ ap (λ (m : ℕ). m * s + s) (omega arith)

pub words_step : (n s : ℕ) (b : List ℕ) (i : ℕ) → 0 < n → words n s b i ≡ field 4 b i ∷ words (n - 1) s b (i + s)
unfolding words
words_step zero s b i p = absurd (omega arith)
words_step (suc n) s b i p = let e : n ≡ suc n - 1 = omega arith in ap (λ (m : ℕ). field 4 b i ∷ words m s b (i + s)) e

pub words_end : (n s : ℕ) (b : List ℕ) (i : ℕ) → n ≤ 0 → words n s b i ≡ []
unfolding words
words_end zero s b i p = refl
words_end (suc n) s b i p = absurd (omega arith)

-- the word on line k
pub get_d_words : (n s : ℕ) (b : List ℕ) (i k : ℕ) → k < n → get_or (words n s b i) k 0 ≡ field 4 b (i + k * s)
unfolding words
get_d_words zero s b i k p = absurd (omega arith)
get_d_words (suc n) s b i zero p = let e : i ≡ i + 0 * s = omega arith in ap (field 4 b) e
get_d_words (suc n) s b i (suc k) p =
    let e : i + s + k * s ≡ i + suc k * s = omega (arith, suc-mul k s) in
    get_d_words n s b (i + s) k (omega arith) ∙ ap (field 4 b) e

-- columns whose bytes are the same are the same
pub words_same : (n s : ℕ) (b c : List ℕ) (i j : ℕ) → 4 ≤ s → ((k : ℕ) → k < n * s → get_or b (i + k) 0 ≡ get_or c (j + k) 0) →
    words n s b i ≡ words n s c j
unfolding words
words_same zero s b c i j p h = refl
words_same (suc n) s b c i j p h =
    ap₂ (λ (x : ℕ) (l : List ℕ). x ∷ l) (field_same 4 b c i j (λ k q. h k (omega (arith, suc-mul n s))))
    (words_same n s b c (i + s) (j + s) p
    (λ k q.
    ap (λ (m : ℕ). get_or b m 0) (add_assoc i s k)
    ∙ h (s + k) (omega (arith, suc-mul n s))
    ∙ ap (λ (m : ℕ). get_or c m 0) (sym (add_assoc j s k))))

-- ---- what a store of words leaves

pub length_put_words : (s : ℕ) (b : List ℕ) (i : ℕ) (vs : List ℕ) → length (put_words s b i vs) ≡ length b
unfolding put_words
length_put_words s b i [] = refl
length_put_words s b i (v ∷ vs) = length_put_words s (put_field 4 b i v) (i + s) vs ∙ length_put 4 b i v

-- a byte in front of the column
get_d_put_words_before : (s : ℕ) (b : List ℕ) (i : ℕ) (vs : List ℕ) (j : ℕ) → j < i → get_or (put_words s b i vs) j 0 ≡ get_or b j 0
unfolding put_words
get_d_put_words_before s b i [] j p = refl
get_d_put_words_before s b i (v ∷ vs) j p =
    get_d_put_words_before s (put_field 4 b i v) (i + s) vs j (omega arith) ∙ get_d_put_other 4 b i v j (λ k q e. omega arith)

-- bytes behind the column stay
pub drop_put_words : (s : ℕ) (b : List ℕ) (i : ℕ) (vs : List ℕ) (n : ℕ) → 4 ≤ s → i + length vs * s ≤ n →
    drop n (put_words s b i vs) ≡ drop n b
unfolding put_words
drop_put_words s b i [] n p q = refl
drop_put_words s b i (v ∷ vs) n p q =
    drop_put_words s (put_field 4 b i v) (i + s) vs n p (omega (arith, suc-mul (length vs) s))
    ∙ drop_put 4 b i v n (omega (arith, suc-mul (length vs) s))

-- words one behind the other, stored right behind bytes that two lists share, give them more such bytes
pub take_put_words : (b c : List ℕ) (i : ℕ) (vs : List ℕ) (n : ℕ) →
    i + length vs * 4 ≡ n → n ≤ length b → n ≤ length c → take i b ≡ take i c → take n (put_words 4 b i vs) ≡ take n (put_words 4 c i vs)
unfolding put_words
take_put_words b c i [] n s p q e = let same : i ≡ n = omega arith in rw same at e
take_put_words b c i (v ∷ vs) n s p q e =
    take_put_words (put_field 4 b i v) (put_field 4 c i v) (i + 4) vs n
    (omega arith) (omega (arith, length_put 4 b i v)) (omega (arith, length_put 4 c i v))
    (take_put 4 b c i v (omega arith) (omega arith) e)

pub field_put_words_before : (w s : ℕ) (b : List ℕ) (i : ℕ) (vs : List ℕ) (j : ℕ) → j + w ≤ i → field w (put_words s b i vs) j ≡ field w b j
field_put_words_before w s b i vs j p = field_same w (put_words s b i vs) b j j (λ k q. get_d_put_words_before s b i vs (j + k) (omega arith))

-- words that fit read back
pub words_put_words : (s : ℕ) (b : List ℕ) (i : ℕ) (vs : List ℕ) → 4 ≤ s → i + length vs * s ≤ length b → Words vs →
    words (length vs) s (put_words s b i vs) i ≡ vs
unfolding words put_words
words_put_words s b i [] p q h = refl
words_put_words s b i (v ∷ vs) p q h =
    ap₂ (λ (x : ℕ) (l : List ℕ). x ∷ l)
    (field_put_words_before 4 s (put_field 4 b i v) (i + s) vs i (omega arith)
    ∙ field_put 4 b i v (omega (arith, suc-mul (length vs) s)) (h zero))
    (words_put_words s (put_field 4 b i v) (i + s) vs p (omega (arith, suc-mul (length vs) s, length_put 4 b i v)) (λ k. h (suc k)))

-- words stored where they stood change nothing
pub put_words_words : (n s : ℕ) (b : List ℕ) (i : ℕ) → Bytes b → put_words s b i (words n s b i) ≡ b
unfolding words put_words
put_words_words zero s b i h = refl
put_words_words (suc n) s b i h =
    ap (λ (l : List ℕ). put_words s l (i + s) (words n s b (i + s))) (put_field_lem 4 b i h) ∙ put_words_words n s b (i + s) h
