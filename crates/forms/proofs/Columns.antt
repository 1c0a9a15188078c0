-- Laws of counts: what a count of those that pass a test means; of a column of words its counts and its pairs line by line, the buckets
-- by which pairs are looked for, and a column that ascends, of which no number stands twice.
-- Assumes nothing.
use mathlib.Core.Path.{◌≡◌, refl, sym, ap, subst, ◌∙◌}
use mathlib.Core.List.{List, [], ◌∷◌, ◌++◌, Memᴰ}
use mathlib.Core.Bool.{Bool, true, false, not, cond, ◌&&◌, and-eq-true_iff}
use Prim.Native.Nat.{ℕ, zero, suc, ◌+◌, ◌-◌, ◌*◌, ◌≤◌, ◌<◌}
use native.Mathlib.Nat.{suc-mul, mul-le-mul_right}
use native.Mathlib.Numerals.{add-one}
use native.Mathlib.Omega.{arith}
use lib.Dec.{ltb, eqb}
use lib.ListN.{length, get_or, set, take}
use lib.Seq.{get_or-set_same, get_or-set_other, length-take-le}
use borrow.Author.Tests.{lt-ltb, le-ltb, ltb-true, eqb-true, eqb-false, eq-eqb, ne_eqb}
use Rattle.fields.specs.Field.{field, words}
use Rattle.forms.specs.Column.{how_many, count, twins, ascends}
use Rattle.forms.specs.Tally.{buckets, bucket_of}
use Rattle.std.specs.List.{range_with_len, AllWithin, HoldsAt}
use Rattle.std.proofs.lemmas.List.{take_more}
use Rattle.std.proofs.lemmas.List.FromFn.{length-range_with_len, get_or-range_with_len}
use mathlib.Core.Logic.{◌≢◌}
use Rattle.fields.proofs.Words.{length_words}

-- ---- how many pass a test

module _ {A : Type 0} (test : A → Bool) where
  -- one of the list that passes
  abbrev pub Passes : List A → Type 0
  Passes l = (x : A) × Memᴰ x l × (test x ≡ true)

  -- it is counted
  pub passing_counted : {x : A} {l : List A} → Memᴰ x l → test x ≡ true → 0 < how_many test l
  unfolding how_many
  passing_counted (Memᴰ.head e) t = rw (ap test (sym e) ∙ t) (omega arith)
  passing_counted (Memᴰ.tail m) t = omega (arith, passing_counted m t)

  -- and where one is counted, one passes
  pub passing_found : (l : List A) → 0 < how_many test l → Passes l
  unfolding how_many
  passing_found [] p = absurd (omega arith)
  passing_found (x ∷ l) p = go (test x) refl (passing_found l) p
    where
      go : (t : Bool) → test x ≡ t → (0 < how_many test l → Passes l) → 0 < cond t 1 0 + how_many test l → Passes (x ∷ l)
      go true h below q = (x, Memᴰ.head refl, h)
      go false h below q = let y = below (omega arith) in (y.0, Memᴰ.tail y.1, y.2)

  -- with those that fail it is all
  pub passing_rest : (l : List A) → how_many test l + how_many (λ x. not (test x)) l ≡ length l
  unfolding how_many
  passing_rest [] = refl
  passing_rest (x ∷ l) = omega (arith, here (test x), passing_rest l)
    where
      here : (t : Bool) → cond t 1 0 + cond (not t) 1 0 ≡ 1
      here true = refl
      here false = refl

  -- and a test that those pass too passes no fewer
  pub passing_more : (other : A → Bool) (l : List A) →
      ((x : A) → Memᴰ x l → test x ≡ true → other x ≡ true) → how_many test l ≤ how_many other l
  unfolding how_many
  passing_more other [] both = omega arith
  passing_more other (x ∷ l) both =
      omega (
        arith,
        here (test x) (other x) (both x (Memᴰ.head refl)),
        passing_more other l (λ y m. both y (Memᴰ.tail m)),
      )
    where
      here : (s t : Bool) → (s ≡ true → t ≡ true) → cond s 1 0 ≤ cond t 1 0
      here true t h = rw (h refl) (omega arith)
      here false t h = omega arith

-- ---- a walk over lines

-- what holds of the line at place k of those from a on
pub line_at : (P : ℕ → Type 0) (a n k line : ℕ) → k < n → line ≡ a + k → HoldsAt P (range_with_len a n) k → P line
line_at P a n k line p e h = subst P (get_or-range_with_len a n k 0 p ∙ sym e) (h 0)

-- and of each
pub each_line : (P : ℕ → Type 0) (a n : ℕ) → AllWithin P (range_with_len a n) 0 (length (range_with_len a n)) →
    (line : ℕ) → a ≤ line → line < a + n → P line
each_line P a n h line p q =
    line_at P a n (line - a) line (omega arith) (omega arith)
    (λ d. h (line - a) d (omega arith) (omega (arith, length-range_with_len a n)))

-- ---- the lines of a column in bytes

module _ (n s : ℕ) (b : List ℕ) (i : ℕ) (inside : i + n * s ≤ length b) where
  -- the lines in front of one lie where all do
  pub lines_inside : (k : ℕ) → k ≤ length (words n s b i) → i + k * s ≤ length b
  lines_inside k p =
      let q : k ≤ n = omega (arith, length_words n s b i) in
      omega (arith, mul-le-mul_right {m = k} {n = n} s q)

  -- and so does each line
  pub line_inside : (k : ℕ) → k < length (words n s b i) → 4 ≤ s → i + k * s + 4 ≤ length b
  line_inside k p w =
      let q : suc k ≤ n = omega (arith, length_words n s b i) in
      omega (arith, suc-mul k s, mul-le-mul_right {m = suc k} {n = n} s q)

pub take_words : (n s : ℕ) (b : List ℕ) (i k : ℕ) → k ≤ n → take k (words n s b i) ≡ words k s b i
unfolding words
take_words n s b i zero p = refl
take_words zero s b i (suc k) p = absurd (omega arith)
take_words (suc n) s b i (suc k) p = ap (λ (l : List ℕ). field 4 b i ∷ l) (take_words n s b (i + s) k (omega arith))

-- ---- counts

at_most_one : (t : Bool) → cond t 1 0 ≤ 1
at_most_one true = omega arith
at_most_one false = omega arith

-- no number stands more often than there are lines
pub count_le : (x : ℕ) (l : List ℕ) → count x l ≤ length l
unfolding count
count_le x [] = omega arith
count_le x (y ∷ l) = omega (arith, at_most_one (eqb y x), count_le x l)

-- the number on a line stands in the list
pub count_at : (l : List ℕ) (k : ℕ) → k < length l → 0 < count (get_or l k 0) l
unfolding count
count_at [] k p = absurd (omega arith)
count_at (x ∷ l) zero p = rw (eq-eqb x x refl) (omega arith)
count_at (x ∷ l) (suc k) p = omega (arith, count_at l k (omega arith))

-- a number that is on no line
pub count_none : (x : ℕ) (l : List ℕ) → ((k : ℕ) → k < length l → get_or l k 0 ≢ x) → count x l ≡ 0
unfolding count
count_none x [] h = refl
count_none x (y ∷ l) h =
    omega (arith, ap (λ (t : Bool). cond {A = ℕ} t 1 0) (ne_eqb y x (h 0 (omega arith))), count_none x l (λ k p. h (suc k) (omega arith)))

count_push : (x y : ℕ) (l : List ℕ) → count x (l ++ y ∷ []) ≡ count x l + cond (eqb y x) 1 0
unfolding count
count_push x y [] = omega arith
count_push x y (z ∷ l) = omega (arith, count_push x y l)

-- ---- twins

eqb_turned : (x y : ℕ) → eqb x y ≡ eqb y x
eqb_turned x y = go (eqb x y) refl
  where
    go : (t : Bool) → eqb x y ≡ t → eqb x y ≡ eqb y x
    go true e = rw (e, eq-eqb y x (sym (eqb-true x y e)))
    go false e = rw (e, ne_eqb y x (λ d. eqb-false x y e (sym d)))

twins_push : (y : ℕ) (l : List ℕ) → twins (l ++ y ∷ []) ≡ twins l + count y l
unfolding twins count
twins_push y [] = refl
twins_push y (z ∷ l) = omega (arith, count_push z y l, twins_push y l, ap (λ (t : Bool). cond {A = ℕ} t 1 0) (eqb_turned y z))

-- with no more than m lines
pub twins_le : (m : ℕ) (l : List ℕ) → length l ≤ m → twins l ≤ length l * m
unfolding twins
twins_le m [] p = omega arith
twins_le m (x ∷ l) p = omega (arith, suc-mul (length l) m, count_le x l, twins_le m l (omega arith))

-- ---- buckets met: a number whose bucket is not marked is not among those met

abbrev pub Met : List ℕ → List ℕ → Type 0
Met marks l = (x : ℕ) → get_or marks (bucket_of x) 0 ≡ 0 → count x l ≡ 0

pub met_none : (marks : List ℕ) → Met marks []
unfolding count
met_none marks x e = refl

bucket_lt : (x : ℕ) → bucket_of x < buckets
unfolding bucket_of
bucket_lt x = omega arith

-- one more is met, and its bucket marked
met_push : (marks l : List ℕ) (x : ℕ) → length marks ≡ buckets → Met marks l → Met (set marks (bucket_of x) 1) (l ++ x ∷ [])
met_push marks l x size h y e =
    rw (count_push y x l, ne_eqb x y (λ p. apart (ap bucket_of p))) (omega (arith, h y (sym (other apart) ∙ e)))
  where
    -- y is in another bucket, since its own is not marked
    apart : bucket_of x ≡ bucket_of y → ⊥
    apart p =
        let here = get_or-set_same marks (bucket_of x) 1 0 (omega (arith, bucket_lt x)) in
        let there = ap (λ (k : ℕ). get_or (set marks (bucket_of x) 1) k 0) p in
        omega (arith, here, there, e)

    other : (bucket_of x ≡ bucket_of y → ⊥) → get_or (set marks (bucket_of x) 1) (bucket_of y) 0 ≡ get_or marks (bucket_of y) 0
    other n = get_or-set_other marks (bucket_of x) (bucket_of y) 1 0 (λ p. n (sym p))

-- ---- one line further down: the counts of the lines passed, their twins, and the buckets met
module _ (l : List ℕ) (k : ℕ) (p : k < length l) where
  here : ℕ
  here = get_or l k 0

  further : take (k + 1) l ≡ take k l ++ here ∷ []
  unfolding here
  further = take_more l k 0 p

  -- so many lines are few
  pub passed_le : (x m : ℕ) → length l ≤ m → (count x (take k l) ≤ k) × (twins (take k l) ≤ k * m)
  passed_le x m q =
      let size : length (take k l) ≡ k = length-take-le k l (omega arith) in
      (omega (arith, count_le x (take k l)), rw size at (twins_le m (take k l) (omega arith)))

  pub count_more : (x : ℕ) → count x (take (k + 1) l) ≡ count x (take k l) + cond (eqb (get_or l k 0) x) 1 0
  unfolding here
  count_more x = ap (count x) further ∙ count_push x (get_or l k 0) (take k l)

  pub twins_more : twins (take (k + 1) l) ≡ twins (take k l) + count (get_or l k 0) (take k l)
  unfolding here
  twins_more = ap twins further ∙ twins_push (get_or l k 0) (take k l)

  pub met_more : (marks : List ℕ) → length marks ≡ buckets → Met marks (take k l) →
      Met (set marks (bucket_of (get_or l k 0)) 1) (take (k + 1) l)
  unfolding here
  met_more marks size h =
      subst (Met (set marks (bucket_of (get_or l k 0)) 1)) (sym further) (met_push marks (take k l) (get_or l k 0) size h)

-- ---- numbers that stand once

-- where no number stands twice, each counts at most once
pub count_once : (x : ℕ) (l : List ℕ) → twins l ≡ 0 → count x l ≤ 1
unfolding count twins
count_once x [] e = omega arith
count_once x (y ∷ l) e = go (eqb y x) refl (count_once x l (omega arith))
  where
    go : (t : Bool) → eqb y x ≡ t → count x l ≤ 1 → cond t 1 0 + count x l ≤ 1
    go true q below = omega (arith, ap (λ (z : ℕ). count z l) (eqb-true y x q))
    go false q below = omega arith

-- all that stands in a column of one line is one number
pub count_alone : (x y : ℕ) (l : List ℕ) → length l ≤ 1 → (count x l ≡ 0 → ⊥) → (count y l ≡ 0 → ⊥) → x ≡ y
unfolding count
count_alone x y [] p q r = absurd (q refl)
count_alone x y (z ∷ []) p q r = go (eqb z x) refl (eqb z y) refl q r
  where
    go : (a : Bool) → eqb z x ≡ a → (b : Bool) → eqb z y ≡ b → (cond a 1 0 + 0 ≡ 0 → ⊥) → (cond b 1 0 + 0 ≡ 0 → ⊥) → x ≡ y
    go true e true f q r = sym (eqb-true z x e) ∙ eqb-true z y f
    go true e false f q r = absurd (r refl)
    go false e b f q r = absurd (q refl)
count_alone x y (z ∷ u ∷ l) p q r = absurd (omega arith)

-- ---- a column that ascends

-- the lines in front of line k ascend
abbrev pub AscendsTo : List ℕ → ℕ → Type 0
AscendsTo l k = (j : ℕ) → j + 1 < k → get_or l j 0 < get_or l (j + 1) 0

pub ascends_all : (l : List ℕ) → AscendsTo l (length l) → ascends l ≡ true
unfolding ascends
ascends_all [] h = refl
ascends_all (x ∷ []) h = refl
ascends_all (x ∷ y ∷ l) h =
    rw (lt-ltb x y (h 0 (omega arith)))
    (ascends_all (y ∷ l) (λ j p. rw (add-one j) (rw (add-one (suc j)) at (h (suc j) (omega arith)))))

-- one line that is not above the one before it
pub ascends_not : (l : List ℕ) (j : ℕ) → j + 1 < length l → get_or l (j + 1) 0 ≤ get_or l j 0 → ascends l ≡ false
unfolding ascends
ascends_not [] j p q = absurd (omega arith)
ascends_not (x ∷ []) j p q = absurd (omega arith)
ascends_not (x ∷ y ∷ l) zero p q = rw (le-ltb x y q)
ascends_not (x ∷ y ∷ l) (suc j) p q =
    rw (ascends_not (y ∷ l) j (omega arith) (rw (add-one j) (rw (add-one (suc j)) at q))) (and-false (ltb x y))
  where
    and-false : (t : Bool) → (t && false) ≡ false
    and-false true = refl
    and-false false = refl

-- what is below the first number of such a list stands nowhere in it
above_none : (x y : ℕ) (ys : List ℕ) → x < y → ascends (y ∷ ys) ≡ true → count x (y ∷ ys) ≡ 0
unfolding count ascends
above_none x y [] up e = rw (ne_eqb y x (λ d. omega arith))
above_none x y (z ∷ zs) up e =
    let h = (and-eq-true_iff (ltb y z) (ascends (z ∷ zs))).0 e in
    rw (ne_eqb y x (λ d. omega arith)) (omega (arith, above_none x z zs (omega (arith, ltb-true y z h.0)) h.1))

-- so no number stands twice
pub ascends_once : (l : List ℕ) → ascends l ≡ true → twins l ≡ 0
unfolding ascends twins count
ascends_once [] e = refl
ascends_once (x ∷ []) e = refl
ascends_once (x ∷ y ∷ ys) e =
    let h = (and-eq-true_iff (ltb x y) (ascends (y ∷ ys))).0 e in
    omega (arith, above_none x y ys (ltb-true x y h.0) h.1, ascends_once (y ∷ ys) h.1)
