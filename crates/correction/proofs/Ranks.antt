-- Laws of ranks: the greatest of those that are kept, and what rank k means: at most k are below it, and more than k are not above it. One
-- number alone has that, and no order of the list enters.
-- Assumes nothing.
use Rattle.std.proofs.Common.{◌≡◌, ℕ, ◌+◌, ◌<◌, ◌≤◌, Bool, true, false, cond, not, ◌&&◌, leb, ◌⊎◌, List, [], ◌∷◌, length, ℤ, sym, refl, ap, ◌∙◌, inl, inr, ⊎_elim, true≢false, arith, le-leb, leb-true}
use mathlib.Core.Bool.{false≢true}
use mathlib.Core.List.{Memᴰ}
use mathlib.Core.List.Permᴰ
use mathlib.Core.List.{Permᴰ}
use native.Mathlib.Decide.{dec_lt}
use lib.Signed.{lt_z}
use Rattle.forms.specs.Column.{how_many}
use Rattle.forms.proofs.Columns.{Passes, passing_found, passing_counted, passing_rest, passing_more}
use Rattle.forms.proofs.Order.{many_order}
use Rattle.correction.specs.Middle.{below, least, greatest_of, ranked}
use Rattle.correction.proofs.Signs.{less_most, most_less, most_most, never_less, neither_less, less_once}

-- a test does not give both
never : {X : Type 0} (t : Bool) → t ≡ true → t ≡ false → X
never true p q = absurd (true≢false q)
never false p q = absurd (false≢true p)

-- ---- the greatest of those that are kept

module _ (kept : ℤ → Bool) where
  -- it is not less than the least that there is
  pub greatest_floor : (ds : List ℤ) → lt_z (greatest_of kept ds) least ≡ false
  unfolding greatest_of
  greatest_floor [] = refl
  greatest_floor (d ∷ ds) = go (lt_z (greatest_of kept ds) d) (kept d) refl (greatest_floor ds)
    where
      go : (s t : Bool) → lt_z (greatest_of kept ds) d ≡ s → lt_z (greatest_of kept ds) least ≡ false →
          lt_z (cond (s && t) d (greatest_of kept ds)) least ≡ false
      go true true e f = most_most least (greatest_of kept ds) d f (less_once (greatest_of kept ds) d e)
      go true false e f = f
      go false t e f = f

  -- nor than any that is kept
  greatest_most : (x : ℤ) {ds : List ℤ} → Memᴰ x ds → kept x ≡ true → lt_z (greatest_of kept ds) x ≡ false
  unfolding greatest_of
  greatest_most x (Memᴰ.head {x = d} {xs = ds} e) k = go (lt_z (greatest_of kept ds) d) (kept d) refl (ap kept (sym e) ∙ k)
    where
      go : (s t : Bool) → lt_z (greatest_of kept ds) d ≡ s → t ≡ true → lt_z (cond (s && t) d (greatest_of kept ds)) x ≡ false
      go true true p q = ap (lt_z d) e ∙ never_less d
      go true false p q = absurd (false≢true q)
      go false t p q = ap (lt_z (greatest_of kept ds)) e ∙ p
  greatest_most x (Memᴰ.tail {x = d} {xs = ds} m) k = go (lt_z (greatest_of kept ds) d) (kept d) refl (greatest_most x m k)
    where
      go : (s t : Bool) → lt_z (greatest_of kept ds) d ≡ s → lt_z (greatest_of kept ds) x ≡ false →
          lt_z (cond (s && t) d (greatest_of kept ds)) x ≡ false
      go true true p q = most_most x (greatest_of kept ds) d q (less_once (greatest_of kept ds) d p)
      go true false p q = q
      go false t p q = q

  -- it is one of these, or the least that there is
  abbrev One : List ℤ → ℤ → Type 0
  One ds r = (r ≡ least) ⊎ (Memᴰ r ds × (kept r ≡ true))

  greatest_one : (ds : List ℤ) → One ds (greatest_of kept ds)
  unfolding greatest_of
  greatest_one [] = inl refl
  greatest_one (d ∷ ds) = go (lt_z (greatest_of kept ds) d) (kept d) refl (greatest_one ds)
    where
      further : One ds (greatest_of kept ds) → One (d ∷ ds) (greatest_of kept ds)
      further = ⊎_elim (λ e. inl e) (λ m. inr (Memᴰ.tail m.0, m.1))

      go : (s t : Bool) → kept d ≡ t → One ds (greatest_of kept ds) → One (d ∷ ds) (cond (s && t) d (greatest_of kept ds))
      go true true e o = inr (Memᴰ.head refl, e)
      go true false e o = further o
      go false t e o = further o

-- ---- the same numbers in another order

mem_order : {x : ℤ} {ds es : List ℤ} → Permᴰ ds es → Memᴰ x ds → Memᴰ x es
mem_order Permᴰ.nil m = elim m [ ]
mem_order (Permᴰ.cons e p) (Memᴰ.head h) = Memᴰ.head (h ∙ e)
mem_order (Permᴰ.cons e p) (Memᴰ.tail m) = Memᴰ.tail (mem_order p m)
mem_order (Permᴰ.swap e₁ e₂) (Memᴰ.head h) = Memᴰ.tail (Memᴰ.head (h ∙ e₁))
mem_order (Permᴰ.swap e₁ e₂) (Memᴰ.tail (Memᴰ.head h)) = Memᴰ.head (h ∙ e₂)
mem_order (Permᴰ.swap e₁ e₂) (Memᴰ.tail (Memᴰ.tail m)) = Memᴰ.tail (Memᴰ.tail m)
mem_order (Permᴰ.trans p q) m = mem_order q (mem_order p m)

module _ (kept : ℤ → Bool) where
  not_less : {ds es : List ℤ} → Permᴰ ds es → lt_z (greatest_of kept es) (greatest_of kept ds) ≡ false
  not_less {ds} {es} p =
      ⊎_elim (λ e. ap (lt_z (greatest_of kept es)) e ∙ greatest_floor kept es)
      (λ m. greatest_most kept (greatest_of kept ds) (mem_order p m.0) m.1)
      (greatest_one kept ds)

  greatest_order : {ds es : List ℤ} → Permᴰ ds es → greatest_of kept ds ≡ greatest_of kept es
  greatest_order {ds} {es} p = neither_less (greatest_of kept ds) (greatest_of kept es) (not_less (Permᴰ.symm p)) (not_less p)

pub ranked_order : (k : ℕ) {ds es : List ℤ} → Permᴰ ds es → ranked k ds ≡ ranked k es
ranked_order k {ds} {es} p =
    greatest_order (λ d. leb (below d ds) k) p
    ∙ (λ i. greatest_of (λ d. leb (many_order (λ (other : ℤ). lt_z other d) p i) k) es)

-- ---- what rank k means

-- how many are not above d
abbrev pub not_above : ℤ → List ℤ → ℕ
not_above d = how_many (λ other. not (lt_z d other))

-- a lesser rank is no greater number
pub ranked_mono : (k l : ℕ) (ds : List ℤ) → k ≤ l → lt_z (ranked l ds) (ranked k ds) ≡ false
ranked_mono k l ds p =
    ⊎_elim (λ e. ap (lt_z (ranked l ds)) e ∙ greatest_floor (λ d. leb (below d ds) l) ds)
    (λ m. greatest_most (λ d. leb (below d ds) l) (ranked k ds) m.0
    (le-leb (below (ranked k ds) ds) l (omega (arith, leb-true (below (ranked k ds) ds) k m.1))))
    (greatest_one (λ d. leb (below d ds) k) ds)

-- the least of those that pass a test
record LeastOf (test : ℤ → Bool) (ds : List ℤ) : Type 0 where
  one : ℤ
  listed : Memᴰ one ds
  passes : test one ≡ true
  lowest : (x : ℤ) → Memᴰ x ds → test x ≡ true → lt_z x one ≡ false

-- a list of one number more
module _ (test : ℤ → Bool) (d : ℤ) (ds : List ℤ) where
  -- it is the first that passes
  least_first : test d ≡ true → (0 < how_many test ds → ⊥) → LeastOf test (d ∷ ds)
  least_first t none = record { one = d; listed = Memᴰ.head refl; passes = t; lowest = lowest' }
    where
      lowest' : (x : ℤ) → Memᴰ x (d ∷ ds) → test x ≡ true → lt_z x d ≡ false
      lowest' x (Memᴰ.head e) p = ap (λ (z : ℤ). lt_z z d) e ∙ never_less d
      lowest' x (Memᴰ.tail m) p = absurd (none (passing_counted test m p))

  -- it is less than the least so far
  least_new : test d ≡ true → (m : LeastOf test ds) → lt_z d m.one ≡ true → LeastOf test (d ∷ ds)
  least_new t m l = record { one = d; listed = Memᴰ.head refl; passes = t; lowest = lowest' }
    where
      lowest' : (x : ℤ) → Memᴰ x (d ∷ ds) → test x ≡ true → lt_z x d ≡ false
      lowest' x (Memᴰ.head e) p = ap (λ (z : ℤ). lt_z z d) e ∙ never_less d
      lowest' x (Memᴰ.tail h) p = less_once d x (less_most d m.one x l (m.lowest x h p))

  -- the least so far stays
  least_old : (m : LeastOf test ds) → (test d ≡ true → lt_z d m.one ≡ false) → LeastOf test (d ∷ ds)
  least_old m l = record { one = m.one; listed = Memᴰ.tail m.listed; passes = m.passes; lowest = lowest' }
    where
      lowest' : (x : ℤ) → Memᴰ x (d ∷ ds) → test x ≡ true → lt_z x m.one ≡ false
      lowest' x (Memᴰ.head e) p = ap (λ (z : ℤ). lt_z z m.one) e ∙ l (ap test (sym e) ∙ p)
      lowest' x (Memᴰ.tail h) p = m.lowest x h p

  least_more : (s : Bool) → test d ≡ s → (0 < how_many test ds → LeastOf test ds) → 0 < cond s 1 0 + how_many test ds → LeastOf test (d ∷ ds)
  least_more true e rest p = elim (dec_lt 0 (how_many test ds)) [ yes q ↦ met (rest q) (lt_z d (rest q).one) refl | no q ↦ least_first e q ]
    where
      met : (m : LeastOf test ds) (u : Bool) → lt_z d m.one ≡ u → LeastOf test (d ∷ ds)
      met m true l = least_new e m l
      met m false l = least_old m (λ h. l)
  least_more false e rest p = least_old (rest (omega arith)) (λ h. never (test d) h e)

least_of : (test : ℤ → Bool) (ds : List ℤ) → 0 < how_many test ds → LeastOf test ds
unfolding how_many
least_of test [] p = absurd (omega arith)
least_of test (d ∷ ds) p = least_more test d ds (test d) refl (least_of test ds) p

module _ (k : ℕ) (ds : List ℤ) (inside : (d : ℤ) → Memᴰ d ds → lt_z d least ≡ false) where
  abbrev r : ℤ
  r = ranked k ds

  -- at most k are below it
  pub ranked_few : below r ds ≤ k
  ranked_few = ⊎_elim (λ e. elim (dec_lt 0 (below r ds)) [ yes p ↦ lower e (passing_found _ ds p) | no q ↦ omega arith ])
      (λ m. leb-true (below r ds) k m.1)
      (greatest_one (λ d. leb (below d ds) k) ds)
    where
      lower : r ≡ least → Passes (λ other. lt_z other r) ds → below r ds ≤ k
      lower e x = never (lt_z x.0 r) x.2 (ap (lt_z x.0) e ∙ inside x.0 x.1)

  -- the least that is above it would have no more than those below
  next_below : (m : LeastOf (lt_z r) ds) → below m.one ds ≤ not_above r ds
  next_below m = passing_more (λ other. lt_z other m.one) (λ other. not (lt_z r other)) ds (λ x h p. go x h p (lt_z r x) refl)
    where
      go : (x : ℤ) → Memᴰ x ds → lt_z x m.one ≡ true → (t : Bool) → lt_z r x ≡ t → not (lt_z r x) ≡ true
      go x h p true e = never (lt_z x m.one) p (m.lowest x h e)
      go x h p false e = rw e

  -- so more than k are not above it
  pub ranked_enough : k < length ds → k < not_above r ds
  ranked_enough p =
      elim (dec_lt k (not_above r ds)) [ yes q ↦ q | no q ↦ above q (least_of (lt_z r) ds (omega (arith, passing_rest (lt_z r) ds))) ]
    where
      above : (k < not_above r ds → ⊥) → LeastOf (lt_z r) ds → k < not_above r ds
      above q m =
          never (lt_z r m.one) m.passes
          (greatest_most (λ d. leb (below d ds) k) m.one m.listed (le-leb (below m.one ds) k (omega (arith, next_below m))))

-- and no other number has that
ahead : (k : ℕ) (ds : List ℤ) (r s : ℤ) → k < not_above r ds → below s ds ≤ k → lt_z r s ≡ false
ahead k ds r s more few = go (lt_z r s) refl
  where
    under : lt_z r s ≡ true → (x : ℤ) → (t : Bool) → lt_z r x ≡ t → not t ≡ true → lt_z x s ≡ true
    under l x true e q = absurd (false≢true q)
    under l x false e q = most_less x r s e l

    go : (t : Bool) → lt_z r s ≡ t → lt_z r s ≡ false
    go true l =
        absurd
        (omega (
          arith,
          more,
          few,
          passing_more (λ other. not (lt_z r other)) (λ other. lt_z other s) ds (λ x m p. under l x (lt_z r x) refl p),
        ))
    go false l = l

pub rank_single : (k : ℕ) (ds : List ℤ) (r s : ℤ) →
    below r ds ≤ k → k < not_above r ds → below s ds ≤ k → k < not_above s ds → r ≡ s
rank_single k ds r s few more few' more' = neither_less r s (ahead k ds r s more few') (ahead k ds s r more' few)
