-- Laws of big-endian fields, over the width: what a field is made of, what a store leaves, and that a number stored reads
-- back. Callers cite these and never look into `field` or `put_field`.
-- Assumes nothing.
use mathlib.Core.Path.{◌≡◌, refl, sym, ap, ap₂, ◌∙◌, subst}
use mathlib.Core.Logic.{◌↔◌}
use Prim.Native.Nat.{ℕ, zero, suc, ◌+◌, ◌*◌, ◌/◌, ◌%◌, ◌^◌, ◌≤◌, ◌<◌}
use native.Mathlib.Nat.{add-zero, add-suc, add_assoc, mul_assoc, pow-suc, pow-succ', one-le-pow, pow-le-pow_right, lt_of_lt_of_le}
use native.Mathlib.Nat.{div-one, div-div-eq-div-mul, div-lt_iff_lt-mul}
use native.Mathlib.Decide.{dec_le, ℕ_discrete}
use native.Mathlib.Omega.{arith}
use mathlib.Core.List.{List, [], ◌∷◌, ◌++◌}
use lib.ListN.{length, get_or, set, take, drop, length-set}
use lib.Seq.{get_or-set_same, get_or-set_other, set-get_or, set_out, get_or-take, take-suc-set, drop-set-lt}
use lib.Dec.{lit<}
use lib.Arith.{digits_lt, mod-mul}
use Rattle.fields.specs.Field.{field, put_field, Bytes}

-- ---- what a field is made of

-- a field whose bytes stand elsewhere in another list is the same number
pub field_same : (w : ℕ) (b c : List ℕ) (i j : ℕ) → ((k : ℕ) → k < w → get_or b (i + k) 0 ≡ get_or c (j + k) 0) → field w b i ≡ field w c j
unfolding field
field_same zero b c i j h = refl
field_same (suc w) b c i j h =
    ap₂ (λ (x y : ℕ). x * 256 + y) (field_same w b c i j (λ k p. h k (omega arith))) (h w (omega arith))

pub field_lt : (w : ℕ) (b : List ℕ) (i : ℕ) → Bytes b → field w b i < 256 ^ w
unfolding field
field_lt zero b i h = lit< tt
field_lt (suc w) b i h =
    subst (λ (m : ℕ). field w b i * 256 + get_or b (i + w) 0 < m) (sym (pow-suc 256 w)) (digits_lt (field_lt w b i h) (h (i + w)))

-- a field of eight bytes at most fits 64 bits
pub field_fits : (w : ℕ) (b : List ℕ) (i : ℕ) → w ≤ 8 → Bytes b → field w b i < 2 ^ 64
field_fits w b i p h = lt_of_lt_of_le (field_lt w b i h) (pow-le-pow_right {n = 256} (lit< tt) p)

-- a field of one byte more
pub field_step : (w : ℕ) (b : List ℕ) (i : ℕ) → field (w + 1) b i ≡ field w b i * 256 + get_or b (i + w) 0
unfolding field
field_step w b i = let e : w + 1 ≡ suc w = omega arith in ap (λ (n : ℕ). field n b i) e

-- a field of u + w bytes is the first u, and then the other w
pub field_join : (u w : ℕ) (b : List ℕ) (i : ℕ) → field (u + w) b i ≡ field u b i * 256 ^ w + field w b (i + u)
unfolding field
field_join u zero b i = rw (add-zero u) (omega arith)
field_join u (suc w) b i = ap (λ (n : ℕ). field n b i) (add-suc u w) ∙ step (field_join u w b i)
  where
    step : field (u + w) b i ≡ field u b i * 256 ^ w + field w b (i + u) →
        field (u + w) b i * 256 + get_or b (i + (u + w)) 0 ≡ field u b i * 256 ^ suc w + (field w b (i + u) * 256 + get_or b (i + u + w) 0)
    step e =
        omega (
          arith,
          ap (λ (n : ℕ). field u b i * n) (pow-suc 256 w),
          mul_assoc (field u b i) (256 ^ w) 256,
          ap (λ (n : ℕ). get_or b n 0) (add_assoc i u w),
        )

-- a byte is a field of one
pub field_byte : (b : List ℕ) (i : ℕ) → field 1 b i ≡ get_or b i 0
unfolding field
field_byte b i = rw add-zero (omega arith)

-- a field in the front of a list
pub field_take : (w n : ℕ) (b : List ℕ) (i : ℕ) → i + w ≤ n → field w (take n b) i ≡ field w b i
field_take w n b i p = field_same w (take n b) b i i (λ k q. get_or-take n b (i + k) 0 (omega arith))

-- a number is 0 exactly where each of its bytes is
pub field_zero : (w : ℕ) (b : List ℕ) (i : ℕ) → (field w b i ≡ 0) ↔ ((k : ℕ) → k < w → get_or b (i + k) 0 ≡ 0)
unfolding field
field_zero zero b i = (λ e k p. absurd (omega arith), λ h. refl)
field_zero (suc w) b i = (
  λ e k p. elim (ℕ_discrete k w) [
    | yes f ↦ ap (λ (n : ℕ). get_or b (i + n) 0) f ∙ omega arith
    | no n ↦ (field_zero w b i).0 (omega arith) k (omega arith)
  ],
  λ h. omega (arith, (field_zero w b i).1 (λ k p. h k (omega arith)), h w (omega arith)),
)

-- ---- what a store leaves

-- a store of one byte more
pub put_step : (w : ℕ) (b : List ℕ) (i v : ℕ) → put_field (w + 1) b i v ≡ set (put_field w b i (v / 256)) (i + w) (v % 256)
unfolding put_field
put_step w b i v = let e : w + 1 ≡ suc w = omega arith in ap (λ (n : ℕ). put_field n b i v) e

-- a store of one byte
pub put_byte : (b : List ℕ) (i v : ℕ) → v < 256 → put_field 1 b i v ≡ set b i v
unfolding put_field
put_byte b i v p = let low : v % 256 ≡ v = omega arith in rw (add-zero, low)

-- bytes behind a store stay
pub drop_put : (w : ℕ) (b : List ℕ) (i v n : ℕ) → i + w ≤ n → drop n (put_field w b i v) ≡ drop n b
unfolding put_field
drop_put zero b i v n p = refl
drop_put (suc w) b i v n p =
    drop-set-lt n (put_field w b i (v / 256)) (i + w) (v % 256) (omega arith) ∙ drop_put w b i (v / 256) n (omega arith)

pub length_put : (w : ℕ) (b : List ℕ) (i v : ℕ) → length (put_field w b i v) ≡ length b
unfolding put_field
length_put zero b i v = refl
length_put (suc w) b i v = length-set (put_field w b i (v / 256)) (i + w) (v % 256) ∙ length_put w b i (v / 256)

pub get_d_put_other : (w : ℕ) (b : List ℕ) (i v j : ℕ) → ((k : ℕ) → k < w → j ≡ i + k → ⊥) → get_or (put_field w b i v) j 0 ≡ get_or b j 0
unfolding put_field
get_d_put_other zero b i v j h = refl
get_d_put_other (suc w) b i v j h =
    get_or-set_other (put_field w b i (v / 256)) (i + w) j (v % 256) 0 (h w (omega arith))
    ∙ get_d_put_other w b i (v / 256) j (λ k p. h k (omega arith))

-- a field that a store does not touch
pub field_put_other : (u w : ℕ) (b : List ℕ) (i v j : ℕ) → ((k l : ℕ) → k < u → l < w → j + k ≡ i + l → ⊥) →
    field u (put_field w b i v) j ≡ field u b j
field_put_other u w b i v j h = field_same u (put_field w b i v) b j j (λ k p. get_d_put_other w b i v (j + k) (λ l q. h k l p q))

-- a number that fits reads back
pub field_put : (w : ℕ) (b : List ℕ) (i v : ℕ) → i + w ≤ length b → v < 256 ^ w → field w (put_field w b i v) i ≡ v
unfolding field put_field
field_put zero b i v p q = omega arith
field_put (suc w) b i v p q =
    ap₂ (λ (x y : ℕ). x * 256 + y)
    (first ∙ field_put w b i (v / 256) (omega arith) ((div-lt_iff_lt-mul (lit< tt)).1 (rw pow-suc at q))) last
    ∙ omega arith
  where
    first : field w (set (put_field w b i (v / 256)) (i + w) (v % 256)) i ≡ field w (put_field w b i (v / 256)) i
    first =
        field_same w (set (put_field w b i (v / 256)) (i + w) (v % 256)) (put_field w b i (v / 256)) i i
        (λ k r. get_or-set_other (put_field w b i (v / 256)) (i + w) (i + k) (v % 256) 0 (omega arith))

    last : get_or (set (put_field w b i (v / 256)) (i + w) (v % 256)) (i + w) 0 ≡ v % 256
    last = get_or-set_same (put_field w b i (v / 256)) (i + w) (v % 256) 0 (rw (length_put w b i (v / 256)) (omega arith))

-- a field stored where it stood changes nothing
pub put_field_lem : (w : ℕ) (b : List ℕ) (i : ℕ) → Bytes b → put_field w b i (field w b i) ≡ b
unfolding field put_field
put_field_lem zero b i h = refl
put_field_lem (suc w) b i h =
    ap₂ (λ (x y : ℕ). set (put_field w b i x) (i + w) y) high low
    ∙ ap (λ (l : List ℕ). set l (i + w) (get_or b (i + w) 0)) (put_field_lem w b i h)
    ∙ set-get_or b (i + w) 0
  where
    high : (field w b i * 256 + get_or b (i + w) 0) / 256 ≡ field w b i
    high = omega (arith, h (i + w))

    low : (field w b i * 256 + get_or b (i + w) 0) % 256 ≡ get_or b (i + w) 0
    low = omega (arith, h (i + w))

-- a store right behind bytes that two lists share gives them more such bytes
pub take_put : (w : ℕ) (b c : List ℕ) (i v : ℕ) → i + w ≤ length b → i + w ≤ length c → take i b ≡ take i c →
    take (i + w) (put_field w b i v) ≡ take (i + w) (put_field w c i v)
unfolding put_field
take_put zero b c i v p q e = rw add-zero e
take_put (suc w) b c i v p q e =
    rw add-suc
    (take-suc-set (put_field w b i (v / 256)) (i + w) (v % 256) (omega (arith, length_put w b i (v / 256)))
    ∙ ap (λ (l : List ℕ). l ++ (v % 256 ∷ [])) (take_put w b c i (v / 256) (omega arith) (omega arith) e)
    ∙ sym (take-suc-set (put_field w c i (v / 256)) (i + w) (v % 256) (omega (arith, length_put w c i (v / 256)))))

-- so does a store of what one of them holds there, and that one is as it was
pub take_put_field : (w : ℕ) (b c : List ℕ) (i : ℕ) → Bytes c → i + w ≤ length b → i + w ≤ length c → take i b ≡ take i c →
    take (i + w) (put_field w b i (field w c i)) ≡ take (i + w) c
take_put_field w b c i h p q e = take_put w b c i (field w c i) p q e ∙ ap (take (i + w)) (put_field_lem w c i h)

-- only the low 8 w bits of a number are stored
pub put_mod : (w : ℕ) (b : List ℕ) (i v : ℕ) → put_field w b i (v % 256 ^ w) ≡ put_field w b i v
unfolding put_field
put_mod zero b i v = refl
put_mod (suc w) b i v =
    ap₂ (λ (x y : ℕ). set (put_field w b i x) (i + w) y) high low ∙ ap (λ (l : List ℕ). set l (i + w) (v % 256)) (put_mod w b i (v / 256))
  where
    whole : v % 256 ^ suc w ≡ (v / 256 % 256 ^ w) * 256 + v % 256
    whole = ap (λ (m : ℕ). v % m) (pow-suc 256 w) ∙ mod-mul v (one-le-pow w 256 (lit< tt)) (lit< tt)

    high : v % 256 ^ suc w / 256 ≡ v / 256 % 256 ^ w
    high = omega (arith, whole)

    low : v % 256 ^ suc w % 256 ≡ v % 256
    low = omega (arith, whole)

-- to store u + w bytes is to store the first u, and then the other w
pub put_join : (u w : ℕ) (b : List ℕ) (i v : ℕ) → put_field (u + w) b i v ≡ put_field w (put_field u b i (v / 256 ^ w)) (i + u) v
unfolding put_field
put_join u zero b i v = rw (add-zero, div-one)
put_join u (suc w) b i v = ap (λ (n : ℕ). put_field n b i v) (add-suc u w) ∙ step (put_join u w b i (v / 256))
  where
    quotient : v / 256 / 256 ^ w ≡ v / 256 ^ suc w
    quotient = div-div-eq-div-mul v 256 (256 ^ w) ∙ ap (λ (m : ℕ). v / m) (sym (pow-succ' 256 w))

    step : put_field (u + w) b i (v / 256) ≡ put_field w (put_field u b i (v / 256 / 256 ^ w)) (i + u) (v / 256) →
        set (put_field (u + w) b i (v / 256)) (i + (u + w)) (v % 256)
        ≡ set (put_field w (put_field u b i (v / 256 ^ suc w)) (i + u) (v / 256)) (i + u + w) (v % 256)
    step e =
        ap₂ (λ (l : List ℕ) (n : ℕ). set l n (v % 256))
        (e ∙ ap (λ (x : ℕ). put_field w (put_field u b i x) (i + u) (v / 256)) quotient) (sym (add_assoc i u w))

-- ---- a store of bytes leaves bytes

bytes_set : (b : List ℕ) (p y : ℕ) → Bytes b → y < 256 → Bytes (set b p y)
bytes_set b p y h q j = elim (ℕ_discrete j p) [ yes e ↦ same e (dec_le (length b) p) | no ne ↦ rw (get_or-set_other b p j y 0 ne) (h j) ]
  where
    same : j ≡ p → Dec (length b ≤ p) → get_or (set b p y) j 0 < 256
    same e (yes l) = rw (set_out b p y l) (h j)
    same e (no l) = rw (e, get_or-set_same b p y 0 (omega arith)) q

pub bytes_put : (w : ℕ) (b : List ℕ) (i v : ℕ) → Bytes b → Bytes (put_field w b i v)
unfolding put_field
bytes_put zero b i v h = h
bytes_put (suc w) b i v h = bytes_set (put_field w b i (v / 256)) (i + w) (v % 256) (bytes_put w b i (v / 256) h) (omega arith)
