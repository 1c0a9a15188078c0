-- A set of ticks held from one sender (01, "Evidence"): a top, and a mask of which bit i says that tick top - i is held. The
-- empty set has top 0 and mask 0. One definition serves echo and init, and every width w of the window.
-- proofs/Members.antt shows what these definitions mean: who is a member after an insertion, and that a proper set is its
-- members. proofs/Histories.antt shows that order and repetition decide nothing.
use Rattle.std.specs.Prelude.{ℕ, zero, suc, ◌+◌, ◌-◌, ◌*◌, ◌/◌, ◌%◌, ◌^◌, min, List, [], ◌∷◌, Bool, cond, ◌&&◌, ltb, leb, eqb}
use Rattle.fields.specs.Kind.{ECHO}

pub record Held : Type 0 where
  pub top : ℕ
  pub mask : ℕ

abbrev pub empty : Held
empty = record { top = 0; mask = 0 }

-- bit i of a mask, bit 0 the lowest
unfoldable pub bit : ℕ → ℕ → ℕ
bit m i = m / 2 ^ i % 2

-- a mask one tick further down for each of d ticks that the top rises, as far as w bits go; and with the new top in it
unfoldable pub raised : ℕ → ℕ → ℕ → ℕ
raised w m d = m * 2 ^ d % 2 ^ w + 1

-- a mask with bit d set
unfoldable pub marked : ℕ → ℕ → ℕ
unfolding bit
marked m d = m + (1 - bit m d) * 2 ^ d

-- 1 where the set holds tick t, else 0. (A power of 2 is looked at only where its exponent is inside the window.)
unfoldable pub holds : ℕ → Held → ℕ → ℕ
holds w s t = cond (leb t s.top && ltb (s.top - t) w) (bit s.mask (s.top - t)) 0

-- the set with tick t added: afterwards only ticks that lie less than w below the greatest stay, and a tick below the
-- window changes nothing
unfoldable pub insert : ℕ → Held → ℕ → Held
insert w s t =
    cond (ltb s.top t)
    (cond (ltb (t - s.top) w) (record { top = t; mask = raised w s.mask (t - s.top) }) (record { top = t; mask = 1 }))
    (cond (ltb (s.top - t) w) (record { top = s.top; mask = marked s.mask (s.top - t) }) s)

unfoldable pub insert_all : ℕ → Held → List ℕ → Held
insert_all w s [] = s
insert_all w s (t ∷ ts) = insert_all w (insert w s t) ts

-- c ticks from j downwards, as far as they are not below 0
unfoldable pub run : ℕ → ℕ → List ℕ
run zero j = []
run (suc c) zero = 0 ∷ []
run (suc c) (suc j) = suc j ∷ run c j

-- the ticks that a frame of a kind adds: (echo, j) adds j, j - 1 and j - 2; (init, j) adds j only
abbrev pub many_added : ℕ → ℕ
many_added kind = cond (eqb kind ECHO) 3 1

unfoldable pub added : ℕ → ℕ → List ℕ
added kind j = run (many_added kind) j

-- the set after a frame of its kind
unfoldable pub add : ℕ → ℕ → Held → ℕ → Held
add w kind s j = insert_all w s (added kind j)

-- a set as an image may hold it: within the width, no bit above its top, bit 0 set unless it is empty, and empty with top 0
unfoldable pub proper : ℕ → Held → Bool
proper w s = ltb s.mask (2 ^ min w (s.top + 1)) && cond (eqb s.mask 0) (eqb s.top 0) (eqb (s.mask % 2) 1)
