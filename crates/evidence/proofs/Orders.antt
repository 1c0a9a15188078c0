-- The order of rows decides nothing: neither who holds a tick, nor the greatest tick, nor whether all sets are proper, nor whose row a
-- frame changes.
-- Assumes nothing.
use mathlib.Core.Path.{◌≡◌, refl, ap, ap₂, ◌∙◌, sym}
use mathlib.Core.Bool.{Bool, true, false, ◌&&◌, and-false}
use mathlib.Core.List.Permᴰ
use mathlib.Core.List.{List, ◌∷◌, Permᴰ}
use Prim.Native.Nat.{ℕ, ◌+◌}
use native.Mathlib.Omega.{arith}
use Rattle.sets.specs.Ticks.{holds}
use Rattle.evidence.specs.Rows.{Row, set_of, credit_of, credit, proper_set, proper_rows}
use Rattle.evidence.specs.Holders.{holders, greatest}
use Rattle.evidence.proofs.Greatest.{greatest_same}

-- something made of one value for each row, joined in a way that lets two neighbours change places
module _ {A : Type 0} (over : List Row → A) (value : Row → A) (join : A → A → A)
    (step : (row : Row) (rows : List Row) → over (row ∷ rows) ≡ join (value row) (over rows))
    (change : (a b c : A) → join a (join b c) ≡ join b (join a c)) where
  pair : (a b : Row) (rows : List Row) → over (a ∷ b ∷ rows) ≡ join (value a) (join (value b) (over rows))
  pair a b rows = step a (b ∷ rows) ∙ ap (join (value a)) (step b rows)

  pub joined_order : {rows others : List Row} → Permᴰ rows others → over rows ≡ over others
  joined_order Permᴰ.nil = refl
  joined_order (Permᴰ.cons e p) = step _ _ ∙ ap₂ join (ap value e) (joined_order p) ∙ sym (step _ _)
  joined_order (Permᴰ.swap {l = rows} d e) =
      pair _ _ rows ∙ change _ _ _ ∙ ap₂ (λ (x y : A). join x (join y (over rows))) (ap value e) (ap value d) ∙ sym (pair _ _ rows)
  joined_order (Permᴰ.trans p q) = joined_order p ∙ joined_order q

pub holders_order :
    (w kind t : ℕ) {rows others : List Row} → Permᴰ rows others → holders w kind t rows ≡ holders w kind t others
unfolding holders
holders_order w kind t p =
    joined_order (holders w kind t) (λ row. holds w (set_of kind row) t) ◌+◌ (λ row rows. refl) (λ a b c. omega arith) p

-- the greatest tick looks at rows through counts alone
pub greatest_order :
    (w kind m low : ℕ) {rows others : List Row} → Permᴰ rows others → greatest w kind m low rows ≡ greatest w kind m low others
greatest_order w kind m low {rows} {others} p = greatest_same w w kind m low rows others (λ t. holders_order w kind t p)

-- ---- whether all sets are proper

both_change : (a b c : Bool) → (a && (b && c)) ≡ (b && (a && c))
both_change true b c = refl
both_change false b c = sym (and-false b)

both_joined : (a b c : Bool) → (a && (b && c)) ≡ ((a && b) && c)
both_joined true b c = refl
both_joined false b c = refl

pub proper_order :
    (w last : ℕ) {rows others : List Row} → Permᴰ rows others → proper_rows w last rows ≡ proper_rows w last others
unfolding proper_rows
proper_order w last p =
    joined_order (proper_rows w last) (λ row. proper_set w last row.echo && proper_set w last row.init) ◌&&◌
    (λ row rows. both_joined (proper_set w last row.echo) (proper_set w last row.init) (proper_rows w last rows)) both_change p

-- ---- the rows after a frame

pub credit_order :
    (w serial kind j : ℕ) {rows others : List Row} → Permᴰ rows others →
    Permᴰ (credit w serial kind j rows) (credit w serial kind j others)
unfolding credit
credit_order w serial kind j p = Permᴰ.map (credit_of w serial kind j) p
