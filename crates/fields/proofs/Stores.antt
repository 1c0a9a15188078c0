-- A run of stores of fields: what was stored reads back, and what lies apart stays. Whether two fields lie apart is computed, so a
-- header of a dozen fields asks one law and not a hundred cases.
-- Assumes nothing.
use mathlib.Core.Path.{◌≡◌, refl, ap, ◌∙◌}
use mathlib.Core.Logic.{◌⊎◌, inl, inr}
use mathlib.Core.Bool.{Bool, true, ◌&&◌, ◌||◌}
use mathlib.Core.List.{List, [], ◌∷◌, ◌++◌}
use Prim.Native.Nat.{ℕ, suc, ◌+◌, ◌^◌, ◌≤◌, ◌<◌}
use native.Mathlib.Omega.{arith}
use lib.ListN.{length, get_or, take, drop}
use lib.Seq.{split_at}
use lib.Dec.{T, leb, leb→le}
use mir.Facts.{and_yes, or_yes}
use Rattle.fields.specs.Field.{field, put_field, Bytes}
use Rattle.fields.proofs.Fields.{field_put, field_put_other, get_d_put_other, length_put, bytes_put}

-- a value written over a field
pub record Store : Type 0 where
  pub width : ℕ
  pub place : ℕ
  pub value : ℕ

abbrev pub store : ℕ → ℕ → ℕ → Store
store width place value = record { width = width; place = place; value = value }

-- stores one after the other
unfoldable pub put_stores : List ℕ → List Store → List ℕ
put_stores b [] = b
put_stores b (s ∷ ss) = put_stores (put_field s.width b s.place s.value) ss

-- the field of w bytes at i lies apart from every store
abbrev pub apart : ℕ → ℕ → List Store → Bool
apart w i [] = true
apart w i (s ∷ ss) = (leb (i + w) s.place || leb (s.place + s.width) i) && apart w i ss

pub stores_apart : (b : List ℕ) (w i : ℕ) (ss : List Store) → T (apart w i ss) → field w (put_stores b ss) i ≡ field w b i
unfolding put_stores
stores_apart b w i [] t = refl
stores_apart b w i (s ∷ ss) t =
    let h = and_yes (leb (i + w) s.place || leb (s.place + s.width) i) (apart w i ss) t in
    stores_apart (put_field s.width b s.place s.value) w i ss h.1
    ∙ go (or_yes (leb (i + w) s.place) (leb (s.place + s.width) i) h.0)
  where
    go : T (leb (i + w) s.place) ⊎ T (leb (s.place + s.width) i) →
        field w (put_field s.width b s.place s.value) i ≡ field w b i
    go (inl p) = field_put_other w s.width b s.place s.value i (λ k l q r e. omega (arith, leb→le (i + w) s.place p))
    go (inr p) = field_put_other w s.width b s.place s.value i (λ k l q r e. omega (arith, leb→le (s.place + s.width) i p))

pub length_stores : (b : List ℕ) (ss : List Store) → length (put_stores b ss) ≡ length b
unfolding put_stores
length_stores b [] = refl
length_stores b (s ∷ ss) = length_stores (put_field s.width b s.place s.value) ss ∙ length_put s.width b s.place s.value

pub bytes_stores : (b : List ℕ) (ss : List Store) → Bytes b → Bytes (put_stores b ss)
unfolding put_stores
bytes_stores b [] h = h
bytes_stores b (s ∷ ss) h = bytes_stores (put_field s.width b s.place s.value) ss (bytes_put s.width b s.place s.value h)

stores_append : (b : List ℕ) (before after : List Store) → put_stores b (before ++ after) ≡ put_stores (put_stores b before) after
unfolding put_stores
stores_append b [] after = refl
stores_append b (s ∷ before) after = stores_append (put_field s.width b s.place s.value) before after

-- a store that no later one touches reads back
stored : (b : List ℕ) (before : List Store) (w i v : ℕ) (after : List Store) →
    T (apart w i after) → i + w ≤ length b → v < 256 ^ w → field w (put_stores b (before ++ store w i v ∷ after)) i ≡ v
unfolding put_stores
stored b before w i v after t room fits =
    ap (λ (l : List ℕ). field w l i) (stores_append b before (store w i v ∷ after))
    ∙ stores_apart (put_field w (put_stores b before) i v) w i after t
    ∙ field_put w (put_stores b before) i v (omega (arith, length_stores b before)) fits

-- the same by place in the run: store number k, counted from 0
pub stored_at : (b : List ℕ) (ss : List Store) (k : ℕ) → k < length ss →
    let s = get_or ss k (store 0 0 0) in
    T (apart s.width s.place (drop (suc k) ss)) → s.place + s.width ≤ length b → s.value < 256 ^ s.width →
    field s.width (put_stores b ss) s.place ≡ s.value
stored_at b ss k p t room fits =
    let s = get_or ss k (store 0 0 0) in
    ap (λ (l : List Store). field s.width (put_stores b l) s.place) (split_at ss k (store 0 0 0) p)
    ∙ stored b (take k ss) s.width s.place s.value (drop (suc k) ss) t room fits

-- every store lies below a place; so bytes from there on stay
abbrev pub under : ℕ → List Store → Bool
under i [] = true
under i (s ∷ ss) = leb (s.place + s.width) i && under i ss

pub get_d_above : (b : List ℕ) (i j : ℕ) (ss : List Store) → T (under i ss) → i ≤ j → get_or (put_stores b ss) j 0 ≡ get_or b j 0
unfolding put_stores
get_d_above b i j [] t p = refl
get_d_above b i j (s ∷ ss) t p =
    let h = and_yes (leb (s.place + s.width) i) (under i ss) t in
    get_d_above (put_field s.width b s.place s.value) i j ss h.1 p
    ∙ get_d_put_other s.width b s.place s.value j (λ k q e. omega (arith, leb→le (s.place + s.width) i h.0))
