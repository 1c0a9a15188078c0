-- What the tops of the rows tell of the ticks that they may hold, with no mask read, as the joints of the search use it. Numbers like
-- x and y are tick + 1.
use Rattle.std.specs.Prelude.{ℕ, ◌+◌, ◌≤◌, ◌<◌, max, ◌≡◌, List, [], ◌∷◌, Bool, cond, ◌&&◌, ltb, leb}
use Rattle.evidence.specs.Rows.{Row, set_of}
use Rattle.evidence.specs.Holders.{holders}
use Rattle.search.specs.declared.tops.Cover.{Cover}

-- how many rows have a top that passes
unfoldable pub many_tops : (ℕ → Bool) → ℕ → List Row → ℕ
many_tops passes kind [] = 0
many_tops passes kind (row ∷ rows) = cond (passes (set_of kind row).top) 1 0 + many_tops passes kind rows

-- the window below this top has tick x - 1 in it
unfoldable pub covers : ℕ → ℕ → ℕ → Bool
covers w x top = leb x (top + 1) && ltb (top + 1) (x + w)

-- the greatest top below tick x - 1, as tick + 1, with 0 for none
unfoldable pub next_top : ℕ → ℕ → List Row → ℕ
next_top x kind [] = 0
next_top x kind (row ∷ rows) =
    let y = (set_of kind row).top + 1 in
    max (cond (ltb y x) y 0) (next_top x kind rows)

-- what a look at the tops tells of tick x - 1
pub record Covered (w kind x : ℕ) (rows : List Row) (r : Cover) : Type 0 where
  pub here : r.here ≡ many_tops (covers w x) kind rows
  pub next : r.next ≡ next_top x kind rows

-- from there on downwards enough rows may hold a tick: from tick x - 1 as far as there fewer do, and where tick x - 1 is not passed
-- over, a window is not empty
pub record CoveredFrom (w kind enough x : ℕ) (rows : List Row) (from : ℕ) : Type 0 where
  pub few : (t : ℕ) → from ≤ t → t < x → holders w kind t rows < enough
  pub wide : x ≤ from → 0 < w
