-- "Held by at least m?", told as early as it can be (02, A12). Rows are read one after another until nothing is lacking any more, or
-- until the rows left cannot make up what is. proofs/Earliest.antt shows that yes or no is the full count's, that nothing beyond the
-- rows read decides, and that after one row less the answer is still open.
use Rattle.std.specs.Prelude.{◌≡◌, Bool, true, false, cond, List, [], ◌∷◌, ℕ, suc, ◌-◌, ◌≤◌, eqb, ltb, leb, length, take}
use Rattle.sets.specs.Ticks.{holds}
use Rattle.evidence.specs.Holders.{holders}
use Rattle.evidence.specs.Rows.{Row, set_of, proper_rows}
use Rattle.evidence.specs.Serials.{serials_in}
use Rattle.evidence.specs.declared.early.Decided.{Decided}

-- yes or no, and how many rows were read for it
abbrev pub decided_as : Bool → ℕ → Decided
decided_as held read = record { held = held; read = read }

-- the same with one row more read
abbrev pub one_more : Decided → Decided
one_more d = decided_as d.held (suc d.read)

-- whether (kind, t) is held by at least m of the rows; further down the list m is what is still lacking
unfoldable pub decide : ℕ → ℕ → ℕ → ℕ → List Row → Decided
decide w kind t m [] = decided_as (eqb m 0) 0
decide w kind t m (row ∷ rows) =
    let next = decide w kind t (m - holds w (set_of kind row) t) rows in
    cond (eqb m 0) (decided_as true 0)
    (cond (ltb (suc (length rows)) m) (decided_as false 0)
    (one_more next))

-- after the first r rows the answer is still open: for yes and for no there is a way to go on, that is, rows which begin as these do,
-- under the same serials and as proper as these, and which the full count gives that answer
pub record Open (w kind t m r : ℕ) (rows : List Row) : Type 0 where
  pub way : Bool → List Row
  pub begun : (yes : Bool) → take r (way yes) ≡ take r rows
  pub same : (yes : Bool) → serials_in (way yes) ≡ serials_in rows
  pub sound : (yes : Bool) (last : ℕ) → t ≤ last → proper_rows w last rows ≡ true → proper_rows w last (way yes) ≡ true
  pub told : (yes : Bool) → leb m (holders w kind t (way yes)) ≡ yes
