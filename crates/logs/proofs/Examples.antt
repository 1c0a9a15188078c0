-- The limits of 01 ("Layouts") and its whole case ("The log program"), about the definitions: the names stand for the paper's numbers,
-- and its log of 72 bytes is taken, computed by the checker.
-- Assumes nothing.
use mathlib.Core.Path.{◌≡◌, refl}
use mathlib.Core.List.{List, [], ◌∷◌}
use Prim.Native.Nat.{ℕ}
use Rattle.logs.specs.Listing.{line_room, listing_room}
use Rattle.logs.specs.Log.{form_place, event_size, most_events, least_form, most_form, least_offset, most_offset, log_number, log_told}
use Rattle.fields.specs.Field.{field}

limits : (form_place ≡ 12) × (event_size ≡ 12) × (most_events ≡ 4096) × (least_form ≡ 8) × (most_form ≡ 1000) × (least_offset ≡ 20)
    × (most_offset ≡ 1012) × (line_room ≡ 46) × (listing_room ≡ 188462)
limits = (refl, refl, refl, refl, refl, refl, refl, refl, refl)

-- three events of (echo, 0), from 11, 22 and 33
log : List ℕ
log =
    0 ∷ 0 ∷ 0 ∷ 3 ∷ 0 ∷ 0 ∷ 0 ∷ 12 ∷ 0 ∷ 0 ∷ 0 ∷ 36
    ∷ 4 ∷ 1 ∷ 0 ∷ 8 ∷ 0 ∷ 0 ∷ 0 ∷ 11 ∷ 0 ∷ 0 ∷ 0 ∷ 11 ∷ 0 ∷ 0 ∷ 0 ∷ 22 ∷ 0 ∷ 0 ∷ 0 ∷ 33 ∷ 0 ∷ 0 ∷ 0 ∷ 44
    ∷ 0 ∷ 0 ∷ 0 ∷ 11 ∷ 2 ∷ 0 ∷ 0 ∷ 0 ∷ 0 ∷ 0 ∷ 0 ∷ 0
    ∷ 0 ∷ 0 ∷ 0 ∷ 22 ∷ 2 ∷ 0 ∷ 0 ∷ 0 ∷ 0 ∷ 0 ∷ 0 ∷ 0
    ∷ 0 ∷ 0 ∷ 0 ∷ 33 ∷ 2 ∷ 0 ∷ 0 ∷ 0 ∷ 0 ∷ 0 ∷ 0 ∷ 0 ∷ []

taken : log_told log ≡ record { number = 0; count = 3; events = 36 }
unfolding log log_told log_number field
taken = refl
