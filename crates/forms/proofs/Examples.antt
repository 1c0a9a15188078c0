-- The definitions at work on 01's own examples and edges, computed by the checker: what a reader can compare with the paper.
-- Assumes nothing.
use mathlib.Core.Path.{◌≡◌, refl}
use Prim.Native.Nat.{ℕ, zero, suc}
use mathlib.Core.List.Permᴰ
use mathlib.Core.List.{List, [], ◌∷◌}
use lib.ListN.{replicate}
use Rattle.fields.specs.Field.{field, put_field, words, put_words}
use Rattle.fields.specs.Kind.{INIT, ECHO}
use Rattle.forms.specs.Column.{count, twins}
use Rattle.forms.specs.Roster.{roster_number}
use Rattle.forms.specs.Form.{Reordered, form_number, form_told, put_form, form_written}
use Rattle.forms.specs.Frame.{BROADCAST, ANSWER, frame_number, refused_frame, frame_told, put_frame_bytes, frame_written}

-- the form of 01's whole case
form : List ℕ
form = 4 ∷ 1 ∷ 0 ∷ 8 ∷ 0 ∷ 0 ∷ 0 ∷ 11 ∷ 0 ∷ 0 ∷ 0 ∷ 11 ∷ 0 ∷ 0 ∷ 0 ∷ 22 ∷ 0 ∷ 0 ∷ 0 ∷ 33 ∷ 0 ∷ 0 ∷ 0 ∷ 44 ∷ []

taken : form_told form ≡ record { number = 0; lines = 4; faults = 1; own = 11 }
unfolding form form_told form_number field words roster_number count twins
taken = refl

-- its first two lines exchanged
exchanged : List ℕ
exchanged = 4 ∷ 1 ∷ 0 ∷ 8 ∷ 0 ∷ 0 ∷ 0 ∷ 11 ∷ 0 ∷ 0 ∷ 0 ∷ 22 ∷ 0 ∷ 0 ∷ 0 ∷ 11 ∷ 0 ∷ 0 ∷ 0 ∷ 33 ∷ 0 ∷ 0 ∷ 0 ∷ 44 ∷ []

reordered : Reordered form exchanged
unfolding form exchanged field words
reordered = record { size = refl; front = refl; lines = Permᴰ.swap refl refl }

written : form_written 1 11 (11 ∷ 22 ∷ 33 ∷ 44 ∷ []) (replicate 24 9) ≡ record { number = 0; written = 24; out = form }
unfolding form form_written put_form put_field put_words roster_number count twins
written = refl

no_room : form_written 1 11 (11 ∷ 22 ∷ 33 ∷ 44 ∷ []) (replicate 23 9) ≡ record { number = 7; written = 0; out = replicate 23 9 }
unfolding form_written roster_number count twins
no_room = refl

-- n = 3 with f = 1 is refused, n = 1 with f = 0 is taken; zeros come before twins in either order of lines
numbers :
    (roster_number 1 5 (5 ∷ 6 ∷ 7 ∷ []) ≡ 2) × (roster_number 0 5 (5 ∷ []) ≡ 0) × (roster_number 0 5 (5 ∷ 5 ∷ 0 ∷ []) ≡ 3)
    × (roster_number 0 5 (0 ∷ 5 ∷ 5 ∷ []) ≡ 3) × (roster_number 0 5 (5 ∷ 6 ∷ 5 ∷ []) ≡ 4) × (roster_number 0 5 (7 ∷ 6 ∷ []) ≡ 5)
    × (roster_number 85 5 (5 ∷ []) ≡ 2) × (roster_number 0 5 (replicate 33 5) ≡ 2) × (roster_number 0 5 [] ≡ 2)
unfolding roster_number count twins
numbers = (refl, refl, refl, refl, refl, refl, refl, refl, refl)

-- all serials from n down to 1
serials_to : ℕ → List ℕ
serials_to zero = []
serials_to (suc n) = suc n ∷ serials_to n

-- the numbers of rosters of n lines with fault number least, least + 1 and so on, so many
stated_from : ℕ → ℕ → ℕ → List ℕ
stated_from n least zero = []
stated_from n least (suc more) = roster_number least 1 (serials_to n) ∷ stated_from n (suc least) more

-- for each of these n one fault number is taken, the greatest that n allows (02, A7): 21 below it, 2 above
full_ones :
    (stated_from 1 0 2 ≡ 0 ∷ 2 ∷ []) × (stated_from 2 0 2 ≡ 0 ∷ 2 ∷ []) × (stated_from 3 0 2 ≡ 0 ∷ 2 ∷ [])
    × (stated_from 4 0 3 ≡ 21 ∷ 0 ∷ 2 ∷ []) × (stated_from 6 0 3 ≡ 21 ∷ 0 ∷ 2 ∷ []) × (stated_from 7 0 4 ≡ 21 ∷ 21 ∷ 0 ∷ 2 ∷ [])
    × (stated_from 32 9 3 ≡ 21 ∷ 0 ∷ 2 ∷ []) × (stated_from 33 10 1 ≡ 2 ∷ [])
unfolding serials_to stated_from roster_number count twins
full_ones = (refl, refl, refl, refl, refl, refl, refl, refl)

-- 21 comes before a zero, a twin and a stranger
stated_first :
    (roster_number 0 5 (5 ∷ 0 ∷ 6 ∷ 7 ∷ []) ≡ 21) × (roster_number 0 5 (5 ∷ 5 ∷ 6 ∷ 7 ∷ []) ≡ 21)
    × (roster_number 0 5 (6 ∷ 7 ∷ 8 ∷ 9 ∷ []) ≡ 21) × (roster_number 1 5 (5 ∷ 0 ∷ 6 ∷ 7 ∷ []) ≡ 3)
unfolding roster_number count twins
stated_first = (refl, refl, refl, refl)

-- and the writer gives it too
not_written : form_written 0 11 (11 ∷ 22 ∷ 33 ∷ 44 ∷ []) (replicate 23 9) ≡ record { number = 21; written = 0; out = replicate 23 9 }
unfolding form_written roster_number count twins
not_written = refl

frame :
    frame_told 4000000000 (2 ∷ 0 ∷ 0 ∷ 0 ∷ 238 ∷ 107 ∷ 40 ∷ 0 ∷ [])
    ≡ record { number = 0; frame = record { kind = ECHO; flag = BROADCAST; tick = 4000000000 } }
unfolding frame_told frame_number field
frame = refl

late : frame_told 4000000000 (2 ∷ 0 ∷ 0 ∷ 0 ∷ 238 ∷ 107 ∷ 40 ∷ 1 ∷ []) ≡ refused_frame 11
unfolding frame_told frame_number field
late = refl

-- an answer is an echo with flag 1, at any tick
answered :
    frame_told 4000000000 (2 ∷ 1 ∷ 0 ∷ 0 ∷ 0 ∷ 0 ∷ 0 ∷ 69 ∷ [])
    ≡ record { number = 0; frame = record { kind = ECHO; flag = ANSWER; tick = 69 } }
unfolding frame_told frame_number field
answered = refl

-- nine bytes with a tick too great are 10, not 11; so are flag 1 on an init, flag 2, and a byte behind the flag
misshapen_ones :
    (frame_number 4000000000 (1 ∷ 0 ∷ 0 ∷ 0 ∷ 255 ∷ 255 ∷ 255 ∷ 255 ∷ 0 ∷ []) ≡ 10)
    × (frame_number 4000000000 (1 ∷ 1 ∷ 0 ∷ 0 ∷ 0 ∷ 0 ∷ 0 ∷ 0 ∷ []) ≡ 10)
    × (frame_number 4000000000 (2 ∷ 2 ∷ 0 ∷ 0 ∷ 0 ∷ 0 ∷ 0 ∷ 0 ∷ []) ≡ 10)
    × (frame_number 4000000000 (2 ∷ 1 ∷ 1 ∷ 0 ∷ 0 ∷ 0 ∷ 0 ∷ 0 ∷ []) ≡ 10)
unfolding frame_number
misshapen_ones = (refl, refl, refl, refl)

frame_written_lem :
    frame_written 4000000000 (record { kind = ECHO; flag = ANSWER; tick = 69 }) (replicate 9 7)
    ≡ record { number = 0; written = 8; out = 2 ∷ 1 ∷ 0 ∷ 0 ∷ 0 ∷ 0 ∷ 0 ∷ 69 ∷ 7 ∷ [] }
unfolding frame_written put_frame_bytes put_field
frame_written_lem = refl

-- kind and flag come before the tick, the tick before the room
frame_not_written :
    ((frame_written 69 (record { kind = INIT; flag = ANSWER; tick = 70 }) []).number ≡ 10)
    × ((frame_written 69 (record { kind = ECHO; flag = ANSWER; tick = 70 }) []).number ≡ 11)
    × ((frame_written 69 (record { kind = ECHO; flag = ANSWER; tick = 69 }) []).number ≡ 7)
unfolding frame_written
frame_not_written = (refl, refl, refl)
