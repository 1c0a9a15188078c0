-- The definitions of a set at work on 01's example W10, worked again at A8's window, and on the window's edges, computed by the
-- checker. The window is as wide as a mask has bits, which is A8's width.
-- Assumes nothing.
use mathlib.Core.Path.{◌≡◌, refl}
use Prim.Native.Nat.{ℕ, zero, suc, ◌+◌, ◌^◌}
use mathlib.Core.List.{List, [], ◌∷◌}
use mathlib.Core.Bool.{true, false}
use Rattle.fields.specs.Kind.{INIT, ECHO}
use Rattle.sets.specs.Sets.{mask_bits}
use Rattle.sets.specs.Ticks.{Held, empty, bit, raised, marked, holds, insert, insert_all, run, added, add, proper}

-- the ticks of a set among those below n, the greatest first
ticks_below : ℕ → Held → List ℕ
unfolding holds bit
ticks_below zero s = []
ticks_below (suc n) s = elim (holds mask_bits s n) [ zero ↦ ticks_below n s | suc k ↦ n ∷ ticks_below n s ]

abbrev after : ℕ → Held → ℕ → Held
after kind s j = add mask_bits kind s j

-- what 22 has sent when W10 begins: echo 0, then echo 6
before : Held
before = after ECHO (after ECHO empty 0) 6

-- echo 69 of the paper drops nothing now; the window's edges are at 133 and 134
w10 :
    (ticks_below 140 before ≡ 6 ∷ 5 ∷ 4 ∷ 0 ∷ [])
    × (ticks_below 140 (after ECHO before 69) ≡ 69 ∷ 68 ∷ 67 ∷ 6 ∷ 5 ∷ 4 ∷ 0 ∷ [])
    × (ticks_below 140 (after ECHO before 133) ≡ 133 ∷ 132 ∷ 131 ∷ 6 ∷ [])
    × (ticks_below 140 (after ECHO before 134) ≡ 134 ∷ 133 ∷ 132 ∷ [])
unfolding ticks_below before add added run insert_all insert raised marked bit holds
w10 = (refl, refl, refl, refl)

-- a set whose top is 01's last tick
far : ℕ → Held
far mask = record { top = 4000000000; mask = mask }

-- an init adds one tick; a frame below the window changes nothing; a jump of any size drops the rest
edges :
    (after INIT before 7 ≡ record { top = 7; mask = 143 })
    × (after ECHO (record { top = 200; mask = 1 }) 72 ≡ record { top = 200; mask = 1 })
    × (after ECHO before 4000000000 ≡ far 7)
    × (after ECHO (after ECHO empty 4000000000) 0 ≡ far 7)
    × (after ECHO (record { top = 200; mask = 1 }) 74 ≡ record { top = 200; mask = 1 + 2 ^ 126 + 2 ^ 127 })
    × (after ECHO (record { top = 200; mask = 1 }) 137 ≡ record { top = 200; mask = 1 + 2 ^ 63 + 2 ^ 64 + 2 ^ 65 })
unfolding far before add added run insert_all insert raised marked bit
edges = (refl, refl, refl, refl, refl, refl)

-- bit 127 below top 126 would be a tick below 0
shapes :
    (proper mask_bits (record { top = 126; mask = 2 ^ 127 + 1 }) ≡ false)
    × (proper mask_bits (record { top = 127; mask = 2 ^ 127 + 1 }) ≡ true)
    × (proper mask_bits empty ≡ true)
    × (proper mask_bits (record { top = 1; mask = 0 }) ≡ false)
    × (proper mask_bits (record { top = 5; mask = 2 }) ≡ false)
    × (proper mask_bits (record { top = 0; mask = 1 }) ≡ true)
    × (proper mask_bits (far (2 ^ mask_bits)) ≡ false)
unfolding far proper
shapes = (refl, refl, refl, refl, refl, refl, refl)
