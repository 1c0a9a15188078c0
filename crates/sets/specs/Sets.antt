-- From the structs of the code to the set of the definitions, and the sizes of their numbers. A mask is one number of 128 bits (02, A8).
-- A third width changes `mask_bytes` and crate sets' file mask.rt, which has the same sizes by the same names; what counts bits stays.
use Rattle.std.specs.Prelude.{ℕ, ◌*◌, ◌^◌}
use Rattle.sets.specs.Ticks.{Held}
use Rattle.sets.specs.declared.mask.Mask.{Mask}
use Rattle.sets.specs.declared.ticks.Ticks.{Ticks}

-- bytes of a word, and its bits
abbrev pub word_bytes : ℕ
word_bytes = 8

abbrev pub word_bits : ℕ
word_bits = 8 * word_bytes

-- bytes of a mask, and its bits: the window is at most as wide
abbrev pub mask_bytes : ℕ
mask_bytes = 2 * word_bytes

abbrev pub mask_bits : ℕ
mask_bits = 8 * mask_bytes

-- how many ticks a top, a number of 4 bytes, can tell apart
abbrev pub tick_count : ℕ
tick_count = 2 ^ 32

abbrev pub mask_by : Mask → ℕ
mask_by m = m.bits

abbrev pub held_by : Ticks → Held
held_by s = record { top = s.top; mask = mask_by s.mask }
