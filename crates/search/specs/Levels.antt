-- Counters of six bits for as many ticks as a word has bits, as the joints of the search use them: what a counter has reached, and
-- what one more row does to it. None of this is needed to read what the search finds, which is `greatest` of the evidence.
use Rattle.std.specs.Prelude.{ℕ, ◌+◌, ◌*◌, ◌%◌, ◌^◌, ◌<◌, ◌≡◌, ◌⊎◌}
use Rattle.sets.specs.Sets.{word_bits}
use Rattle.sets.specs.Ticks.{bit}
use Rattle.search.specs.declared.levels.Levels.{Levels}

-- where a counter of six bits runs over, and so the most rows that it can be short of
abbrev pub capacity : ℕ
capacity = 2 ^ 6

-- what the counter of tick d has reached
unfoldable pub reached : Levels → ℕ → ℕ
reached l d =
    bit l.ones d + 2 * bit l.twos d + 4 * bit l.fours d + 8 * bit l.eights d + 16 * bit l.sixteens d
    + 32 * bit l.more d

-- every bit of a word is the lowest of c
abbrev pub Filled : ℕ → ℕ → Type 0
Filled c r = (d : ℕ) → d < word_bits → bit r d ≡ c % 2

-- every counter is m short of running over
pub record Short (m : ℕ) (r : Levels) : Type 0 where
  pub short : (d : ℕ) → d < word_bits → reached r d + m ≡ capacity
  pub none : r.over ≡ 0

-- from l to r the counter of tick d has gone on by c, or has run over; and one that has run over stays so
pub record Counts (l r : Levels) (d c : ℕ) : Type 0 where
  pub stays : bit l.over d ≡ 1 → bit r.over d ≡ 1
  pub counts : (bit r.over d ≡ 1) ⊎ (reached r d ≡ reached l d + c)

abbrev pub Raised : Levels → ℕ → Levels → Type 0
Raised l a r = (d : ℕ) → Counts l r d (bit a d)
