-- What one look at the rows tells of the ticks just below x, as the joints of the search use it. A look counts as many ticks as the
-- window w is wide, and no more than a word has bits. Numbers like x are tick + 1.
use Rattle.std.specs.Prelude.{ℕ, ◌+◌, ◌-◌, ◌≤◌, ◌<◌, min, ◌≡◌, List}
use Rattle.sets.specs.Sets.{word_bits}
use Rattle.sets.specs.Ticks.{Held, bit, holds}
use Rattle.evidence.specs.Rows.{Row}
use Rattle.evidence.specs.Holders.{holders}
use Rattle.search.specs.Levels.{Counts}
use Rattle.search.specs.declared.levels.Levels.{Levels}

-- how many ticks one look counts
abbrev pub view : ℕ → ℕ
view w = min w word_bits

-- a word shows the ticks of a set, with bit d for tick x - 1 - d
abbrev pub Shown : ℕ → Held → ℕ → ℕ → Type 0
Shown w s x r = (t : ℕ) → t < x → x ≤ t + view w → bit r (x - 1 - t) ≡ holds w s t

-- the row of a set is counted
abbrev pub Counted : ℕ → Held → ℕ → Levels → Levels → Type 0
Counted w s x l r = (t : ℕ) → t < x → x ≤ t + view w → Counts l r (x - 1 - t) (holds w s t)

-- a word shows each tick that m rows hold
abbrev pub Scanned : ℕ → ℕ → ℕ → ℕ → List Row → ℕ → Type 0
Scanned w kind m x rows r = (t : ℕ) → t < x → x ≤ t + view w → m ≤ holders w kind t rows → bit r (x - 1 - t) ≡ 1
