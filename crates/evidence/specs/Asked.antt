-- What the joint that credits a frame asks of its caller, by name.
use Rattle.std.specs.Prelude.{ℕ, ◌+◌, ◌*◌, ◌≤◌, ◌<◌, List, length}
use Rattle.fields.specs.Field.{words}
use Rattle.forms.specs.Column.{count}
use Rattle.sets.specs.Sets.{mask_bits}
use Rattle.evidence.specs.Rows.{row_bytes}

-- a frame may be credited to a serial: the n rows from place i on lie inside the buffer, the window has ticks and fits a mask,
-- and the serial does not stand twice
pub record MayCredit (b : List ℕ) (i n w serial : ℕ) : Type 0 where
  pub inside : i + n * row_bytes ≤ length b
  pub wide : 0 < w
  pub narrow : w ≤ mask_bits
  pub once : count serial (words n row_bytes b i) ≤ 1
