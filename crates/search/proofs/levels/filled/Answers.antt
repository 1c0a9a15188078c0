-- `levels::filled` meets its contract: every bit of the greatest word is 1, and every bit of 0 is 0.
use native.Mathlib.Omega.{arith}
use Rattle.sets.specs.Sets.{word_bits}
use Rattle.search.proofs.Bits.{bit_none, bit_ones}
use Rattle.search.proofs.levels.filled.Goals as goal

pub returns-then-c-eq1 : goal.returns-then-c-eq1
returns-then-c-eq1 c d p = omega (arith, bit_ones word_bits d p)

pub returns-else-c-eq1 : goal.returns-else-c-eq1
returns-else-c-eq1 c d p = omega (arith, bit_none d)
