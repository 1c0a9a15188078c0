-- `Levels::raised` meets its contract: rank by rank a bit and what is carried to it are the bit that stays and what is carried on, and
-- what is carried past the last rank runs over.
use mathlib.Core.Logic.{inl, inr}
use native.Mathlib.Decide.{ℕ_discrete}
use native.Mathlib.Omega.{arith}
use lib.Bits.{bit_and}
use Rattle.sets.specs.Ticks.{bit}
use Rattle.sets.proofs.Masks.{bit_le}
use Rattle.search.specs.Levels.{reached}
use Rattle.search.proofs.Bits.{bit_sum, bit_or_lem}
use Rattle.search.proofs.levels.Levels.raised.Goals as goal

pub returns : goal.returns
unfolding reached
returns c d =
    let a = c.args in
    let l = a.self in
    let to-twos = bit_and l.ones a.a in
    let to-fours = bit_and l.twos to-twos in
    let to-eights = bit_and l.fours to-fours in
    let to-sixteens = bit_and l.eights to-eights in
    let to-more = bit_and l.sixteens to-sixteens in
    let past = bit_and l.more to-more in
    let over = bit_or_lem l.over past d in
    record {
      stays = λ e. omega (arith, e, over, bit_le past d);
      counts =
          elim (ℕ_discrete (bit past d) 1) [
            | yes e ↦ inl (omega (arith, e, over, bit_le l.over d))
            | no n ↦
                inr
                (omega (
                  arith,
                  n,
                  bit_le past d,
                  bit_sum l.ones a.a d,
                  bit_sum l.twos to-twos d,
                  bit_sum l.fours to-fours d,
                  bit_sum l.eights to-eights d,
                  bit_sum l.sixteens to-sixteens d,
                  bit_sum l.more to-more d,
                ))
          ];
    }
