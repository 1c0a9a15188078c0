-- What the digits so far make is a number of 32 bits, and the text says what the digits behind them make of it.
use Rattle.std.proofs.Common.{◌≡◌, ◌≤◌, drop}
use Rattle.text.specs.Decimal.{most_number, read_from, decimal_of}
use Rattle.text.proofs.decimal.read_decimal.Given as goal

abbrev pub invariant-loop-x : goal.invariant-loop-x
invariant-loop-x l =
    record { few : l.value ≤ most_number; behind : read_from l.value (drop l.x-index l.text) ≡ decimal_of l.text }
