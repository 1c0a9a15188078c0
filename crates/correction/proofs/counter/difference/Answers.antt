-- `counter::difference` meets its contract: a signed word holds the difference, and so does a longer one.
use Rattle.std.proofs.Common.{arith}
use Rattle.std.proofs.lemmas.Int.{ints}
use Rattle.correction.proofs.Counters.{difference_word, difference_range}
use Rattle.correction.proofs.counter.difference.Goals as goal

pub returns : goal.returns
returns c =
    let a = c.args in
    let word = difference_word a.reading a.expected c.ranges.expected.fits in
    omega (arith, ints, word, c.cast_signed.ensures, c.from.ensures, difference_range a.reading a.expected)
