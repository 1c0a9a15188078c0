-- `calls::correct` meets its contract: a refusal gives its number, and else the two ends of what is left give the answer.
use Rattle.std.proofs.Common.{ℕ, ◌-◌, ℤ, pos, ◌+ℤ◌, neg_ℤ, sym, ap, ◌∙◌, ap₂, ◌≡◌, arith, w64, to_z, of_z}
use Rattle.std.proofs.lemmas.Int.{ints}
use Rattle.correction.specs.Counter.{differences}
use Rattle.correction.specs.Middle.{ranked, lowest, highest, half_down, middle}
use Rattle.correction.proofs.Ranges.{ranked_range, middle_range}
use Rattle.correction.proofs.Told.{refusal, highest_rank, corrected_taken, corrected_zero}
use Rattle.correction.proofs.calls.correct.Goals as goal

pub opposite-requires : goal.opposite-requires
opposite-requires c =
    let a = c.args in
    let readings = a.readings.now in
    let low = ranked_range a.f a.expected readings in
    let high = ranked_range (a.n - 1 - a.f) a.expected readings in
    (omega (arith, ints, low, c.ranked-lowest.ensures), omega (arith, ints, high, c.ranked-highest.ensures))

pub returns-in-Err : goal.returns-in-Err
returns-in-Err c =
    let a = c.args in
    let why = c.in-Err in
    ap (λ (n : ℕ). record { number = n; correction = pos 0 }) (c.from.ensures ∙ why.ensures)
    ∙ sym (corrected_zero a.n a.f a.readings.now a.expected (λ z. refusal why.why (why.ensures ∙ z)))

pub returns-in-Ok : goal.returns-in-Ok
unfolding middle
returns-in-Ok c =
    let a = c.args in
    let readings = a.readings.now in
    let all = differences a.expected readings in
    let taken = sym c.in-Ok.ensures in
    let rank = ap (λ (k : ℕ). ranked k all) (highest_rank a.n a.f readings a.expected taken) in
    let range = λ (k : ℕ). ranked_range k a.expected readings in
    let low : to_z w64 (of_z w64 c.ranked-lowest.result) ≡ lowest a.f all = omega (arith, ints, range a.f, c.ranked-lowest.ensures) in
    let last = c.ranked-highest.ensures ∙ rank in
    let high : to_z w64 (of_z w64 c.ranked-highest.result) ≡ highest a.f all = omega (arith, ints, range (a.n - 1 - a.f), last) in
    let given = c.opposite.ensures ∙ ap₂ (λ (low high : ℤ). neg_ℤ (half_down (low +ℤ high))) low high in
    let told : to_z w64 (of_z w64 c.opposite.result) ≡ neg_ℤ (middle a.f all) = omega (arith, ints, given, middle_range a.f a.expected readings) in
    rw told (sym (corrected_taken a.n a.f readings a.expected taken))
