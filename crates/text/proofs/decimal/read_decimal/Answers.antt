-- `decimal::read_decimal` meets its contract: a turn takes the next character into the number, and one that has grown too great stays so.
use Rattle.std.proofs.Common.{◌≡◌, ◌+◌, ◌-◌, ◌*◌, ◌<◌, ℕ, List, ◌∷◌, length, get_or, drop, arith, add-one, sym, ap, ◌∙◌}
use Rattle.std.proofs.Common.{eq-eqb, ne_eqb, drop-cons}
use lib.ListN.{drop_of_length-le}
use Rattle.text.specs.Decimal.{digit, read_from, decimal_of}
use Rattle.text.proofs.Readings.{read_digit, read_other, read_great, read_end}
use Rattle.text.proofs.decimal.read_decimal.Goals.{Else-not-is_ascii_digit}
use Rattle.text.proofs.decimal.read_decimal.Goals as goal

-- in a turn the character at k is next
next : (text : List ℕ) (value k : ℕ) → k < length text → read_from value (drop k text) ≡ decimal_of text →
    read_from value (get_or text k 0 ∷ drop (k + 1) text) ≡ decimal_of text
next text value k inside behind = ap (read_from value) (rw add-one (sym (drop-cons text k 0 inside))) ∙ behind

-- and where it is a digit, the number takes it
taken : (c : Else-not-is_ascii_digit) →
    let l = c.loop-x in
    let text = c.args.text.now in
    read_from (l.value * 10 + (get_or text l.x-index 0 - digit 0)) (drop (l.x-index + 1) text) ≡ decimal_of text
taken c =
    let in_range = c.if-not-is_ascii_digit.ensures.cases in
    sym (read_digit _ _ _ in_range.0 in_range.1) ∙ next _ _ _ c.loop-x-test.true c.loop-x.invariant.behind

pub returns-then-is_empty : goal.returns-then-is_empty
unfolding decimal_of
returns-then-is_empty c =
    let none : length c.args.text.now ≡ 0 = grind arith in
    rw (eq-eqb (length c.args.text.now) 0 none)

pub loop-x-init : goal.loop-x-init
unfolding decimal_of
loop-x-init c =
    let some : length c.args.text.now ≡ 0 → ⊥ = grind arith in
    record { few = omega arith; behind = rw (ne_eqb (length c.args.text.now) 0 some) }

pub returns-then-not-is_ascii_digit : goal.returns-then-not-is_ascii_digit
returns-then-not-is_ascii_digit c =
    sym (read_other _ _ _ c.if-not-is_ascii_digit.ensures.cases) ∙ next _ _ _ c.loop-x-test.true c.loop-x.invariant.behind

pub returns-in_err-checked_mul : goal.returns-in_err-checked_mul
returns-in_err-checked_mul c =
    c.from_residual.ensures ∙ sym (read_great _ _ (omega arith)) ∙ taken (goal.at.returns-in_err-checked_mul c).Else-not-is_ascii_digit

pub returns-in_err-value : goal.returns-in_err-value
returns-in_err-value c =
    c.from_residual-in_err-value.ensures ∙ sym (read_great _ _ (omega arith))
    ∙ taken (goal.at.returns-in_err-value c).Else-not-is_ascii_digit

pub loop-x-preserved : goal.loop-x-preserved
loop-x-preserved c =
    let l = c.loop-x in
    let text = c.args.text.now in
    let value : c.in_ok-value.value ≡ l.value * 10 + (get_or text l.x-index 0 - digit 0) = omega arith in
    record { few = omega arith; behind = rw value (taken (goal.at.loop-x-preserved c).Else-not-is_ascii_digit) }

pub returns : goal.returns
returns c =
    let l = c.loop-x in
    sym (read_end l.value (omega arith)) ∙ ap (read_from l.value) (sym (drop_of_length-le c.args.text.now {i = l.x-index} (omega arith)))
    ∙ l.invariant.behind
