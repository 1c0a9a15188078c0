-- `roster::judge` meets its contract: what n and f refuse, the roster refuses with the same number, and each test behind that fails is one
-- case of the roster's number.
use mathlib.Core.Path.{sym, ◌∙◌}
use Prim.Native.Nat.{◌≤◌}
use native.Mathlib.Omega.{arith}
use lib.ListN.{length}
use borrow.Author.Tests.{eqb-false}
use Rattle.forms.specs.Number.{number_of}
use Rattle.forms.specs.Roster.{full_faults}
use Rattle.forms.proofs.Rosters.{Limits, limits_full, roster_refused, roster_own, roster_zero, roster_twice}
use Rattle.forms.proofs.Rosters.{roster_stranger, roster_sound}
use Rattle.forms.proofs.Told.{refusal, passed_on}
use Rattle.forms.proofs.roster.judge.Goals.{In_ok-judge_limits}
use Rattle.forms.proofs.roster.judge.Goals as goal

-- past n and f the limits hold, and f is all that n allows
within : (c : In_ok-judge_limits) →
    let a = c.args in
    let n = length a.serials.now in
    Limits a.f n × (full_faults n ≤ a.f)
within c = limits_full (length c.args.serials.now) c.args.f 0 (rw c.len.ensures at (sym c.in_ok-judge_limits.ensures))

pub returns-in_err-judge_limits : goal.returns-in_err-judge_limits
returns-in_err-judge_limits c =
    let a = c.args in
    let why = c.in_err-judge_limits.field-0.0 in
    let told = rw c.len.ensures at c.in_err-judge_limits.ensures in
    rw (passed_on c.from_residual.result c.from_residual.ensures.1)
    (told ∙ roster_refused a.f a.own a.serials.now (λ z. eqb-false (number_of why) 0 (refusal why) (told ∙ z)))

pub returns-then-own-eq0 : goal.returns-then-own-eq0
returns-then-own-eq0 c =
    let a = c.args in
    let w = within (goal.at.returns-then-own-eq0 c).In_ok-judge_limits in
    sym (roster_own a.f a.own _ w.0 w.1 c.if-own-eq0.true)

pub tally-seen-requires : goal.tally-seen-requires
tally-seen-requires c = omega (arith, within (goal.at.tally-seen-requires c).In_ok-judge_limits)

-- where the serials have been looked at
pub returns-then-seen-gt0 : goal.returns-then-seen-gt0
returns-then-seen-gt0 c =
    let a = c.args in
    let w = within (goal.at.returns-then-seen-gt0 c).In_ok-judge_limits in
    let seen = c.tally-seen.ensures in
    sym (roster_zero a.f a.own _ w.0 w.1 (omega (arith, seen.zeros)))

pub returns-then-seen-gt0-2 : goal.returns-then-seen-gt0-2
returns-then-seen-gt0-2 c =
    let a = c.args in
    let w = within (goal.at.returns-then-seen-gt0-2 c).In_ok-judge_limits in
    let seen = c.tally-seen.ensures in
    sym (roster_twice a.f a.own _ w.0 w.1 c.if-own-eq0.false (omega (arith, seen.zeros)) (omega (arith, seen.twins)))

pub returns-then-seen-eq0 : goal.returns-then-seen-eq0
returns-then-seen-eq0 c =
    let a = c.args in
    let w = within (goal.at.returns-then-seen-eq0 c).In_ok-judge_limits in
    let seen = c.tally-seen.ensures in
    sym
    (roster_stranger a.f a.own _ w.0 w.1 c.if-own-eq0.false
    (omega (arith, seen.zeros))
    (omega (arith, seen.twins))
    (omega (arith, seen.same)))

pub returns : goal.returns
returns c =
    let a = c.args in
    let w = within (goal.at.returns c).In_ok-judge_limits in
    let seen = c.tally-seen.ensures in
    sym
    (roster_sound a.f a.own _ w.0 w.1 c.if-own-eq0.false
    (omega (arith, seen.zeros))
    (omega (arith, seen.twins))
    (λ e. c.if-seen-eq0.false (omega (arith, seen.same, e))))
