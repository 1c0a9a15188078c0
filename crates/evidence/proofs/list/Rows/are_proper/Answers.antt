-- `list::Rows::are_proper` meets its contract: all rows are proper where the rows left are.
use mathlib.Core.Path.{◌≡◌, sym, ap, ◌∙◌}
use native.Mathlib.Omega.{arith}
use lib.ListN.{get_or}
use Rattle.evidence.specs.Rows.{no_row, set_of, proper_set, proper_rows}
use Rattle.evidence.proofs.Lists.{none_left, echo_not_proper, init_not_proper, both_proper}
use Rattle.evidence.proofs.list.Rows.are_proper.Goals.{After-is_proper_set, After-is_proper_set-in-loop-k}
use Rattle.evidence.proofs.list.Rows.are_proper.Goals as goal

-- what is asked of the row in hand
echo : (c : After-is_proper_set) → c.is_proper_set.result ≡ proper_set c.args.w c.args.last (get_or c.args.self.now c.loop-k.k no_row).echo
unfolding set_of
echo c = c.is_proper_set.ensures ∙ ap (proper_set c.args.w c.args.last) c.set.ensures

init : (c : After-is_proper_set-in-loop-k) →
    c.is_proper_set-in-loop-k.result ≡ proper_set c.args.w c.args.last (get_or c.args.self.now c.loop-k.k no_row).init
unfolding set_of
init c = c.is_proper_set-in-loop-k.ensures ∙ ap (proper_set c.args.w c.args.last) c.set-in-loop-k.ensures

pub returns-then-not-is_proper_set : goal.returns-then-not-is_proper_set
returns-then-not-is_proper_set c =
    let a = c.args in
    let not = sym (echo (goal.at.returns-then-not-is_proper_set c).After-is_proper_set) ∙ c.if-not-is_proper_set.true in
    sym (c.loop-k.invariant ∙ echo_not_proper a.w a.last a.self.now c.loop-k.k (omega (arith, c.len-k-end.ensures)) not)

pub returns-then-not-is_proper_set-2 : goal.returns-then-not-is_proper_set-2
returns-then-not-is_proper_set-2 c =
    let a = c.args in
    let place = (goal.at.returns-then-not-is_proper_set-2 c).After-is_proper_set-in-loop-k in
    let not = sym (init place) ∙ c.if-not-is_proper_set-2.true in
    sym (c.loop-k.invariant ∙ init_not_proper a.w a.last a.self.now c.loop-k.k (omega (arith, c.len-k-end.ensures)) not)

pub loop-k-preserved : goal.loop-k-preserved
loop-k-preserved c =
    let a = c.args in
    let both = goal.at.loop-k-preserved c in
    let first = sym (echo both.After-is_proper_set) ∙ c.if-not-is_proper_set.false in
    let second = sym (init both.After-is_proper_set-in-loop-k) ∙ c.if-not-is_proper_set-2.false in
    c.loop-k.invariant ∙ both_proper a.w a.last a.self.now c.loop-k.k (omega (arith, c.len-k-end.ensures)) first second

pub returns : goal.returns
unfolding proper_rows
returns c =
    let a = c.args in
    let none = none_left a.self.now c.loop-k.k (omega (arith, c.len-k-end.ensures)) in
    sym (c.loop-k.invariant ∙ ap (proper_rows a.w a.last) none)
