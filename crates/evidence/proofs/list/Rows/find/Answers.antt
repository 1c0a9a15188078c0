-- `list::Rows::find` meets its contract: the place among all rows is the place among the rows left, as many further on as were passed.
use mathlib.Core.Path.{sym, ap, ◌∙◌}
use mathlib.Core.List.{List}
use Prim.Native.Nat.{◌+◌}
use native.Mathlib.Omega.{arith}
use lib.ListN.{drop}
use Rattle.evidence.specs.Holders.{place_of}
use Rattle.evidence.specs.Rows.{Row}
use Rattle.evidence.proofs.Columns.{further, further_none, further_one}
use Rattle.evidence.proofs.Lists.{place_here, place_next, none_left}
use Rattle.evidence.proofs.list.Rows.find.Goals as goal

pub loop-k-init : goal.loop-k-init
loop-k-init c = sym (further_none (place_of c.args.serial c.args.self.now))

pub returns-then-serial : goal.returns-then-serial
returns-then-serial c =
    let k = c.loop-k.k in
    let here = place_here c.args.serial c.args.self.now k (omega (arith, c.len-k-end.ensures)) (sym c.serial.ensures ∙ c.if-serial.true) in
    sym (c.loop-k.invariant ∙ ap (further k) here ∙ omega arith)

pub loop-k-preserved : goal.loop-k-preserved
loop-k-preserved c =
    let k = c.loop-k.k in
    let next =
    place_next c.args.serial c.args.self.now k (omega (arith, c.len-k-end.ensures))
    (λ e. c.if-serial.false (c.serial.ensures ∙ e)) in
    c.loop-k.invariant ∙ ap (further k) next ∙ further_one k (place_of c.args.serial (drop (k + 1) c.args.self.now))

pub returns : goal.returns
unfolding place_of
returns c =
    let rows = c.args.self.now in
    let none = none_left rows c.loop-k.k (omega (arith, c.len-k-end.ensures)) in
    sym (c.loop-k.invariant ∙ ap (λ (rs : List Row). further c.loop-k.k (place_of c.args.serial rs)) none)
