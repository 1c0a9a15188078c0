-- `calls::receiver` meets its contract: the tests are those of the definition, one after the other, and the rows of a sound image lie
-- inside the buffer.
use mathlib.Core.Path.{◌≡◌, refl, sym, ap, ◌∙◌}
use mathlib.Core.Bool.{cond}
use native.Mathlib.Omega.{arith}
use lib.Dec.{eqb}
use borrow.Author.Tests.{lt-ltb, le-ltb, ltb-true, ltb-false, eq-eqb, ne_eqb}
use Rattle.std.proofs.lemmas.Result.{err_from_is_err_and}
use Rattle.forms.specs.Column.{count}
use Rattle.sets.specs.Sets.{mask_bytes}
use Rattle.evidence.specs.Serials.{serials_in}
use Rattle.evidence.proofs.Layouts.{serials_of_rows}
use Rattle.node.specs.Calls.{number_before_a_frame}
use Rattle.rules.specs.Describe.{room, last_tick}
use Rattle.node.specs.Image.{node_of, roster_in}
use Rattle.node.specs.Layout.{layout, header_size}
use Rattle.node.proofs.Sound.{sound_bytes, rows_inside}
use Rattle.node.proofs.calls.receiver.Goals.{After-contains}
use Rattle.node.proofs.calls.receiver.Goals as goal

pub returns-then-room-lt-ROOM-clause-number : goal.returns-then-room-lt-ROOM-clause-number
unfolding number_before_a_frame
returns-then-room-lt-ROOM-clause-number c = rw (lt-ltb c.args.room room (omega arith))

pub returns-in_err-node : goal.returns-in_err-node
unfolding number_before_a_frame
returns-in_err-node c =
    let passed = err_from_is_err_and c.from_residual.result c.from_residual.ensures.1 in
    let refused = c.in_err-node.ensures.refused in
    rw (passed.1, passed.2, refused.1) (record { number = rw (le-ltb c.args.room room (omega arith), refused.0); node = tt })

pub new-rows-requires : goal.new-rows-requires
unfolding node_of
new-rows-requires c =
    let sound = c.in_ok-node.ensures.sound in
    let h = sound_bytes layout last_tick c.args.image.now sound.0 in
    rw sound.1 (rows_inside layout c.args.image.now h.fixed h.stated)

-- the column that is looked at is the roster
roster : (c : After-contains) → c.serials.result ≡ roster_in layout c.args.image.now
unfolding node_of
roster c =
    let rows = c.serials.ensures ∙ ap serials_in c.new-rows.ensures in
    rw c.in_ok-node.ensures.sound.1 at
    (rows ∙ serials_of_rows mask_bytes c.in_ok-node.node.lines c.args.image.now header_size)

-- past the tests of room and image the port's place in it decides
counted : (c : After-contains) →
    let a = c.args in
    number_before_a_frame layout last_tick a.image.now a.port a.room ≡ cond (eqb (count a.port c.serials.result) 0) 9 0
unfolding number_before_a_frame
counted c = rw (le-ltb c.args.room room (omega arith), c.in_ok-node.ensures.sound.0, roster c)

pub returns-then-not-contains-clause-number : goal.returns-then-not-contains-clause-number
returns-then-not-contains-clause-number c =
    let times = count c.args.port c.serials.result in
    let none = ltb-false 0 times (sym c.if-not-contains.ensures) in
    rw (counted (goal.at.returns-then-not-contains-clause-number c).After-contains, eq-eqb times 0 (omega arith)) refl

pub returns : goal.returns
returns c =
    let times = count c.args.port c.serials.result in
    let some = ltb-true 0 times (sym c.if-not-contains.ensures) in
    record {
      number = rw (counted (goal.at.returns c).After-contains, ne_eqb times 0 (λ e. omega arith)) refl;
      node = c.in_ok-node.ensures.sound.1;
    }
