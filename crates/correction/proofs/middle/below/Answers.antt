-- `middle::below` meets its contract: the loop goes from the last reading to the first, and has counted those from its place on.
use Rattle.std.proofs.Common.{◌≡◌, ◌-◌, ◌≤◌, Bool, true, false, cond, get_or, ℤ, sym, refl, ap, ◌∙◌, arith, w64, to_z, of_z}
use Rattle.std.proofs.lemmas.Int.{ints}
use mir.Val.{bool_byte}
use lib.Signed.{lt_z}
use Rattle.correction.specs.Counter.{difference}
use Rattle.correction.proofs.Steps.{below_end, below_step}
use Rattle.correction.proofs.middle.below.Goals as goal

byte : (t : Bool) → bool_byte t ≡ cond t 1 0
byte true = refl
byte false = refl

few : (t : Bool) → cond t 1 0 ≤ 1
few true = omega arith
few false = omega arith

pub loop-place-init : goal.loop-place-init
loop-place-init c =
    let a = c.args in
    (omega arith, sym (below_end a.expected a.readings.now (to_z w64 (of_z w64 a.d))))

pub loop-place-preserved : goal.loop-place-preserved
loop-place-preserved c =
    let a = c.args in
    let l = c.loop-place in
    let d = to_z w64 (of_z w64 a.d) in
    let here = difference (get_or a.readings.now (l.place - 1) 0) a.expected in
    let read : to_z w64 (of_z w64 c.difference.result) ≡ here = omega (arith, ints, c.difference.ensures) in
    let one : c.from-found.result ≡ cond (lt_z here d) 1 0 =
    c.from-found.ensures ∙ ap (λ (z : ℤ). bool_byte (lt_z z d)) read ∙ byte (lt_z here d) in
    let step = below_step a.expected a.readings.now l.place c.loop-place-test.true l.auto.place d in
    (omega (arith, one, few (lt_z here d)), omega (arith, one, step))
