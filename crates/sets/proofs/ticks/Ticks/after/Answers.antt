-- `Ticks::after` meets its contract: its ways are the equations of what a frame adds.
use mathlib.Core.Path.{sym, ap, ◌∙◌}
use Prim.Native.Nat.{◌-◌}
use Rattle.sets.specs.Ticks.{Held, insert}
use Rattle.sets.specs.Sets.{held_by}
use Rattle.sets.proofs.Added.{add_init, add_echo_zero, add_echo_one, add_echo}
use Rattle.sets.proofs.ticks.Ticks.after.Goals as goal

pub returns-then-kind-ne-ECHO : goal.returns-then-kind-ne-ECHO
returns-then-kind-ne-ECHO c =
    let a = c.args in
    c.with-first.ensures ∙ sym (add_init a.w a.kind (held_by a.self) a.j c.if-kind-ne-ECHO.true)

pub returns-then-j-eq0 : goal.returns-then-j-eq0
returns-then-j-eq0 c =
    let a = c.args in
    c.with-first.ensures
    ∙ sym (add_echo_zero a.w a.kind (held_by a.self) a.j c.if-kind-ne-ECHO.false c.if-j-eq0.true)

pub returns-then-j-eq1 : goal.returns-then-j-eq1
returns-then-j-eq1 c =
    let a = c.args in
    c.with-second.ensures
    ∙ ap (λ (s : Held). insert a.w s (a.j - 1)) c.with-first.ensures
    ∙ sym (add_echo_one a.w a.kind (held_by a.self) a.j c.if-kind-ne-ECHO.false c.if-j-eq1.true)

pub returns : goal.returns
returns c =
    let a = c.args in
    let echo = c.if-kind-ne-ECHO.false in
    let first = c.with-first.ensures in
    let second = c.with-second.ensures ∙ ap (λ (s : Held). insert a.w s (a.j - 1)) first in
    c.with.ensures ∙ ap (λ (s : Held). insert a.w s (a.j - 2)) second
    ∙ sym (add_echo a.w a.kind (held_by a.self) a.j echo c.if-j-eq0.false c.if-j-eq1.false)
