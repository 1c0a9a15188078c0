-- `frame::has_known_head` meets its contract: the three cases of the kind.
use mathlib.Core.Path.{refl, sym}
use mathlib.Core.Bool.{or-false}
use lib.Dec.{eqb}
use borrow.Author.Tests.{ne_eqb}
use Rattle.fields.specs.Kind.{INIT, ECHO}
use Rattle.forms.specs.Frame.{BROADCAST}
use Rattle.forms.proofs.frame.has_known_head.Goals as goal

pub returns-then-kind-eq-INIT : goal.returns-then-kind-eq-INIT
returns-then-kind-eq-INIT c = rw c.if-kind-eq-INIT.true (sym (or-false (eqb c.args.flag BROADCAST)))

pub returns-then-kind-eq-ECHO : goal.returns-then-kind-eq-ECHO
returns-then-kind-eq-ECHO c = rw c.if-kind-eq-ECHO.true refl

pub returns : goal.returns
returns c =
    let kind = c.args.kind in
    rw (ne_eqb kind INIT c.if-kind-eq-INIT.false, ne_eqb kind ECHO c.if-kind-eq-ECHO.false)
