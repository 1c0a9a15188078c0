-- `Node::jump_or_wake` meets its contract: each search tells the tick that R4 or R5 takes, or that there is none; and where too few tops
-- reach above k + 1, there is none to jump to.
use mathlib.Core.Path.{◌≡◌, refl, sym, ◌∙◌}
use Prim.Native.Nat.{◌+◌}
use native.Mathlib.Omega.{arith}
use borrow.Author.Tests.{eq-eqb, ne_eqb, leb-false}
use lib.Dec.{leb}
use Rattle.fields.specs.Kind.{ECHO}
use Rattle.search.specs.Tops.{many_tops}
use Rattle.search.proofs.Found.{none_reached}
use Rattle.rules.specs.Describe.{window}
use Rattle.rules.specs.Rules.{jump_to}
use Rattle.rules.proofs.node.Node.jump_or_wake.Goals.{Joined-is_reached, then-is_reached+in_default, else-is_reached}
use Rattle.rules.proofs.node.Node.jump_or_wake.Goals as goal

-- past the first search, or without it, there is no tick to jump to
no_jump : (c : Joined-is_reached) → jump_to window c.args.self c.args.rows.now ≡ 0
no_jump c =
    let a = c.args in
    let p = a.self in
    let tops = many_tops (leb (p.tick + 2)) ECHO a.rows.now in
    elim c.if-is_reached.branch [
      | then-is_reached+in_default w ↦ sym (rw c.enough-enough.ensures at w.in_default.ensures)
      | else-is_reached w ↦
          let few = leb-false c.enough-enough.result tops (sym c.is_reached.ensures ∙ w.if-is_reached.false) in
          none_reached window ECHO (p.faults + 1) (p.tick + 2) a.rows.now (omega (arith, few))
    ]

pub returns-in-Some-find_greatest : goal.returns-in-Some-find_greatest
returns-in-Some-find_greatest c =
    let past = (goal.at.returns-in-Some-find_greatest c).Joined-is_reached in
    rw (no_jump past, eq-eqb c.args.self.mode 0 c.if-self-eq0.true, ← c.enough-enough.ensures, ← c.in-Some-find_greatest.ensures) refl

pub returns-in_default-find_greatest : goal.returns-in_default-find_greatest
returns-in_default-find_greatest c =
    let past = (goal.at.returns-in_default-find_greatest c).Joined-is_reached in
    rw (no_jump past, eq-eqb c.args.self.mode 0 c.if-self-eq0.true, ← c.enough-enough.ensures, ← c.in_default-find_greatest.ensures) refl

pub returns-else-self-eq0 : goal.returns-else-self-eq0
returns-else-self-eq0 c =
    let past = (goal.at.returns-else-self-eq0 c).Joined-is_reached in
    rw (no_jump past, ne_eqb c.args.self.mode 0 c.if-self-eq0.false)
