-- `calls::try_read` meets its contract: the tests are those of the definition, and a sound image's node is the one in its bytes.
use mathlib.Core.Path.{◌≡◌, sym, ap, ◌∙◌}
use Prim.Native.Nat.{ℕ}
use lib.ListN.{get_or}
use borrow.Author.Tests.{eq-eqb, ne_eqb}
use Rattle.std.proofs.lemmas.Result.{err_from_is_err_and}
use Rattle.rules.specs.declared.node.Node.{Node}
use Rattle.node.specs.Calls.{Reading, read_number, reading}
use Rattle.node.specs.Image.{mode_place, node_of}
use Rattle.node.proofs.calls.try_read.Goals.{In_ok-node}
use Rattle.node.proofs.calls.try_read.Goals as goal

pub returns-in_err-node : goal.returns-in_err-node
unfolding reading read_number
returns-in_err-node c =
    let passed = err_from_is_err_and c.from_residual.result c.from_residual.ensures.1 in
    let refused = c.in_err-node.ensures.refused in
    rw (passed.1, passed.2, refused.1, refused.0)

-- the node's mode is that of the bytes
mode : (c : In_ok-node) → c.in_ok-node.node.mode ≡ get_or c.args.image.now mode_place 0
unfolding node_of
mode c = ap (λ (p : Node). p.mode) c.in_ok-node.ensures.sound.1

pub returns-then-node-eq0 : goal.returns-then-node-eq0
unfolding reading read_number
returns-then-node-eq0 c =
    let passive = eq-eqb _ 0 (sym (mode (goal.at.returns-then-node-eq0 c).In_ok-node) ∙ c.if-node-eq0.true) in
    rw (c.in_ok-node.ensures.sound.0, passive)

-- what is told with number 0 is the clock
told : {k n : ℕ} → k ≡ n → ◌≡◌ {A = Reading} (record { number = 0; clock = k }) (record { number = 0; clock = n })
told e d = record { number = 0; clock = e d }

pub returns : goal.returns
unfolding reading read_number node_of
returns c =
    let sound = c.in_ok-node.ensures.sound in
    let active = ne_eqb _ 0 (λ e. c.if-node-eq0.false (mode (goal.at.returns c).In_ok-node ∙ e)) in
    rw (sound.0, active) (told (ap (λ (p : Node). p.tick) sound.1))
