-- `image::read_node` meets its contract: each field of the node is read where the header has it.
use native.Mathlib.Omega.{arith}
use Rattle.node.specs.Image.{node_of}
use Rattle.node.proofs.image.read_node.Goals as goal

pub overflow_cast-result : goal.overflow_cast-result
overflow_cast-result c = omega (arith, c.type_inv.b 0)

pub overflow_cast-result-2 : goal.overflow_cast-result-2
overflow_cast-result-2 c = omega (arith, c.type_inv.b 1)

pub overflow_cast-result-3 : goal.overflow_cast-result-3
overflow_cast-result-3 c = omega (arith, c.type_inv.b 2)

pub returns : goal.returns
unfolding node_of
returns c = rw (c.word.ensures, c.word-2.ensures, c.word-3.ensures)
