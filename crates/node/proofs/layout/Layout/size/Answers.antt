-- `Layout::size` meets its contract: rows of at most 522 bytes, at most 255 of them, are no great number.
use borrow.Author.Rules.{rules}
use Prim.Native.Nat.{ℕ, ◌+◌, ◌*◌, ◌≤◌, ◌<◌}
use native.Mathlib.Nat.{mul-le-mul_right}
use native.Mathlib.Omega.{arith}
use Rattle.node.proofs.layout.Layout.size.Goals as goal

all-rows : (n masks : ℕ) → n < 256 → masks < 256 → n * (4 + 2 * (4 + masks)) ≤ 255 * 522
all-rows n masks p q = omega (arith, mul-le-mul_right (4 + 2 * (4 + masks)) few)
  where
    few : n ≤ 255
    few = omega arith

pub overflow_mul-result : goal.overflow_mul-result
overflow_mul-result c =
    let a = c.args in
    omega (arith, all-rows a.n a.self.masks c.requires (search rules))

pub overflow_add-result : goal.overflow_add-result
overflow_add-result c =
    let a = c.args in
    omega (arith, all-rows a.n a.self.masks c.requires (search rules))
