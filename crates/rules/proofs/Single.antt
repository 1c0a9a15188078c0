-- The contract of `Node::deliver` allows one outcome: two answers that meet it, with the bytes of image and output, coincide.
-- Assumes nothing.
use mathlib.Core.Path.{◌≡◌, sym, ◌∙◌}
use mathlib.Core.List.{List}
use Prim.Native.Nat.{ℕ}
use Rattle.rules.specs.Delivery.{Delivered}
use Rattle.rules.specs.Steps.{DeliveredAs}
use Rattle.rules.specs.declared.node.Next.{Next}

pub one_delivery :
    (d : Delivered) (b : List ℕ) (i : ℕ) (out : List ℕ) (r r' : Next) (image image' after after' : List ℕ)
    → DeliveredAs d b i out r image after
    → DeliveredAs d b i out r' image' after'
    → (r ≡ r') × (image ≡ image') × (after ≡ after')
one_delivery d b i out r r' image image' after after' h g = (
  λ x.
      record {
        node = (h.node ∙ sym g.node) x;
        records = (h.records ∙ sym g.records) x;
        fired = (h.fired ∙ sym g.fired) x;
      },
  h.rows ∙ sym g.rows,
  h.bytes ∙ sym g.bytes,
)
