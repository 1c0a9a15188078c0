-- `image::put_node` meets its contract: n and f are bytes, and the stores, one after the other, are the definition's.
use native.Mathlib.Omega.{arith}
use lib.ListN.{set}
use Rattle.node.specs.Image.{put_fixed_bytes, put_node_bytes}
use Rattle.node.specs.Layout.{layout}
use Rattle.fields.proofs.Fields.{put_byte}
use Rattle.node.proofs.image.put_node.Goals as goal

pub returns : goal.returns
unfolding put_node_bytes
returns c =
    let a = c.args in
    let fixed = put_fixed_bytes layout a.b.now a.node.lines in
    rw (
      put_byte fixed 0 a.node.lines (omega arith),
      put_byte (set fixed 0 a.node.lines) 1 a.node.faults (omega arith),
      c.put_clock.ensures,
      c.put_word.ensures,
      c.put_fixed.ensures,
      c.in_service.ensures,
    )
