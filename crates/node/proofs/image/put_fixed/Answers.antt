-- `image::put_fixed` meets its contract: its six stores, one after the other, are the definition's.
use Rattle.node.specs.Image.{put_fixed_bytes}
use Rattle.fields.proofs.Fields.{put_byte}
use borrow.Author.Rules.{rules}
use Rattle.node.proofs.image.put_fixed.Goals as goal

pub returns : goal.returns
unfolding put_fixed_bytes
returns c =
    let a = c.args in
    rw (
      put_byte a.b.now 3 a.layout.mark (search rules),
      c.put_word-3.ensures,
      c.put_word-2.ensures,
      c.put_word.ensures,
      c.put_half-2.ensures,
      c.size.ensures,
      c.put_half.ensures,
    )
