-- `image::put_clock` meets its contract: its three stores, one after the other, are the definition's.
use Rattle.node.specs.Image.{put_clock_bytes}
use Rattle.fields.proofs.Fields.{put_byte}
use Rattle.node.proofs.image.put_clock.Goals as goal

pub returns : goal.returns
unfolding put_clock_bytes
returns c =
    let a = c.args in
    rw (
      put_byte a.b.now 2 a.node.mode c.requires.1,
      c.put_word-2.ensures,
      c.put_word.ensures,
    )
