use Rattle.std.proofs.Common.{length, arith, refl, sym, ◌∙◌}
use Rattle.std.proofs.lemmas.Slice.{put_mid-paste}
use Rattle.text.proofs.Lays.{lay_paste}
use Rattle.text.proofs.put.put_bytes.Goals as goal

pub returns : goal.returns
returns c =
    let bytes = c.args.bytes.now in
    put_mid-paste _ _ _ _ bytes (length bytes) c.copy_from_slice.ensures.after (omega arith) refl ∙ sym (lay_paste _ _ _)
