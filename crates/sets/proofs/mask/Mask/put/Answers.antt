-- `Mask::put` meets its contract: two words written are the field of a mask.
use mathlib.Core.Path.{sym, ap, ap₂, ◌∙◌}
use mathlib.Core.List.{List}
use Prim.Native.Nat.{ℕ, ◌+◌, ◌/◌, ◌^◌}
use native.Mathlib.Nat.{div-one}
use Rattle.fields.specs.Field.{put_field}
use Rattle.fields.proofs.Fields.{put_mod, put_join}
use Rattle.sets.specs.Sets.{word_bytes, word_bits, mask_by}
use Rattle.sets.proofs.mask.Mask.put.Goals as goal

pub returns : goal.returns
returns c =
    let a = c.args in
    let m = mask_by a.self in
    let high = put_field word_bytes a.b.now a.i (m / 2 ^ word_bits) in
    let upper =
    c.put_long.ensures ∙ ap (put_field word_bytes a.b.now a.i) c.word_at.ensures ∙ put_mod word_bytes a.b.now a.i (m / 2 ^ word_bits) in
    c.put_long-2.ensures
    ∙ ap₂ (λ (l : List ℕ) (x : ℕ). put_field word_bytes l (a.i + word_bytes) x) upper c.word_at-2.ensures
    ∙ put_mod word_bytes high (a.i + word_bytes) (m / 2 ^ 0)
    ∙ ap (put_field word_bytes high (a.i + word_bytes)) (div-one m)
    ∙ sym (put_join word_bytes word_bytes a.b.now a.i m)
