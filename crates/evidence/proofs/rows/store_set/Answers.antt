-- `rows::store_set` meets its contract: its two fields are written where they stand.
use mathlib.Core.Path.{ap, ◌∙◌}
use mathlib.Core.List.{List}
use Prim.Native.Nat.{ℕ, ◌+◌}
use Rattle.fields.specs.Field.{put_field}
use Rattle.sets.specs.Sets.{mask_bytes, mask_by}
use Rattle.evidence.specs.Rows.{put_set}
use Rattle.evidence.proofs.rows.store_set.Goals as goal

pub returns : goal.returns
unfolding put_set
returns c =
    let a = c.args in
    c.put.ensures
    ∙ ap (λ (l : List ℕ). put_field mask_bytes l (a.i + 4) (mask_by a.s.mask))
    c.put_word.ensures
