-- The bytes written so far are those of the number without its bytes that are left.
use mathlib.Core.Path.{◌≡◌}
use Prim.Native.Nat.{◌-◌, ◌*◌, ◌/◌, ◌^◌}
use Rattle.fields.specs.Field.{put_field}
use Rattle.fields.proofs.field.put.Given as goal

abbrev pub invariant-loop-k : goal.invariant-loop-k
invariant-loop-k g l = (l.b ≡ put_field l.k l.initial.b l.i (l.v / 2 ^ (8 * (l.k-end - l.k))))
