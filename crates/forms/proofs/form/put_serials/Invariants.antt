-- `form::put_serials` meets its contract: to store the serials from line k on into what is there is to store them all into what was.
use mathlib.Core.Path.{◌≡◌}
use Prim.Native.Nat.{◌+◌, ◌*◌}
use lib.ListN.{drop}
use Rattle.fields.specs.Field.{put_words}
use Rattle.forms.proofs.form.put_serials.Given as goal

abbrev pub invariant-loop-k : goal.invariant-loop-k
invariant-loop-k l = put_words 4 l.out (l.i + 4 * l.k) (drop l.k l.serials) ≡ put_words 4 l.initial.out l.i l.serials
