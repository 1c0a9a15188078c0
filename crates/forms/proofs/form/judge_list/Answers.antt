-- `form::judge_list` meets its contract: more serials than the limits allow are refused, and as many words as they allow read back.
use mathlib.Core.Path.{sym}
use Prim.Native.Nat.{◌*◌}
use native.Mathlib.Omega.{arith}
use lib.ListN.{replicate}
use lib.Dec.{lit≤}
use Rattle.forms.specs.Roster.{most_lines}
use Rattle.forms.proofs.Rosters.{roster_two}
use Rattle.fields.proofs.Words.{words_put_words}
use Rattle.forms.proofs.form.judge_list.Goals as goal

pub returns-then-n-gt-MOST_LINES : goal.returns-then-n-gt-MOST_LINES
returns-then-n-gt-MOST_LINES c = let a = c.args in sym (roster_two a.f a.own a.serials.now (omega arith))

pub returns : goal.returns
returns c =
    let a = c.args in
    let serials = a.serials.now in
    let known = c.type_inv.serials in
    rw (
      c.judge.ensures,
      c.new.ensures,
      c.put_serials.ensures,
      words_put_words 4 (replicate (most_lines * 4) 0) 0 serials (lit≤ tt) (omega arith) (λ k. omega (arith, known k)),
    )
