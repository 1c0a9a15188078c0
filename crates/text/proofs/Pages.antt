-- Laws of what is put on a page: nothing, more room or the same text, what two writers put one behind the other, and a whole page.
-- Assumes nothing.
use mathlib.Core.Path.{◌≡◌, refl, ◌∙◌}
use mathlib.Core.List.{List, [], ◌++◌}
use Prim.Native.Nat.{ℕ, ◌+◌, ◌≤◌}
use native.Mathlib.Omega.{arith}
use Rattle.text.specs.Page.{Fits, Wrote}
use Rattle.text.specs.Puts.{Puts}
use Rattle.text.specs.declared.page.Page.{Page}
use Rattle.text.proofs.Puts.{puts_none, puts_as, puts_then}

pub wrote_none : {page : Page} → Wrote page [] 0 page
wrote_none = record { same_output = refl; same_length = refl; puts = puts_none }

module _ {old new : Page} {xs : List ℕ} {r : ℕ} (wrote : Wrote old xs r new) where
  pub wrote_as : {ys : List ℕ} {s : ℕ} → xs ≡ ys → r ≤ s → Wrote old ys s new
  wrote_as same wider =
      record { same_output = wrote.same_output; same_length = wrote.same_length; puts = puts_as same wider wrote.puts }

  pub wrote_then : {next : Page} {ys : List ℕ} {s : ℕ} → Fits old (r + s) → Wrote new ys s next → Wrote old (xs ++ ys) (r + s) next
  wrote_then fits then =
      record {
        same_output = then.same_output ∙ wrote.same_output;
        same_length = then.same_length ∙ wrote.same_length;
        puts = puts_then (omega (arith, wrote.puts)) wrote.puts then.puts;
      }

  -- on a page where nothing stood, it is laid over the front of the output
  pub wrote_from_start : {out left : List ℕ} {size : ℕ} → old.out.now ≡ out → old.len ≡ 0 → size ≡ new.len → left ≡ new.out.now →
      Puts out 0 xs r left size
  wrote_from_start same empty long is =
      record {
        behind = omega (arith, wrote.puts);
        within = omega (arith, wrote.puts);
        left = is ∙ rw (same, empty) at wrote.puts.left;
      }
