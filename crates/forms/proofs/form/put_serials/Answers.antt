-- `form::put_serials` meets its contract: to store the serials from line k on into what is there is to store them all into what was.
use mathlib.Core.Path.{◌≡◌, sym, ap, ap₂, ◌∙◌}
use mathlib.Core.List.{List}
use Prim.Native.Nat.{ℕ, ◌+◌, ◌*◌, ◌≤◌, ◌<◌}
use native.Mathlib.Nat.{add-zero}
use native.Mathlib.Numerals.{add-one}
use native.Mathlib.Omega.{arith}
use lib.ListN.{length, get_or, drop, drop_of_length-le}
use lib.Seq.{drop-cons}
use Rattle.fields.specs.Field.{put_field, put_words}
use Rattle.forms.proofs.form.put_serials.Goals as goal

-- one turn: with the serial on line k stored, the lines behind it are what is left to store
store_step : (out : List ℕ) (i k : ℕ) (serials : List ℕ) → k < length serials →
    put_words 4 (put_field 4 out (i + 4 * k) (get_or serials k 0)) (i + 4 * (k + 1)) (drop (k + 1) serials)
    ≡ put_words 4 out (i + 4 * k) (drop k serials)
unfolding put_words
store_step out i k serials p =
    let next : i + 4 * (k + 1) ≡ i + 4 * k + 4 = omega arith in
    ap₂ (put_words 4 (put_field 4 out (i + 4 * k) (get_or serials k 0))) next (ap (λ (n : ℕ). drop n serials) (add-one k))
    ∙ ap (put_words 4 out (i + 4 * k)) (sym (drop-cons serials k 0 p))

-- past the last line nothing is left to store
store-end : (out : List ℕ) (i k : ℕ) (serials : List ℕ) → length serials ≤ k → put_words 4 out i (drop k serials) ≡ out
unfolding put_words
store-end out i k serials p = ap (put_words 4 out i) (drop_of_length-le serials p)

pub loop-k-init : goal.loop-k-init
loop-k-init c = simp add-zero

pub loop-k-preserved : goal.loop-k-preserved
loop-k-preserved c =
    let a = c.args in
    let l = c.loop-k in
    ap (λ (out : List ℕ). put_words 4 out (a.i + 4 * (l.k + 1)) (drop (l.k + 1) a.serials.now)) c.put_word.ensures
    ∙ store_step l.out a.i l.k a.serials.now c.loop-k-test.true
    ∙ l.invariant

pub returns : goal.returns
returns c =
    let a = c.args in
    let l = c.loop-k in
    sym (store-end l.out (a.i + 4 * l.k) l.k a.serials.now c.loop-k-test.false) ∙ l.invariant
