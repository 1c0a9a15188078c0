-- `field::put` meets its contract: each byte written is the next one of the number.
use mathlib.Core.Path.{◌≡◌, refl, sym, ap, ap₂, ◌∙◌}
use mathlib.Core.List.{List}
use Prim.Native.Nat.{ℕ, ◌+◌, ◌-◌, ◌*◌, ◌/◌, ◌%◌, ◌^◌, ◌<◌}
use native.Mathlib.Omega.{arith}
use lib.ListN.{set}
use lib.Pow.{shr-shr}
use Rattle.fields.specs.Field.{put_field}
use Rattle.fields.proofs.Fields.{put_step}
use Rattle.fields.proofs.field.put.Goals as goal

-- one byte more of the number behind those written
more : (w k : ℕ) (b : List ℕ) (i v : ℕ) → k < w →
    set (put_field k b i (v / 2 ^ (8 * (w - k)))) (i + k) (v / 2 ^ (8 * (w - 1 - k)) % 256)
    ≡ put_field (k + 1) b i (v / 2 ^ (8 * (w - (k + 1))))
more w k b i v p =
    ap₂ (λ (x e : ℕ). set (put_field k b i x) (i + k) (v / 2 ^ (8 * e) % 256)) upper next
    ∙ sym (put_step k b i (v / 2 ^ (8 * (w - (k + 1)))))
  where
    next : w - 1 - k ≡ w - (k + 1)
    next = omega arith

    upper : v / 2 ^ (8 * (w - k)) ≡ v / 2 ^ (8 * (w - (k + 1))) / 256
    upper =
        let e : 8 * (w - k) ≡ 8 * (w - (k + 1)) + 8 = omega arith in
        ap (λ (n : ℕ). v / 2 ^ n) e ∙ sym (shr-shr v (8 * (w - (k + 1))) 8)

pub loop-k-init : goal.loop-k-init
unfolding put_field
loop-k-init g c = refl

pub loop-k-preserved : goal.loop-k-preserved
loop-k-preserved g c =
    let a = c.args in
    let l = c.loop-k in
    ap (λ (b : List ℕ). set b (a.i + l.k) (a.v / 2 ^ (8 * (g.row.W - 1 - l.k)) % 256)) l.invariant
    ∙ more g.row.W l.k a.b.now a.i a.v (omega arith)
