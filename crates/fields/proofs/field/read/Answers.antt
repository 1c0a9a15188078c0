-- `field::read` meets its contract: each byte read is one more of the field, and a field is as wide as its bytes.
use mathlib.Core.Path.{◌≡◌, refl, sym, ap, ◌∙◌, subst}
use mathlib.Core.List.{List}
use Prim.Native.Nat.{ℕ, ◌+◌, ◌*◌, ◌^◌, ◌<◌}
use native.Mathlib.Omega.{arith}
use lib.ListN.{get_or}
use Rattle.fields.specs.Field.{field, Bytes}
use Rattle.fields.proofs.Fields.{field_lt, field_fits, field_step}
use Rattle.fields.proofs.field.read.Goals as goal

grown : (b : List ℕ) (i k v : ℕ) → Bytes b → k < 8 → v ≡ field k b i → v * 256 + get_or b (i + k) 0 < 2 ^ 64
grown b i k v h p e = omega (arith, e, field_step k b i, field_fits (k + 1) b i (omega arith) h)

pub loop-k-init : goal.loop-k-init
unfolding field
loop-k-init g c = refl

pub overflow_mul-v : goal.overflow_mul-v
overflow_mul-v g c =
    let a = c.args in
    let l = c.loop-k in
    record { fits = omega (arith, grown a.b.now a.i l.k l.v (λ k. (c.type_inv.b k).fits) (omega arith) l.invariant) }

pub overflow_add-v-in-loop-k : goal.overflow_add-v-in-loop-k
overflow_add-v-in-loop-k g c =
    let a = c.args in
    let l = c.loop-k in
    record { fits = grown a.b.now a.i l.k l.v (λ k. (c.type_inv.b k).fits) (omega arith) l.invariant }

pub loop-k-preserved : goal.loop-k-preserved
loop-k-preserved g c =
    let a = c.args in
    let l = c.loop-k in
    ap (λ (v : ℕ). v * 256 + get_or a.b.now (a.i + l.k) 0) l.invariant ∙ sym (field_step l.k a.b.now a.i)

pub returns-clause-bound : goal.returns-clause-bound
returns-clause-bound g c =
    let a = c.args in
    let l = c.loop-k in
    let all : g.row.W ≡ l.k = omega arith in
    subst (λ (n : ℕ). l.v < 256 ^ n) (sym all)
    (subst (λ (v : ℕ). v < 256 ^ l.k) (sym l.invariant) (field_lt l.k a.b.now a.i (λ k. (c.type_inv.b k).fits)))
