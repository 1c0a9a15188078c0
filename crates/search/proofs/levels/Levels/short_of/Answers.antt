-- `Levels::short_of` meets its contract: the six ranks are the bits of what is left of the capacity.
use mathlib.Core.Path.{◌≡◌, refl}
use Prim.Native.Nat.{ℕ, ◌+◌, ◌-◌, ◌*◌, ◌/◌, ◌%◌, ◌<◌}
use native.Mathlib.Omega.{arith}
use Rattle.search.specs.Levels.{capacity, reached}
use Rattle.search.proofs.levels.Levels.short_of.Goals as goal

-- a number below the capacity by its six bits
six : {a b c d e f : ℕ} (v : ℕ) → v < capacity →
    a ≡ v % 2 → b ≡ v / 2 % 2 → c ≡ v / 4 % 2 → d ≡ v / 8 % 2 → e ≡ v / 16 % 2 → f ≡ v / 32 % 2 →
    a + 2 * b + 4 * c + 8 * d + 16 * e + 32 * f ≡ v
six {a} {b} {c} {d} {e} {f} v p pa pb pc pd pe pf =
    join (v / 2) (v / 4) (v / 8) (v / 16) (omega arith) (omega arith) (omega arith) (omega arith) (omega arith)
  where
    join :
        (v2 v4 v8 v16 : ℕ) →
        v ≡ a + 2 * v2 → v2 ≡ b + 2 * v4 → v4 ≡ c + 2 * v8 → v8 ≡ d + 2 * v16 → v16 ≡ e + 2 * f →
        a + 2 * b + 4 * c + 8 * d + 16 * e + 32 * f ≡ v
    join v2 v4 v8 v16 p0 p1 p2 p3 p4 = omega arith

pub returns : goal.returns
unfolding reached
returns c =
    let start = c in
    let v = capacity - start.args.m in
    record {
      short = λ d p.
          omega (
            arith,
            start.requires.1,
            six v (omega arith)
                (c.filled.ensures d p)
                (c.filled-2.ensures d p)
                (c.filled-3.ensures d p)
                (c.filled-4.ensures d p)
                (c.filled-5.ensures d p)
                (c.filled-6.ensures d p),
          );
      none = refl;
    }
