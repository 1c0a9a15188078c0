-- Laws of a node that settles, firing by firing: what is said so far with what settling says from here on is what settling says from the
-- start.
use mathlib.Core.Path.{◌≡◌, refl, sym, ap, ◌∙◌}
use mathlib.Core.Bool.{false}
use mathlib.Core.List.{List, ◌++◌}
use Prim.Native.Nat.{ℕ, suc, ◌+◌, ◌*◌, ◌≤◌}
use native.Mathlib.Nat.{add-zero}
use native.Mathlib.Omega.{arith}
use lib.ListN.{length, length-append}
use Rattle.evidence.specs.Rows.{Row}
use Rattle.rules.specs.Describe.{window, last_tick, most_firings}
use Rattle.rules.specs.Record.{record_size, put_records}
use Rattle.rules.specs.Rules.{Settled, still, first_rule, at_rest, fired, said, settle}
use Rattle.rules.specs.Steps.{SettledAs}
use Rattle.rules.specs.declared.node.Node.{Node}
use Rattle.rules.specs.declared.node.Rule.{Rule}
use Rattle.rules.proofs.Firing.{said_few, Same, same_trans, fired_same, settle_fires}
use Rattle.rules.proofs.Records.{length_put_records, put_records_none, put_records_behind}

-- at most c firings of p over these rows
abbrev pub from : List Row → ℕ → Node → Settled
from rows c p = settle window last_tick rows c p

-- where a turn begins: a node, its count of records and of firings, and what may still fire, against those of the start; and its first rule
pub record Settling (rows : List Row) (start : ℕ) (out₀ : List ℕ) (p₀ : Node) (out : List ℕ) (p : Node) (n m left : ℕ) (rule : Rule) :
    Type 0
  where
    pub node : (from rows left p).node ≡ (from rows most_firings p₀).node
    pub count : n + length (from rows left p).records ≡ start + length (from rows most_firings p₀).records
    pub bytes :
        put_records out (record_size * n) (from rows left p).records
        ≡ put_records out₀ (record_size * start) (from rows most_firings p₀).records
    pub firings : m + (from rows left p).firings ≡ (from rows most_firings p₀).firings
    pub few : n ≤ start + m
    pub whole : m + left ≡ most_firings
    pub same : Same p p₀
    pub space : length out ≡ length out₀
    pub first : rule ≡ first_rule window last_tick rows p

module _
    {rows : List Row} {start : ℕ} {out₀ : List ℕ} {p₀ : Node} {out : List ℕ} {p : Node} {n m left : ℕ} {rule : Rule}
    (h : Settling rows start out₀ p₀ out p n m left rule)
  where
    -- at rest all is said
    pub ended :
        from rows left p ≡ still p
        → SettledAs (from rows most_firings p₀) start out₀ (record { node = p; records = n; fired = m }) out
    ended e =
        record {
          node = sym (ap (λ (s : Settled). s.node) e) ∙ h.node;
          allowed = omega (arith, h.whole);
          fired = sym (add-zero m) ∙ sym (ap (λ (s : Settled). m + s.firings) e) ∙ h.firings;
          sent =
              record {
                records = sym (add-zero n) ∙ sym (ap (λ (s : Settled). n + length s.records) e) ∙ h.count;
                few = omega arith;
                bytes =
                    sym (put_records_none out (record_size * n))
                    ∙ sym (ap (λ (s : Settled). put_records out (record_size * n) s.records) e) ∙ h.bytes;
              };
        }

    -- a firing more
    pub fires :
        (rest : ℕ)
        → left ≡ suc rest
        → at_rest rule ≡ false
        → (following : Rule)
        → following ≡ first_rule window last_tick rows (fired p rule)
        → let after = put_records out (record_size * n) (said p rule) in
        Settling rows start out₀ p₀ after (fired p rule) (n + length (said p rule)) (m + 1) rest following
    fires rest l goes following then =
        let e = h.first in
        let first = first_rule window last_tick rows p in
        let next = from rows rest (fired p first) in
        let down = ap (λ (c : ℕ). from rows c p) l ∙ settle_fires window last_tick rows rest p (rw e at goes) in
        let told : (from rows left p).records ≡ said p first ++ next.records = ap (λ (s : Settled). s.records) down in
        rw e
        (record {
          node = sym (ap (λ (s : Settled). s.node) down) ∙ h.node;
          count = omega (arith, ap length told, length-append (said p first) next.records);
          bytes =
              sym (put_records_behind out n (n + length (said p first)) (said p first) next.records refl)
              ∙ ap (put_records out (record_size * n)) (sym told) ∙ h.bytes;
          firings = omega (arith, ap (λ (s : Settled). s.firings) down, h.firings);
          few = omega (arith, said_few p first);
          whole = omega (arith, h.whole);
          same = same_trans (fired_same p first) h.same;
          space = length_put_records out (record_size * n) (said p first) ∙ h.space;
          first = rw e at then;
        })
