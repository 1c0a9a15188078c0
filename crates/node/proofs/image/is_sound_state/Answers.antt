-- `image::is_sound_state` meets its contract: its tests, one after the other, are the definition's, and a roster in order has as many rows
-- as the rules ask.
use mathlib.Core.Path.{◌≡◌, refl, sym, ap, ◌∙◌}
use mathlib.Core.Bool.{Bool, and-eq-true_iff, ◌&&◌}
use mathlib.Core.List.{List}
use Prim.Native.Nat.{ℕ}
use native.Mathlib.Omega.{arith}
use borrow.Author.Tests.{eqb-true}
use lib.Dec.{eqb, leb}
use lib.ListN.{length}
use Rattle.std.specs.Prelude.{Result, Ok, Err}
use Rattle.std.specs.Result.{is_ok}
use Rattle.forms.specs.Number.{verdict_of}
use Rattle.forms.specs.Roster.{roster_number}
use Rattle.forms.specs.declared.answer.Refusal.{Refusal}
use Rattle.forms.proofs.Told.{refusal}
use Rattle.sets.specs.Sets.{mask_bytes}
use Rattle.evidence.specs.Rows.{Row, rows_at, proper_rows}
use Rattle.evidence.specs.Serials.{serials_in}
use Rattle.evidence.proofs.Layouts.{length_rows}
use Rattle.rules.specs.Describe.{window, last_tick}
use Rattle.node.specs.Image.{state_with, sound_state}
use Rattle.node.specs.Layout.{layout, header_size}
use Rattle.rules.specs.Rules.{first_rule, at_rest}
use Rattle.rules.specs.declared.node.Node.{Node}
use Rattle.node.proofs.Sound.{rows_limits}
use Rattle.node.proofs.image.is_sound_state.Goals.{Joined-is_ok, then-is_ok, else-is_ok}
use Rattle.node.proofs.image.is_sound_state.Goals.{Joined-has_sound_clock, then-has_sound_clock, else-has_sound_clock}
use Rattle.node.proofs.image.is_sound_state.Goals as goal

-- the rows that the bytes hold for a node
abbrev held : Node → List ℕ → List Row
held p b = rows_at mask_bytes p.lines b header_size

-- the tests of a node and its bytes: the roster, the clock, and the sets
abbrev in_order : Node → List ℕ → Bool
in_order p b = eqb (roster_number p.faults p.own (serials_in (held p b))) 0

abbrev clock : Node → Bool
clock p = leb p.mode 1 && (leb p.sent p.tick && leb p.tick last_tick)

abbrev proper : Node → List ℕ → Bool
proper p b = proper_rows window last_tick (held p b)

-- what is no refusal has number 0
accepted : {T : Type 0} (r : Result T Refusal) → is_ok r ≡ eqb (verdict_of r) 0
accepted (Ok x) = refl
accepted (Err why) = sym (refusal why)

-- the first two tests
front : (c : Joined-is_ok) → let a = c.args in c.if-is_ok.value ≡ (in_order a.node a.b.now && clock a.node)
front c =
    let p = c.args.node in
    let b = c.args.b.now in
    let serials = c.serials.ensures ∙ ap serials_in c.new-rows.ensures in
    let number = c.judge.ensures ∙ ap (roster_number p.faults p.own) serials in
    let roster : c.is_ok.result ≡ in_order p b =
    c.is_ok.ensures.value ∙ accepted c.judge.result ∙ ap (λ (n : ℕ). eqb n 0) number in
    elim c.if-is_ok.branch [
      | then-is_ok w ↦ rw (w.value-is, w.has_sound_clock.ensures, sym roster ∙ w.if-is_ok.true)
      | else-is_ok w ↦ rw (w.value-is, sym roster ∙ w.if-is_ok.false, w.if-is_ok.false)
    ]

-- and the third
sets : (c : Joined-has_sound_clock) → let a = c.args in c.if-has_sound_clock.value ≡ (c.if-is_ok.value && proper a.node a.b.now)
sets c =
    elim c.if-has_sound_clock.branch [
      | then-has_sound_clock w ↦ rw (w.value-is, w.are_proper.ensures, c.new-rows.ensures, w.if-has_sound_clock.true)
      | else-has_sound_clock w ↦ rw (w.value-is, w.if-has_sound_clock.false)
    ]

-- the tests in the code's order are those of the definition
tests : (p : Node) (b : List ℕ) (first second : Bool)
    → first ≡ (in_order p b && clock p)
    → second ≡ (first && proper p b)
    → (second && at_rest (first_rule window last_tick (held p b) p)) ≡ sound_state window last_tick (state_with layout p b)
unfolding sound_state
tests p b first second e f = rw (f, e) (grind arith)

pub rule-requires : goal.rule-requires
rule-requires c =
    let p = c.args.node in
    let b = c.args.b.now in
    let all = (and-eq-true_iff _ _).0 (sym (sets (goal.at.rule-requires c).Joined-has_sound_clock) ∙ c.if-are_proper.true) in
    let two = (and-eq-true_iff _ _).0 (sym (front (goal.at.rule-requires c).Joined-is_ok) ∙ all.0) in
    let limits = rows_limits p.faults p.own mask_bytes p.lines b header_size (eqb-true _ 0 two.0) in
    record {
      lines = ap length c.new-rows.ensures ∙ length_rows mask_bytes p.lines b header_size;
      fewer = omega (arith, limits);
    }

pub returns-then-are_proper : goal.returns-then-are_proper
returns-then-are_proper c =
    let a = c.args in
    let first = front (goal.at.returns-then-are_proper c).Joined-is_ok in
    let second = sets (goal.at.returns-then-are_proper c).Joined-has_sound_clock in
    rw (← tests a.node a.b.now _ _ first second, c.if-are_proper.true, ← c.new-rows.ensures, ← c.rule.ensures) c.is_at_rest.ensures

pub returns-else-are_proper : goal.returns-else-are_proper
returns-else-are_proper c =
    let a = c.args in
    let first = front (goal.at.returns-else-are_proper c).Joined-is_ok in
    let second = sets (goal.at.returns-else-are_proper c).Joined-has_sound_clock in
    rw (← tests a.node a.b.now _ _ first second, c.if-are_proper.false)
