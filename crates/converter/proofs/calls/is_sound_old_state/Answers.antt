-- `calls::is_sound_old_state` meets its contract: its tests, one after the other, are the definition's, and a roster in order has as many
-- rows as the rules ask. Old masks have no room for a tick outside the old window, so the rules of today judge the old state.
use mathlib.Core.Path.{◌≡◌, refl, sym, ap, ◌∙◌}
use mathlib.Core.Bool.{Bool, and-eq-true_iff, ◌&&◌}
use mathlib.Core.List.{List}
use Prim.Native.Nat.{ℕ}
use native.Mathlib.Omega.{arith}
use borrow.Author.Tests.{eqb-true}
use lib.Dec.{eqb, leb, lit≤}
use lib.ListN.{get_or}
use Rattle.std.specs.Prelude.{Result, Ok, Err}
use Rattle.std.specs.Result.{is_ok}
use Rattle.std.proofs.Common.{Fits, w8}
use Rattle.forms.specs.Number.{verdict_of}
use Rattle.forms.specs.Roster.{roster_number}
use Rattle.forms.specs.declared.answer.Refusal.{Refusal}
use Rattle.forms.proofs.Told.{refusal}
use Rattle.evidence.specs.Rows.{Row, proper_rows}
use Rattle.evidence.specs.Serials.{serials_in}
use Rattle.evidence.proofs.Encoded.{rows_fit}
use Rattle.evidence.proofs.Wider.{rows_same_test}
use Rattle.rules.specs.Describe.{window, last_tick}
use Rattle.rules.specs.Rules.{first_rule, at_rest}
use Rattle.rules.specs.declared.node.Node.{Node}
use Rattle.node.specs.Image.{node_of, rows_of, state_of, sound_state}
use Rattle.node.specs.Layout.{old_layout, header_size}
use Rattle.node.proofs.Sound.{rows_limits}
use Rattle.node.proofs.Wider.{state_same}
use Rattle.converter.specs.Old.{old_rows}
use Rattle.converter.proofs.calls.is_sound_old_state.Goals.{then-is_ok, else-is_ok}
use Rattle.converter.proofs.calls.is_sound_old_state.Goals.{Joined-has_sound_clock, then-has_sound_clock, else-has_sound_clock}
use Rattle.converter.proofs.calls.is_sound_old_state.Goals as goal

-- the tests of a node and its rows: the roster, the clock, and the sets
abbrev in_order : Node → List Row → Bool
in_order p rows = eqb (roster_number p.faults p.own (serials_in rows)) 0

abbrev clock : Node → Bool
clock p = leb p.mode 1 && (leb p.sent p.tick && leb p.tick last_tick)

-- what is no refusal has number 0
accepted : {T : Type 0} (r : Result T Refusal) → is_ok r ≡ eqb (verdict_of r) 0
accepted (Ok x) = refl
accepted (Err why) = sym (refusal why)

-- the first two tests
front : (c : Joined-has_sound_clock) →
    let p = c.read_node-node.result in
    c.if-is_ok.value ≡ (in_order p c.new-rows.result && clock p)
front c =
    let p = c.read_node-node.result in
    let roster : c.is_ok.result ≡ in_order p c.new-rows.result =
    c.is_ok.ensures.value ∙ accepted c.judge.result
    ∙ ap (λ (n : ℕ). eqb n 0) (c.judge.ensures ∙ ap (roster_number p.faults p.own) c.serials.ensures) in
    elim c.if-is_ok.branch [
      | then-is_ok w ↦ rw (w.value-is, w.has_sound_clock.ensures, sym roster ∙ w.if-is_ok.true)
      | else-is_ok w ↦ rw (w.value-is, sym roster ∙ w.if-is_ok.false, w.if-is_ok.false)
    ]

-- and the third
sets : (c : Joined-has_sound_clock) →
    c.if-has_sound_clock.value ≡ (c.if-is_ok.value && proper_rows window last_tick c.new-rows.result)
sets c =
    elim c.if-has_sound_clock.branch [
      | then-has_sound_clock w ↦ rw (w.value-is, w.are_proper.ensures, w.if-has_sound_clock.true)
      | else-has_sound_clock w ↦ rw (w.value-is, w.if-has_sound_clock.false)
    ]

-- the tests in the code's order are those of the definition
tests : (p : Node) (rows : List Row) (old : List ℕ) (first second : Bool)
    → p ≡ node_of old
    → rows ≡ old_rows p.lines old
    → first ≡ (in_order p rows && clock p)
    → second ≡ (first && proper_rows window last_tick rows)
    → (second && at_rest (first_rule window last_tick rows p)) ≡ sound_state window last_tick (state_of old_layout old)
unfolding sound_state state_of node_of
tests p rows old first second node its e f = rw (f, e, its, node) (grind arith)

-- the rules of today judge an old state as those of the old window did
today : (old : List ℕ) → ((i : ℕ) → Fits w8 (get_or old i 0)) →
    sound_state window last_tick (state_of old_layout old) ≡ sound_state old_layout.window last_tick (state_of old_layout old)
unfolding state_of
today old bytes =
    let fit = rows_fit old_layout.masks (get_or old 0 0) old header_size (λ k. (bytes k).fits) in
    sym
    (state_same old_layout.window window last_tick (lit≤ tt) (state_of old_layout old)
    (rows_same_test old_layout.window window last_tick old_layout.masks (lit≤ tt) refl (rows_of old_layout old) fit))

pub new-rows-requires : goal.new-rows-requires
unfolding node_of
new-rows-requires c = rw c.read_node-node.ensures c.requires

pub is_at_rest-requires : goal.is_at_rest-requires
is_at_rest-requires c =
    let there = (goal.at.is_at_rest-requires c).Joined-has_sound_clock in
    let p = c.read_node-node.result in
    let old = c.args.old.now in
    let all = (and-eq-true_iff _ _).0 (sym (sets there) ∙ c.if-are_proper.true) in
    let two = (and-eq-true_iff _ _).0 (sym (front there) ∙ all.0) in
    let roster = ap (λ (rows : List Row). roster_number p.faults p.own (serials_in rows)) (sym c.new-rows.ensures) ∙ eqb-true _ 0 two.0 in
    omega (arith, rows_limits p.faults p.own old_layout.masks p.lines old header_size roster)

-- so past the third test the rules decide
judged : (c : Joined-has_sound_clock) →
    (c.if-has_sound_clock.value && at_rest (first_rule window last_tick c.new-rows.result c.read_node-node.result))
    ≡ sound_state old_layout.window last_tick (state_of old_layout c.args.old.now)
judged c =
    let old = c.args.old.now in
    tests c.read_node-node.result c.new-rows.result old _ _ c.read_node-node.ensures c.new-rows.ensures (front c) (sets c)
    ∙ today old c.type_inv.old

pub returns-then-are_proper : goal.returns-then-are_proper
returns-then-are_proper c =
    rw (← judged (goal.at.returns-then-are_proper c).Joined-has_sound_clock, c.if-are_proper.true) c.is_at_rest.ensures

pub returns-else-are_proper : goal.returns-else-are_proper
returns-else-are_proper c = rw (← judged (goal.at.returns-else-are_proper c).Joined-has_sound_clock, c.if-are_proper.false)
