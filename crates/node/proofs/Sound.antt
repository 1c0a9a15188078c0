-- A sound state and a sound image as facts: the tests say just these; and of its roster, that every serial stands once and f is below n.
-- Assumes nothing.
use mathlib.Core.Path.{◌≡◌, subst}
use mathlib.Core.Bool.{true, and-eq-true_iff}
use mathlib.Core.List.{List}
use Prim.Native.Nat.{ℕ, ◌≤◌}
use native.Mathlib.Omega.{arith}
use lib.ListN.{length, get_or}
use borrow.Author.Tests.{ltb-false, le-ltb, leb-true, le-leb, eqb-true, eq-eqb, not-true}
use Rattle.fields.specs.Field.{field, words}
use Rattle.forms.specs.Column.{count}
use Rattle.forms.specs.Roster.{roster_number}
use Rattle.forms.proofs.Columns.{count_once}
use Rattle.forms.proofs.Rosters.{Limits, roster_limits, roster_twins}
use Rattle.fields.proofs.Words.{length_words}
use Rattle.sets.specs.Sets.{mask_bytes}
use Rattle.evidence.specs.Rows.{row_size, row_bytes, rows_at}
use Rattle.evidence.specs.Serials.{serials_in}
use Rattle.evidence.proofs.Growth.{AllKept, all_kept, all_kept_test}
use Rattle.evidence.proofs.Layouts.{serials_of_rows}
use Rattle.rules.specs.Delivery.{State}
use Rattle.node.specs.Image.{own_place, roster_in}
use Rattle.node.specs.Layout.{layout, header_size, image_size}
use Rattle.node.specs.declared.layout.Layout.{Layout}
use Rattle.node.specs.Image.{node_of, state_of, fixed_header, headed, sound_state, sound_image}
use Rattle.rules.specs.Rules.{first_rule}
use Rattle.rules.specs.declared.node.Rule.TheVariants.{Rest}
use Rattle.rules.proofs.Firing.{rest_true}
use Rattle.node.proofs.Images.{six_true, fixed_facts}
use Rattle.rules.specs.Steps.{rows_from, RowsIn}
use Rattle.rules.specs.Describe.{window}

-- ---- a sound state and a sound image, as facts

pub record Sound (w last : ℕ) (s : State) : Type 0 where
  pub roster : roster_number s.node.faults s.node.own (serials_in s.rows) ≡ 0
  pub mode : s.node.mode ≤ 1
  pub sent : s.node.sent ≤ s.node.tick
  pub tick : s.node.tick ≤ last
  pub sets : AllKept w last s.rows
  pub rest : first_rule w last s.rows s.node ≡ Rest

pub record SoundBytes (L : Layout) (last : ℕ) (b : List ℕ) : Type 0 where
  pub header : header_size ≤ length b
  pub stated : field 2 b 18 ≤ length b
  pub fixed : fixed_header L b ≡ true
  pub node : Sound L.window last (state_of L b)

module _ (w last : ℕ) (s : State) where
  pub sound_node : sound_state w last s ≡ true → Sound w last s
  unfolding sound_state
  sound_node e =
      let t = six_true e in
      record {
        roster = eqb-true _ _ t.0;
        mode = leb-true _ _ t.1;
        sent = leb-true _ _ t.2;
        tick = leb-true _ _ t.3;
        sets = all_kept w last s.rows t.4;
        rest = rest_true _ t.5;
      }

  pub node_sound : Sound w last s → sound_state w last s ≡ true
  unfolding sound_state
  node_sound h =
      rw (
        eq-eqb _ 0 h.roster,
        le-leb _ 1 h.mode,
        le-leb _ _ h.sent,
        le-leb _ last h.tick,
        all_kept_test w last s.rows h.sets,
        h.rest,
      )

-- what the header's test says
pub record Headed (L : Layout) (b : List ℕ) : Type 0 where
  pub header : header_size ≤ length b
  pub stated : field 2 b 18 ≤ length b
  pub fixed : fixed_header L b ≡ true

pub headed_facts : (L : Layout) (b : List ℕ) → headed L b ≡ true → Headed L b
unfolding headed
headed_facts L b e =
    let header = (and-eq-true_iff _ _).0 e in
    let stated = (and-eq-true_iff _ _).0 header.1 in
    record {
      header = ltb-false _ _ (not-true _ header.0);
      stated = ltb-false _ _ (not-true _ stated.0);
      fixed = stated.1;
    }

module _ (L : Layout) (last : ℕ) (b : List ℕ) where
  pub sound_bytes : sound_image L last b ≡ true → SoundBytes L last b
  unfolding sound_image
  sound_bytes e =
      let parts = (and-eq-true_iff (headed L b) (sound_state L.window last (state_of L b))).0 e in
      let head = headed_facts L b parts.0 in
      record {
        header = head.header;
        stated = head.stated;
        fixed = head.fixed;
        node = sound_node L.window last (state_of L b) parts.1;
      }

  pub bytes_sound : SoundBytes L last b → sound_image L last b ≡ true
  unfolding sound_image headed
  bytes_sound h =
      rw (
        le-ltb (length b) header_size h.header,
        le-ltb (length b) (field 2 b 18) h.stated,
        h.fixed,
        node_sound L.window last (state_of L b) h.node,
      )

-- ---- the rows lie inside the stated size, which is what n says

pub rows_inside : (L : Layout) (b : List ℕ) → fixed_header L b ≡ true → field 2 b 18 ≤ length b → image_size L (get_or b 0 0) ≤ length b
rows_inside L b e p = subst (λ (n : ℕ). n ≤ length b) (fixed_facts L b e).size p

-- ---- a roster in order

-- f and n are within the limits
pub roster_lines : (f own n s : ℕ) (b : List ℕ) (i : ℕ) → roster_number f own (words n s b i) ≡ 0 → Limits f n
roster_lines f own n s b i z = rw (length_words n s b i) at (roster_limits f own (words n s b i) z)

-- the same of rows, whose serials are such a column
module _ (f own mb n : ℕ) (b : List ℕ) (i : ℕ) (z : roster_number f own (serials_in (rows_at mb n b i)) ≡ 0) where
  rows_roster : roster_number f own (words n (row_size mb) b i) ≡ 0
  rows_roster = rw (serials_of_rows mb n b i) at z

  pub rows_limits : Limits f n
  rows_limits = roster_lines f own n (row_size mb) b i rows_roster

-- ---- what a sound image gives to a delivery

module _ (last : ℕ) (b : List ℕ) (h : SoundBytes layout last b) where
  sound_roster : roster_number (get_or b 1 0) (field 4 b own_place) (roster_in layout b) ≡ 0
  unfolding state_of node_of
  sound_roster = rows_roster (get_or b 1 0) (field 4 b own_place) mask_bytes (get_or b 0 0) b header_size h.node.roster

  sound_limits : Limits (get_or b 1 0) (get_or b 0 0)
  sound_limits = roster_lines (get_or b 1 0) (field 4 b own_place) (get_or b 0 0) row_bytes b header_size sound_roster

  pub sound_rows : RowsIn (node_of b) b header_size
  unfolding node_of
  sound_rows = record { inside = rows_inside layout b h.fixed h.stated; fewer = omega (arith, sound_limits) }

  pub sound_once : (port : ℕ) → count port (roster_in layout b) ≤ 1
  sound_once port = count_once port (roster_in layout b) (roster_twins (get_or b 1 0) (field 4 b own_place) (roster_in layout b) sound_roster)

  pub sound_rest : first_rule window last (rows_from (node_of b) b header_size) (node_of b) ≡ Rest
  unfolding state_of node_of
  sound_rest = h.node.rest
