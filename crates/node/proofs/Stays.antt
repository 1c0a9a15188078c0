-- A sound node stays sound over a delivery: its roster stays, mode is 0 or 1, last echo ≤ k ≤ last tick, its sets stay proper,
-- and no rule can fire. Few rules fired, so few records were sent, and the room never runs out.
-- Assumes nothing.
use mathlib.Core.Path.{◌≡◌, sym, ap, ap₂, ◌∙◌}
use Prim.Native.Nat.{ℕ, ◌+◌, ◌*◌, ◌≤◌, ◌<◌}
use native.Mathlib.Decide.{dec_le}
use native.Mathlib.Omega.{arith}
use lib.ListN.{length, length-map}
use Rattle.forms.specs.Column.{count as counts}
use Rattle.forms.specs.Roster.{roster_number}
use Rattle.forms.specs.declared.frame.Frame.{Frame}
use Rattle.forms.proofs.Columns.{count_once, count_alone}
use Rattle.forms.proofs.Rosters.{roster_limits, roster_twins, roster_listed}
use Rattle.evidence.specs.Rows.{Row}
use Rattle.evidence.specs.Serials.{serials_in}
use Rattle.evidence.proofs.Growth.{credit_kept, serials_credited}
use Rattle.rules.specs.Delivery.{State, credited, settled, delivered}
use Rattle.rules.specs.Describe.{most_firings}
use Rattle.rules.specs.Rules.{first_rule, settle}
use Rattle.rules.specs.declared.node.Rule.TheVariants.{Rest}
use Rattle.rules.proofs.AtRest.{firings_alone, firings_together, records_alone, records_together}
use Rattle.rules.proofs.AtRest.{delivered_rests, delivered_firings, counter_never_decides}
use Rattle.rules.specs.Clock.{Ordered, Below}
use Rattle.rules.proofs.Clock.{delivered_ordered}
use Rattle.rules.proofs.Sent.{delivered_few, own_few, delivered_below}
use Rattle.node.proofs.Sound.{Sound}

-- ---- one delivery

module _ (w last : ℕ) (s : State) (port : ℕ) (frame : Frame) (wide : 0 < w) where
  -- no record carries a tick above k after it
  pub records_below :
      Sound w last s
      → frame.tick ≤ last
      → let d = delivered w last s port frame in
      Below d.state.node.tick d.records
  records_below h late = delivered_below w last s port frame wide h.sets late (omega arith)

  module _ (count : s.node.lines ≡ length s.rows) (h : Sound w last s) where
    lines : length (serials_in s.rows) ≡ s.node.lines
    lines = length-map s.rows (λ (row : Row). row.serial) ∙ sym count

    many : 3 * s.node.faults + 1 ≤ s.node.lines
    many = omega (arith, (roster_limits s.node.faults s.node.own (serials_in s.rows) h.roster).2, lines)

    -- no serial stands twice
    once : counts port (serials_in s.rows) ≤ 1
    once = count_once port (serials_in s.rows) (roster_twins s.node.faults s.node.own (serials_in s.rows) h.roster)

    -- no rule can fire after it
    rest_after : let d = delivered w last s port frame in first_rule w last d.state.rows d.state.node ≡ Rest
    rest_after = delivered_rests w last s port frame wide many once h.rest

    -- and few did
    pub firings_few :
        let d = delivered w last s port frame in
        (d.firings ≤ firings_alone) × (2 ≤ s.node.lines → d.firings ≤ firings_together)
    firings_few = delivered_firings w last s port frame wide many once h.rest

    -- as many as with any greater counter
    pub firings_all :
        (c : ℕ)
        → most_firings ≤ c
        → settle w last (credited w s port frame) c s.node ≡ settled w last s port frame
    firings_all = counter_never_decides w last s port frame wide many once h.rest

    -- a record for each firing at most, and the answer; a node alone has nobody to answer
    pub records_few :
        (counts port (serials_in s.rows) ≡ 0 → ⊥)
        → let d = delivered w last s port frame in
        (length d.records ≤ records_alone) × (2 ≤ s.node.lines → length d.records ≤ records_together)
    records_few listed = (go (dec_le 2 s.node.lines), together)
      where
        together : 2 ≤ s.node.lines → length (delivered w last s port frame).records ≤ records_together
        together others = omega (arith, firings_few.1 others, delivered_few w last s port frame)

        own : s.node.lines < 2 → port ≡ s.node.own
        own alone =
            count_alone port s.node.own (serials_in s.rows) (omega (arith, lines)) listed
            (roster_listed s.node.faults s.node.own (serials_in s.rows) h.roster)

        go : Dec (2 ≤ s.node.lines) → length (delivered w last s port frame).records ≤ records_alone
        go (yes others) = omega (arith, together others)
        go (no alone) = omega (arith, firings_few.0, own_few w last s port frame (own (omega arith)))

    -- 003's own words: k never falls, active stays active, and the roster stays
    pub ordered_after : frame.tick ≤ last → Ordered last s.node (delivered w last s port frame).state.node
    ordered_after late = delivered_ordered w last s port frame wide h.sets late (omega arith)

    -- a sound state stays sound
    pub sound_after : frame.tick ≤ last → Sound w last (delivered w last s port frame).state
    unfolding delivered
    sound_after late =
        let o = ordered_after late in
        record {
          roster =
              ap₂ (λ (f own : ℕ). roster_number f own (serials_in (credited w s port frame))) o.faults
              o.own
              ∙ ap (roster_number s.node.faults s.node.own) (serials_credited w port frame.kind frame.tick s.rows)
              ∙ h.roster;
          mode = o.mode;
          sent = o.sent;
          tick = o.tick;
          sets = credit_kept w last port frame.kind frame.tick s.rows wide late h.sets;
          rest = rest_after;
        }
