-- A state that is sound in a window is sound in every wider one, and the same is held there under each serial: all that a wider window
-- could add is a bit outside the narrower one, which no proper set has. So the narrow test is the wide one, and a look at the sets
-- (02, A8).
-- Assumes nothing.
use mathlib.Core.Path.{◌≡◌, refl, sym, ap, ap₂, ◌∙◌}
use mathlib.Core.Bool.{Bool, true, false, cond, ◌&&◌, and-false, and-eq-true_iff}
use mathlib.Core.List.{List, [], ◌∷◌}
use Prim.Native.Nat.{ℕ, ◌+◌, ◌≤◌}
use lib.Dec.{eqb}
use Rattle.sets.proofs.Wider.{holds_wider}
use Rattle.evidence.specs.Rows.{Row, set_of, proper_rows}
use Rattle.evidence.proofs.Frames.{both_any}
use Rattle.evidence.proofs.Growth.{Kept, AllKept, all_kept}
use Rattle.evidence.proofs.Wider.{rows_wider}
use Rattle.rules.specs.Delivery.{State}
use Rattle.rules.proofs.Wider.{rule_wider}
use Rattle.node.specs.Image.{sound_state}
use Rattle.node.specs.Runs.{under}
use Rattle.node.proofs.Sound.{Sound, sound_node, node_sound}

module _ (v w last : ℕ) (wider : v ≤ w) where
  -- ---- a sound state

  module _ (s : State) where
    pub state_wider : sound_state v last s ≡ (proper_rows v last s.rows && sound_state w last s)
    unfolding sound_state
    state_wider = go (proper_rows v last s.rows) refl
      where
        go : (t : Bool) → proper_rows v last s.rows ≡ t → sound_state v last s ≡ (t && sound_state w last s)
        go true e = rw (e, rows_wider v w last wider s.rows e, rule_wider v w last wider s.rows e s.node)
        go false e = rw (e, and-false, and-false, and-false, and-false)

    pub sound_wider : sound_state v last s ≡ true → sound_state w last s ≡ true
    sound_wider e = ((and-eq-true_iff (proper_rows v last s.rows) (sound_state w last s)).0 (sym state_wider ∙ e)).1

    -- where both windows judge the sets alike, they judge the state alike
    pub state_same : proper_rows v last s.rows ≡ proper_rows w last s.rows → sound_state v last s ≡ sound_state w last s
    unfolding sound_state
    state_same same = state_wider ∙ go (proper_rows w last s.rows) refl
      where
        go : (t : Bool) → proper_rows w last s.rows ≡ t → (proper_rows v last s.rows && sound_state w last s) ≡ sound_state w last s
        go true e = ap (λ (t : Bool). t && sound_state w last s) (same ∙ e)
        go false e = ap (λ (t : Bool). t && sound_state w last s) (same ∙ e) ∙ sym (none e)
          where
            none : proper_rows w last s.rows ≡ false → sound_state w last s ≡ false
            none e = rw (e, and-false, and-false, and-false, and-false)

    -- the same of the facts
    pub facts_wider : Sound v last s → Sound w last s
    facts_wider h = sound_node w last s (sound_wider (node_sound v last s h))

  -- ---- what is held under a serial

  all_under : (rows : List Row) (serial kind t : ℕ) → AllKept v last rows → under w rows serial kind t ≡ under v rows serial kind t
  unfolding under
  all_under [] serial kind t h = refl
  all_under (row ∷ rows) serial kind t h =
      ap₂ (λ (x y : ℕ). cond (eqb row.serial serial) x 0 + y)
      (holds_wider v w wider (set_of kind row) (both_any (Kept v last) kind row h.0).good t) (all_under rows serial kind t h.1)

  pub under_wider :
      (rows : List Row)
      → proper_rows v last rows ≡ true
      → (serial kind t : ℕ)
      → under w rows serial kind t ≡ under v rows serial kind t
  under_wider rows proper serial kind t = all_under rows serial kind t (all_kept v last rows proper)
