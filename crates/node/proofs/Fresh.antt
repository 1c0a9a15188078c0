-- A fresh node is sound: nothing is held, so no rule can fire.
-- Assumes nothing.
use mathlib.Core.Path.{◌≡◌, refl, ap, ap₂, ◌∙◌}
use mathlib.Core.Logic.{inl}
use mathlib.Core.Bool.{Bool, true, false, cond}
use mathlib.Core.List.{List, [], ◌∷◌}
use Prim.Native.Nat.{ℕ, ◌+◌, ◌-◌, ◌<◌}
use native.Mathlib.Omega.{arith}
use borrow.Author.Tests.{lt-leb}
use lib.ListN.{length, length-map}
use lib.Dec.{eqb}
use lib.Pow.{pow_pos}
use Rattle.fields.specs.Kind.{INIT, ECHO}
use Rattle.fields.proofs.Words.{length_words}
use Rattle.forms.specs.Form.{lines_of, serials_place, serials_of}
use Rattle.forms.specs.Roster.{roster_number}
use Rattle.sets.specs.Ticks.{empty, holds}
use Rattle.evidence.specs.Rows.{set_of}
use Rattle.evidence.specs.Serials.{serials_in}
use Rattle.evidence.specs.Holders.{holders, greatest}
use Rattle.evidence.proofs.Greatest.{greatest_none}
use Rattle.evidence.proofs.Growth.{Kept, AllKept}
use Rattle.sets.proofs.Members.{bare}
use Rattle.rules.specs.Describe.{fresh_node, fresh_rows}
use Rattle.rules.specs.Rules.{first_rule}
use Rattle.rules.specs.declared.node.Rule.TheVariants.{Rest}
use Rattle.forms.proofs.Rosters.{roster_limits}
use Rattle.node.specs.Calls.{fresh_state}
use Rattle.node.proofs.Sound.{Sound}

fresh_serials : (serials : List ℕ) → serials_in (fresh_rows serials) ≡ serials
unfolding fresh_rows
fresh_serials [] = refl
fresh_serials (x ∷ xs) = ap (λ (l : List ℕ). x ∷ l) (fresh_serials xs)

-- the fresh node of a form has a row for each of its lines
pub fresh_lines : (form : List ℕ) → length (fresh_state form).rows ≡ lines_of form
unfolding fresh_state fresh_rows
fresh_lines form = length-map (serials_of form) _ ∙ length_words (lines_of form) 4 form serials_place

empty_kept : (w last : ℕ) → Kept w last empty
empty_kept w last =
    record { bounded = omega arith; good = record { narrow = pow_pos w; low = pow_pos (0 + 1); shape = inl (refl, refl) } }

fresh_kept : (w last : ℕ) (serials : List ℕ) → AllKept w last (fresh_rows serials)
unfolding fresh_rows
fresh_kept w last [] = tt
fresh_kept w last (x ∷ xs) = ((empty_kept w last, empty_kept w last), fresh_kept w last xs)

-- nothing is held
fresh_held : (w kind t : ℕ) (serials : List ℕ) → holders w kind t (fresh_rows serials) ≡ 0
unfolding holders fresh_rows set_of
fresh_held w kind t [] = refl
fresh_held w kind t (x ∷ xs) = ap₂ ◌+◌ (go (eqb kind ECHO)) (fresh_held w kind t xs)
  where
    go : (e : Bool) → holds w (cond e empty empty) t ≡ 0
    go true = bare w empty refl t
    go false = bare w empty refl t

fresh_none : (w kind m low : ℕ) (serials : List ℕ) → greatest w kind m low (fresh_rows serials) ≡ 0
fresh_none w kind m low serials = greatest_none w kind m low (fresh_rows serials) (λ t p q r. omega (arith, fresh_held w kind t serials))

-- so no rule can fire
fresh_rest :
    (w last f own : ℕ) (serials : List ℕ)
    → f < length serials
    → first_rule w last (fresh_rows serials) (fresh_node (length serials) f own) ≡ Rest
unfolding first_rule
fresh_rest w last f own serials p =
    rw (
      fresh_held w INIT 0 serials,
      fresh_held w ECHO 0 serials,
      lt-leb (f + 1) 0 (omega arith),
      lt-leb (length serials - f) 0 (omega arith),
      fresh_none w ECHO (f + 1) 2 serials,
      fresh_none w INIT (f + 1) 0 serials,
    )

pub fresh_sound :
    (w last f own : ℕ) (serials : List ℕ)
    → roster_number f own serials ≡ 0
    → Sound w last (record { node = fresh_node (length serials) f own; rows = fresh_rows serials })
fresh_sound w last f own serials e =
    record {
      roster = ap (roster_number f own) (fresh_serials serials) ∙ e;
      mode = omega arith;
      sent = omega arith;
      tick = omega arith;
      sets = fresh_kept w last serials;
      rest = fresh_rest w last f own serials (omega (arith, (roster_limits f own serials e).2));
    }
