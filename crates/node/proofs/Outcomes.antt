-- What the number of a call decides: with 0 it does what it does, with any other it is a refusal, which tells its number and leaves all
-- else alone. Over the layout and the last tick.
-- Assumes nothing.
use mathlib.Core.Path.{◌≡◌, refl, sym, ap, ◌∙◌}
use mathlib.Core.Bool.{Bool, true, false, cond}
use mathlib.Core.List.{List}
use Prim.Native.Nat.{ℕ}
use borrow.Author.Tests.{eqb-true, eq-eqb, ne_eqb}
use lib.ListN.{length, get_or}
use lib.Dec.{eqb}
use Rattle.fields.specs.Field.{field}
use Rattle.forms.proofs.Meaning.{told}
use Rattle.node.specs.Calls.{Outcome, refused, outcome, boot_number, boot_done, booted, deliver_number, deliver_done, deliver_outcome}
use Rattle.node.specs.Calls.{Reading, read_number, unread, reading}
use Rattle.node.specs.Image.{mode_place, tick_place, node_of, sound_image}
use Rattle.node.specs.declared.layout.Layout.{Layout}
use Rattle.rules.specs.declared.node.Node.{Node}

-- ---- any outcome

module _ (number : ℕ) (image out : List ℕ) (done : Outcome) where
  decides : done.number ≡ 0 → (outcome number image out done).number ≡ number
  decides e = told (λ (o : Outcome). o.number) done (refused number image out) number e refl

  decided : number ≡ 0 → outcome number image out done ≡ done
  decided e = ap (λ (t : Bool). cond t done (refused number image out)) (eq-eqb number 0 e)

  undone : (number ≡ 0 → ⊥) → outcome number image out done ≡ refused number image out
  undone n = ap (λ (t : Bool). cond t done (refused number image out)) (ne_eqb number 0 n)

  -- what is true of what is done, where the number is 0, and of every refusal is true of the outcome
  pub any_outcome :
      (Holds : Outcome → Type 0)
      → (number ≡ 0 → Holds done)
      → ((n : ℕ) → Holds (refused n image out))
      → Holds (outcome number image out done)
  any_outcome Holds taken other = go (eqb number 0) refl
    where
      go : (t : Bool) → eqb number 0 ≡ t → Holds (cond t done (refused number image out))
      go true e = taken (eqb-true number 0 e)
      go false e = other number

  pub either_way :
      (Holds : Outcome → Type 0)
      → Holds done
      → ((n : ℕ) → Holds (refused n image out))
      → Holds (outcome number image out done)
  either_way Holds taken other = any_outcome Holds (λ e. taken) other

-- ---- boot

module _ (L : Layout) (form image out : List ℕ) where
  abbrev boots : ℕ
  boots = boot_number L form (length image) (length out)

  pub boot_told : (booted L form image out).number ≡ boots
  unfolding booted
  boot_told = decides boots image out _ refl

  pub boot_done_lem : boots ≡ 0 → booted L form image out ≡ boot_done L form image out
  unfolding booted
  boot_done_lem e = decided boots image out _ e

  pub boot_refused : (boots ≡ 0 → ⊥) → booted L form image out ≡ refused boots image out
  unfolding booted
  boot_refused n = undone boots image out _ n

-- ---- deliver

module _ (L : Layout) (last : ℕ) (image : List ℕ) (port : ℕ) (frame out : List ℕ) where
  abbrev delivers : ℕ
  delivers = deliver_number L last image port frame (length out)

  pub deliver_told : (deliver_outcome L last image port frame out).number ≡ delivers
  unfolding deliver_outcome
  deliver_told = decides delivers image out _ refl

  pub deliver_done_lem : delivers ≡ 0 → deliver_outcome L last image port frame out ≡ deliver_done L last image port frame out
  unfolding deliver_outcome
  deliver_done_lem e = decided delivers image out _ e

  pub deliver_refused : (delivers ≡ 0 → ⊥) → deliver_outcome L last image port frame out ≡ refused delivers image out
  unfolding deliver_outcome
  deliver_refused n = undone delivers image out _ n

-- ---- read

module _ (L : Layout) (last : ℕ) (image : List ℕ) where
  abbrev reads : ℕ
  reads = read_number L last image

  abbrev answer : Bool → Reading
  answer t = cond t (record { number = 0; clock = field 4 image tick_place }) (unread reads)

  pub read_told : (reading L last image).number ≡ reads
  unfolding reading
  read_told = told (λ (r : Reading). r.number) _ (unread reads) reads refl refl

  pub read_refused : ((reading L last image).number ≡ 0 → ⊥) → reading L last image ≡ unread (reading L last image).number
  unfolding reading
  read_refused n = ap answer (ne_eqb reads 0 (λ e. n (read_told ∙ e))) ∙ ap unread (sym read_told)

  pub read_done : (reading L last image).number ≡ 0 → (reading L last image).clock ≡ (node_of image).tick
  unfolding reading node_of
  read_done ok = ap (λ (t : Bool). (answer t).clock) (eq-eqb reads 0 (sym read_told ∙ ok))

-- two sound images with the same node read the same, be it in two layouts
pub reading_same :
    (L M : Layout) (last : ℕ) (a b : List ℕ)
    → sound_image L last a ≡ true
    → sound_image M last b ≡ true
    → node_of a ≡ node_of b
    → reading L last a ≡ reading M last b
unfolding reading read_number node_of
reading_same L M last a b first second same =
    let mode : get_or a mode_place 0 ≡ get_or b mode_place 0 = ap (λ (p : Node). p.mode) same in
    let clock : field 4 a tick_place ≡ field 4 b tick_place = ap (λ (p : Node). p.tick) same in
    rw (first, second, mode, clock)
