-- The test of a sound image decides just the paper's conditions (specs/Sound.antt), for every layout, last tick and list of bytes:
-- number 8 is given exactly where one of them fails.
-- Assumes nothing.
use mathlib.Core.Path.{◌≡◌, refl, sym, ap, ◌∙◌, subst}
use mathlib.Core.Logic.{◌↔◌, inl, inr, ⊎_elim}
use mathlib.Core.Bool.{not}
use mathlib.Core.List.Memᴰ
use mathlib.Core.List.{List, [], ◌∷◌, Memᴰ}
use Prim.Native.Nat.{ℕ, ◌+◌, ◌-◌, ◌≤◌, ◌<◌}
use native.Mathlib.Decide.{dec_lt, ℕ_discrete}
use native.Mathlib.Omega.{arith}
use lib.ListN.{length, get_or}
use Rattle.fields.specs.Field.{field}
use Rattle.fields.proofs.Fields.{field_zero}
use Rattle.fields.proofs.Words.{length_words}
use Rattle.forms.specs.Roster.{roster_number}
use Rattle.forms.specs.Table.{◌or◌, Given, roster_checks}
use Rattle.forms.proofs.Meaning.{Decides, opposite, roster_says}
use Rattle.sets.specs.Ticks.{Held}
use Rattle.sets.proofs.Masks.{bit_zero, bits_below}
use Rattle.evidence.specs.Rows.{Row, row_size}
use Rattle.evidence.specs.Serials.{serials_in}
use Rattle.evidence.proofs.Growth.{Kept, AllKept}
use Rattle.evidence.proofs.Layouts.{serials_of_rows}
use Rattle.rules.specs.declared.node.Rule.TheVariants.{Rest}
use Rattle.rules.proofs.Which.{which_says}
use Rattle.node.specs.Image.{node_of, rows_of, state_of, sound_image}
use Rattle.node.specs.Layout.{header_size}
use Rattle.node.specs.declared.layout.Layout.{Layout}
use Rattle.node.specs.Sound.{SoundSet, SoundImage}
use Rattle.node.proofs.Images.{fixed_facts, fixed_test}
use Rattle.node.proofs.Sound.{SoundBytes, sound_bytes, bytes_sound}

-- ---- sets

set_says : (w last : ℕ) (s : Held) → Kept w last s ↔ SoundSet w last s
set_says w last s = (
  λ h. record {
    bounded = h.bounded;
    lowest = λ n. bit_zero s.mask ∙ ⊎_elim (λ z. absurd (n z.0)) (λ o. o) h.good.shape;
    empty = λ z. ⊎_elim (λ y. y.1) (λ o. absurd (omega arith)) h.good.shape;
    in_top = λ i e. omega (arith, (bits_below s.mask (s.top + 1)).0 h.good.low i e);
    in_window = (bits_below s.mask w).0 h.good.narrow;
  },
  λ h. record {
    bounded = h.bounded;
    good = record {
      narrow = (bits_below s.mask w).1 h.in_window;
      low = (bits_below s.mask (s.top + 1)).1 (λ i e. omega (arith, h.in_top i e));
      shape = elim (ℕ_discrete s.mask 0) [ yes z ↦ inl (z, h.empty z) | no n ↦ inr (sym (bit_zero s.mask) ∙ h.lowest n) ];
    };
  },
)

-- the two sets of each row
abbrev BothSound : ℕ → ℕ → Row → Type 0
BothSound w last row = SoundSet w last row.echo × SoundSet w last row.init

rows_say : (w last : ℕ) (rows : List Row) →
    AllKept w last rows ↔ ((row : Row) → Memᴰ row rows → BothSound w last row)
rows_say w last [] = (λ h row m. absurd (Memᴰ.not-nil m), λ h. tt)
rows_say w last (row ∷ rows) = (
  λ h r m. ⊎_elim
      (λ e. subst (BothSound w last) (sym e) ((set_says w last row.echo).0 h.0.0, (set_says w last row.init).0 h.0.1))
      ((rows_say w last rows).0 h.1 r) (Memᴰ.cases_cons m),
  λ h. let here = h row (Memᴰ.head refl) in (
    ((set_says w last row.echo).1 here.0, (set_says w last row.init).1 here.1),
    (rows_say w last rows).1 (λ r m. h r (Memᴰ.tail m)),
  ),
)

-- ---- the fixed header values

-- the zeros of a header, as three words
zeros_say : (b : List ℕ) →
    ((field 4 b 20 ≡ 0) × (field 4 b 24 ≡ 0) × (field 4 b 28 ≡ 0)) ↔ ((i : ℕ) → 20 ≤ i → i < header_size → get_or b i 0 ≡ 0)
zeros_say b = (
  λ z i p q. elim (dec_lt i 24) [
    | yes l ↦ at 20 i z.0 p l
    | no l ↦ elim (dec_lt i 28) [ yes m ↦ at 24 i z.1 (omega arith) m | no m ↦ at 28 i z.2 (omega arith) q ]
  ],
  λ h. (word 20 h (omega arith) (omega arith), word 24 h (omega arith) (omega arith), word 28 h (omega arith) (omega arith)),
)
  where
    at : (a i : ℕ) → field 4 b a ≡ 0 → a ≤ i → i < a + 4 → get_or b i 0 ≡ 0
    at a i z p q = subst (λ (n : ℕ). get_or b n 0 ≡ 0) (whole a i p) ((field_zero 4 b a).0 z (i - a) (omega arith))
      where
        whole : (a i : ℕ) → a ≤ i → a + (i - a) ≡ i
        whole a i p = omega arith

    word : (a : ℕ) → ((i : ℕ) → 20 ≤ i → i < header_size → get_or b i 0 ≡ 0) → 20 ≤ a → a ≤ 28 → field 4 b a ≡ 0
    word a h p q = (field_zero 4 b a).1 (λ k l. h (a + k) (omega arith) (omega arith))

-- ---- the roster

-- 2, 21, 3, 4 and 5 accept a roster exactly where none of their rows applies
accepted : (n f own : ℕ) (serials : List ℕ) →
    length serials ≡ n →
    (roster_number f own serials ≡ 0) ↔ Given (roster_checks n f own serials) 0
accepted n f own serials e =
    subst (λ (m : ℕ). (roster_number f own serials ≡ 0) ↔ Given (roster_checks m f own serials) 0) e ((roster_says f own serials).exactly 0)

-- an image has a row for each of its n lines
image_lines : (L : Layout) (b : List ℕ) → length (serials_in (rows_of L b)) ≡ (node_of b).lines
unfolding node_of
image_lines L b =
    ap length (serials_of_rows L.masks (get_or b 0 0) b header_size)
    ∙ length_words (get_or b 0 0) (row_size L.masks) b header_size

-- ---- the whole image

mode_says : (m : ℕ) → (m ≤ 1) ↔ ((m ≡ 0) or (m ≡ 1))
mode_says m = (λ p. elim (dec_lt m 1) [ yes q ↦ inl (omega arith) | no q ↦ inr (omega arith) ], ⊎_elim (λ e. omega arith) (λ e. omega arith))

module _ (L : Layout) (last : ℕ) (b : List ℕ) where
  bytes_conditions : SoundBytes L last b → SoundImage L last b
  unfolding state_of node_of
  bytes_conditions h =
      let s = h.node in
      let fixed = fixed_facts L b h.fixed in
      let roster = (accepted _ _ _ _ (image_lines L b)).0 s.roster in
      let sets = (rows_say L.window last (rows_of L b)).0 s.sets in
      let rest = (which_says L.window last (rows_of L b) (node_of b) Rest roster.1.1.1.0).0 s.rest in
      record {
        header = h.header;
        stated = h.stated;
        mark = fixed.mark;
        offset = fixed.offset;
        size = fixed.size;
        zeros = (zeros_say b).0 (fixed.zero₁, fixed.zero₂, fixed.zero₃);
        limits = roster.0;
        full = roster.1.0;
        no_zero = roster.1.1.0;
        no_twin = roster.1.1.1.0;
        own_listed = roster.1.1.1.1.0;
        mode = (mode_says _).0 s.mode;
        sent = s.sent;
        tick = s.tick;
        echoes = λ row m. (sets row m).0;
        inits = λ row m. (sets row m).1;
        no_R1 = rest.0;
        no_R2 = rest.1;
        no_R3 = rest.2;
        no_R4 = rest.3;
        no_R5 = rest.4;
      }

  conditions_bytes : SoundImage L last b → SoundBytes L last b
  unfolding state_of node_of
  conditions_bytes h =
      let zeros = (zeros_say b).1 h.zeros in
      record {
        header = h.header;
        stated = h.stated;
        fixed = fixed_test L b (record {
          mark = h.mark;
          offset = h.offset;
          size = h.size;
          zero₁ = zeros.0;
          zero₂ = zeros.1;
          zero₃ = zeros.2;
        });
        node = record {
          roster = (accepted _ _ _ _ (image_lines L b)).1 (h.limits, (h.full, (h.no_zero, (h.no_twin, (h.own_listed, refl)))));
          mode = (mode_says _).1 h.mode;
          sent = h.sent;
          tick = h.tick;
          sets = (rows_say L.window last (rows_of L b)).1 (λ row m. (h.echoes row m, h.inits row m));
          rest =
              (which_says L.window last (rows_of L b) (node_of b) Rest h.no_twin).1
              (h.no_R1, h.no_R2, h.no_R3, h.no_R4, h.no_R5);
        };
      }

-- the test of a sound image passes exactly where every condition of the paper holds
pub sound_says : (L : Layout) (last : ℕ) (b : List ℕ) → Decides (sound_image L last b) (SoundImage L last b)
sound_says L last b =
    (λ e. bytes_conditions L last b (sound_bytes L last b e), λ h. bytes_sound L last b (conditions_bytes L last b h))

-- number 8
pub not_sound_says : (L : Layout) (last : ℕ) (b : List ℕ) → Decides (not (sound_image L last b)) (SoundImage L last b → ⊥)
not_sound_says L last b = opposite (sound_image L last b) (sound_says L last b)
