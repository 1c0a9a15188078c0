-- A sound image, condition by condition in the paper's words (01, "One delivery" and row 8 of "Numbers given back", and 02, A7), as plain
-- propositions: no test but `holds` of the sets, and no count. proofs/Conditions.antt shows that `sound_image` decides just this.
use Rattle.std.specs.Prelude.{◌≡◌, ◌≢◌, ℕ, ◌≤◌, ◌<◌, length, get_or}
use mathlib.Core.List.{List, Memᴰ}
use Rattle.fields.specs.Field.{field}
use Rattle.forms.specs.Table.{◌or◌, Beyond, Understated, HasZero, Twice, Stranger}
use Rattle.sets.specs.Ticks.{Held, bit}
use Rattle.evidence.specs.Rows.{Row}
use Rattle.evidence.specs.Serials.{serials_in}
use Rattle.rules.specs.Which.{R1, R2, R3, R4, R5}
use Rattle.node.specs.Image.{node_of, rows_of}
use Rattle.node.specs.Layout.{image_size, header_size}
use Rattle.node.specs.declared.layout.Layout.{Layout}

-- a set as a sound image may hold it
pub record SoundSet (w last : ℕ) (s : Held) : Type 0 where
  -- its top at most the last tick
  pub bounded : s.top ≤ last
  -- bit 0 set in a mask that isn't 0
  pub lowest : s.mask ≢ 0 → bit s.mask 0 ≡ 1
  -- top 0 where the mask is 0
  pub empty : s.mask ≡ 0 → s.top ≡ 0
  -- no bit i above its top: there is no tick top - i
  pub in_top : (i : ℕ) → bit s.mask i ≡ 1 → i ≤ s.top
  -- and none outside the window. (Where a mask has as many bits as the window ticks, there is no room for one)
  pub in_window : (i : ℕ) → bit s.mask i ≡ 1 → i < w

pub record SoundImage (L : Layout) (last : ℕ) (b : List ℕ) : Type 0 where
  -- image buffer not shorter than 32, nor than its stated size
  pub header : header_size ≤ length b
  pub stated : field 2 b 18 ≤ length b
  -- the fixed header values: byte 3; the offset of the rows; the whole size of n rows; bytes 20..31 zero
  pub mark : get_or b 3 0 ≡ L.mark
  pub offset : field 2 b 16 ≡ header_size
  pub size : field 2 b 18 ≡ image_size L (node_of b).lines
  pub zeros : (i : ℕ) → 20 ≤ i → i < header_size → get_or b i 0 ≡ 0
  -- a roster that 2, 21, 3, 4 and 5 would accept
  pub limits : Beyond (node_of b).lines (node_of b).faults → ⊥
  pub full : Understated (node_of b).lines (node_of b).faults → ⊥
  pub no_zero : HasZero (node_of b).own (serials_in (rows_of L b)) → ⊥
  pub no_twin : Twice (serials_in (rows_of L b)) → ⊥
  pub own_listed : Stranger (node_of b).own (serials_in (rows_of L b)) → ⊥
  -- mode 0 or 1
  pub mode : ((node_of b).mode ≡ 0) or ((node_of b).mode ≡ 1)
  -- last echo ≤ k ≤ last tick
  pub sent : (node_of b).sent ≤ (node_of b).tick
  pub tick : (node_of b).tick ≤ last
  -- the two sets of each row
  pub echoes : (row : Row) → Memᴰ row (rows_of L b) → SoundSet L.window last row.echo
  pub inits : (row : Row) → Memᴰ row (rows_of L b) → SoundSet L.window last row.init
  -- no rule that can fire
  pub no_R1 : R1 L.window last (rows_of L b) (node_of b) → ⊥
  pub no_R2 : R2 L.window last (rows_of L b) (node_of b) → ⊥
  pub no_R3 : R3 L.window last (rows_of L b) (node_of b) → ⊥
  pub no_R4 : (l : ℕ) → R4 L.window last (rows_of L b) (node_of b) l → ⊥
  pub no_R5 : (x : ℕ) → R5 L.window last (rows_of L b) (node_of b) x → ⊥
