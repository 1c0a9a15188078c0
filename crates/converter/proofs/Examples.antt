-- The converter at work on small images, computed by the checker, from masks of 8 bytes to masks of 16: what a reader can compare with 02,
-- A8.
-- Assumes nothing.
use mathlib.Core.Path.{◌≡◌, refl}
use mathlib.Core.List.{List, [], ◌∷◌}
use Prim.Native.Nat.{ℕ}
use lib.ListN.{take, replicate}
use Rattle.fields.specs.Kind.{INIT}
use Rattle.fields.specs.Field.{field, put_field}
use Rattle.forms.specs.Column.{count, twins}
use Rattle.forms.specs.Roster.{roster_number}
use Rattle.sets.specs.Ticks.{bit, raised, marked, holds, insert, insert_all, run, added, add, proper}
use Rattle.evidence.specs.Holders.{holders, first_down, best_of, best_among, greatest}
use Rattle.evidence.specs.Rows.{set_of, set_at, row_at, rows_at, put_set, put_row_bytes, put_rows}
use Rattle.evidence.specs.Rows.{credit_row, credit_of, credit, proper_set, proper_rows}
use Rattle.rules.specs.Describe.{last_tick, fresh_node, fresh_rows}
use Rattle.rules.specs.Rules.{first_rule}
use Rattle.node.specs.Image.{node_of, rows_of, state_of, put_clock_bytes, put_fixed_bytes, put_node_bytes, put_state}
use Rattle.node.specs.Image.{fixed_header, headed, sound_state, sound_image}
use Rattle.node.specs.Layout.{layout, old_layout, image_size}
use Rattle.node.specs.Runs.{under}
use Rattle.converter.specs.Convert.{Converted, unconverted, conversion_number, converted}

abbrev converts : List ℕ → List ℕ → Converted
converts old image = converted old_layout layout last_tick old image

abbrev word : ℕ → List ℕ → List ℕ
word low more = 0 ∷ 0 ∷ 0 ∷ low ∷ more

-- the 12 zero bytes at the end of a header, and as many zeros as the masks have more
abbrev zeros : List ℕ → List ℕ
zeros more = word 0 (word 0 (word 0 more))

abbrev eight : List ℕ → List ℕ
eight more = word 0 (word 0 more)

-- a header: n = 1, f = 0, active; own serial 11, last echo 4
abbrev header : ℕ → ℕ → ℕ → List ℕ → List ℕ
header mark k size more = 1 ∷ 0 ∷ 1 ∷ mark ∷ word 11 (word k (word 4 (0 ∷ 32 ∷ 0 ∷ size ∷ zeros more)))

-- 11 alone: echo 6 and 4 are held, and init 70 and 7, which is the lowest tick that a window of 64 reaches from there
abbrev image : ℕ → ℕ → List ℕ
image k low = header 0 k 60 (word 11 (word 6 (word 0 (word low (word 70 (128 ∷ 0 ∷ 0 ∷ 0 ∷ word 1 []))))))

-- k is 5, and the lowest bits of the echo mask are 101
abbrev old : List ℕ
old = image 5 5

-- the same in the new layout: byte 3, the size, and 8 zero bytes more in front of each mask
abbrev new : List ℕ → List ℕ
new more =
    header 1 5 76 (word 11 (word 6 (eight (word 0 (word 5 (word 70 (eight (128 ∷ 0 ∷ 0 ∷ 0 ∷ word 1 more))))))))

-- a fresh node of four that declares this many faults, in the old layout
abbrev four : ℕ → List ℕ
four f =
    put_state old_layout (replicate (image_size old_layout 4) 0)
    (record { node = fresh_node 4 f 11; rows = fresh_rows (11 ∷ 22 ∷ 33 ∷ 44 ∷ []) })

record Examples : Type 0 where
  over : Converted
  exactly : Converted
  short : Converted
  again : Converted
  first : Converted
  cut : ℕ
  fires : ℕ
  above : ℕ
  less : ℕ
  full : ℕ

examples :
    ◌≡◌ {A = Examples}
    (record {
      over = converts old (replicate 80 255);
      exactly = converts old (replicate 76 255);
      short = converts old (replicate 75 255);
      again = converts (new []) (replicate 76 255);
      first = converts (new []) [];
      cut = (converts (take 59 old) (replicate 76 255)).number;
      fires = (converts (image 6 5) (replicate 76 255)).number;
      above = (converts (image 5 133) (replicate 76 255)).number;
      less = (converts (four 0) (replicate 208 255)).number;
      full = (converts (four 1) (replicate 208 255)).number;
    })
    (record {
      -- bytes behind the new image stay
      over = record { number = 0; written = 76; image = new (255 ∷ 255 ∷ 255 ∷ 255 ∷ []) };
      exactly = record { number = 0; written = 76; image = new [] };
      -- a byte too little
      short = unconverted 6 (replicate 75 255);
      -- an image of the new layout; and 8 comes before 6
      again = unconverted 8 (replicate 76 255);
      first = unconverted 8 [];
      -- shorter than its stated size; a rule that can fire, since echo 6 is held; bit 7 of a mask whose top is 6
      cut = 8;
      fires = 8;
      above = 8;
      -- n = 4 asks f = 1 (02, A7)
      less = 8;
      full = 0;
    })
unfolding converted conversion_number sound_image headed sound_state fixed_header state_of node_of put_state put_node_bytes put_fixed_bytes put_clock_bytes field put_field
    fresh_rows roster_number count twins rows_at row_at set_at put_rows put_row_bytes put_set proper_rows proper_set proper first_rule set_of holders
    greatest best_among best_of first_down holds bit
examples = refl

-- Held as before: init 70 and 7, and not 6, which only the wider window reaches. The next init 134 would have cost the old window tick 7;
-- the new one keeps it, 127 below
ticks :
    (under 64 (rows_of old_layout old) 11 INIT 7 ≡ 1) × (under 128 (rows_of layout (new [])) 11 INIT 7 ≡ 1)
    × (under 64 (rows_of old_layout old) 11 INIT 6 ≡ 0) × (under 128 (rows_of layout (new [])) 11 INIT 6 ≡ 0)
    × (under 64 (credit 64 11 INIT 134 (rows_of old_layout old)) 11 INIT 7 ≡ 0)
    × (under 128 (credit 128 11 INIT 134 (rows_of layout (new []))) 11 INIT 7 ≡ 1)
unfolding under credit credit_of credit_row add added run insert_all insert raised marked rows_at row_at set_at field set_of holds bit
ticks = (refl, refl, refl, refl, refl, refl)
