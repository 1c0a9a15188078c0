-- The node image (01, "Layouts" and "One delivery"): bytes to node and back, and when an image is sound, each for any layout.
use Rattle.std.specs.Prelude.{ℕ, ◌≤◌, ◌<◌, List, Bool, not, ◌&&◌, length, get_or, ltb, leb, eqb}
use Rattle.fields.specs.Field.{field, put_field, words}
use Rattle.forms.specs.Roster.{most_lines, roster_number}
use Rattle.evidence.specs.Serials.{serials_in}
use Rattle.evidence.specs.Rows.{Row, row_size, rows_at, put_rows, proper_rows}
use Rattle.rules.specs.Rules.{first_rule, at_rest}
use Rattle.rules.specs.Delivery.{State}
use Rattle.rules.specs.declared.node.Node.{Node}
use Rattle.node.specs.Layout.{header_size, image_size}
use Rattle.node.specs.declared.layout.Layout.{Layout}

-- where mode, own serial, k and last echo sent stand in it
abbrev pub mode_place : ℕ
mode_place = 2

abbrev pub own_place : ℕ
own_place = 4

abbrev pub tick_place : ℕ
tick_place = 8

abbrev pub sent_place : ℕ
sent_place = 12

-- ---- bytes to node

-- Header: 0 n; 1 f; 2 mode; 4..7 own serial; 8..11 k; 12..15 last echo sent
unfoldable pub node_of : List ℕ → Node
node_of b =
    record {
      lines = get_or b 0 0;
      faults = get_or b 1 0;
      own = field 4 b own_place;
      mode = get_or b mode_place 0;
      tick = field 4 b tick_place;
      sent = field 4 b sent_place;
    }

-- the rows, from behind the header on
abbrev pub rows_of : Layout → List ℕ → List Row
rows_of L b = rows_at L.masks (get_or b 0 0) b header_size

-- their serials
abbrev pub roster_in : Layout → List ℕ → List ℕ
roster_in L b = words (get_or b 0 0) (row_size L.masks) b header_size

unfoldable pub state_of : Layout → List ℕ → State
state_of L b = record { node = node_of b; rows = rows_of L b }

-- a node with the rows that an image's bytes hold for it
abbrev pub state_with : Layout → Node → List ℕ → State
state_with L p b = record { node = p; rows = rows_at L.masks p.lines b header_size }

-- ---- node to bytes

-- a header can be written: there is room, and its numbers fit their bytes
pub record Writable (p : Node) (b : List ℕ) : Type 0 where
  pub inside : header_size ≤ length b
  pub lines : p.lines ≤ most_lines
  pub faults : p.faults < 256
  pub mode : p.mode < 256

-- what a delivery changes in the header
unfoldable pub put_clock_bytes : List ℕ → Node → List ℕ
put_clock_bytes b p = put_field 4 (put_field 4 (put_field 1 b mode_place p.mode) tick_place p.tick) sent_place p.sent

-- byte 3; 16..17 offset of the rows (32); 18..19 whole size; 20..31 zero
unfoldable pub put_fixed_bytes : Layout → List ℕ → ℕ → List ℕ
put_fixed_bytes L b n =
    let marked = put_field 1 b 3 L.mark in
    let sized = put_field 2 (put_field 2 marked 16 header_size) 18 (image_size L n) in
    put_field 4 (put_field 4 (put_field 4 sized 20 0) 24 0) 28 0

unfoldable pub put_node_bytes : Layout → List ℕ → Node → List ℕ
put_node_bytes L b p =
    put_clock_bytes (put_field 4 (put_field 1 (put_field 1 (put_fixed_bytes L b p.lines) 0 p.lines) 1 p.faults) own_place p.own) p

-- a whole image over the front of a buffer; bytes behind its size stay
unfoldable pub put_state : Layout → List ℕ → State → List ℕ
put_state L b s = put_rows L.masks (put_node_bytes L b s.node) header_size s.rows

-- ---- a sound image

-- the fixed header values
unfoldable pub fixed_header : Layout → List ℕ → Bool
fixed_header L b =
    eqb (get_or b 3 0) L.mark && (eqb (field 2 b 16) header_size && (eqb (field 2 b 18) (image_size L (get_or b 0 0))
    && (eqb (field 4 b 20) 0 && (eqb (field 4 b 24) 0 && eqb (field 4 b 28) 0))))

-- a roster that 2, 21, 3, 4 and 5 would accept, mode 0 or 1, last echo ≤ k ≤ last tick, proper sets, and no rule that can fire
unfoldable pub sound_state : ℕ → ℕ → State → Bool
sound_state w last s =
    eqb (roster_number s.node.faults s.node.own (serials_in s.rows)) 0
    && (leb s.node.mode 1 && (leb s.node.sent s.node.tick && (leb s.node.tick last
    && (proper_rows w last s.rows && at_rest (first_rule w last s.rows s.node)))))

-- buffer not shorter than 32 nor than its stated size, and the fixed header values
unfoldable pub headed : Layout → List ℕ → Bool
headed L b = not (ltb (length b) header_size) && (not (ltb (length b) (field 2 b 18)) && fixed_header L b)

-- number 8: buffer shorter than 32 or than its stated size, or image not sound
unfoldable pub sound_image : Layout → ℕ → List ℕ → Bool
sound_image L last b = headed L b && sound_state L.window last (state_of L b)
