-- The byte level is the list level: an image written reads back as the node that was written, whatever buffer it was written over, what a
-- delivery writes reads back as the node that follows, and a sound image written again is the same bytes. Over the layout.
-- Assumes nothing.
use mathlib.Core.Path.{◌≡◌, refl, sym, ap, ◌∙◌}
use mathlib.Core.Bool.{Bool, true, ◌&&◌, and-eq-true_iff}
use mathlib.Core.List.{List, [], ◌∷◌}
use Prim.Native.Nat.{ℕ, suc, ◌+◌, ◌^◌, ◌≤◌, ◌<◌}
use native.Mathlib.Omega.{arith}
use borrow.Author.Tests.{eq-eqb, eqb-true}
use lib.ListN.{length, get_or, take, drop}
use lib.Dec.{T, ltb, leb, eqb, ltb→lt, leb→le, eqb→eq, lit<, lit≤}
use mir.Facts.{and_yes}
use Rattle.fields.specs.Field.{field, Bytes}
use Rattle.fields.proofs.Fields.{field_byte, field_same, put_field_lem, get_d_put_other}
use Rattle.fields.proofs.Over.{stores_over}
use Rattle.evidence.specs.Rows.{Row, rows_at, put_rows}
use Rattle.evidence.proofs.Layouts.{length_rows, rows_same, put_rows_lem}
use Rattle.evidence.proofs.Encoded.{RowsFit, rows_read_back, length_put_rows, bytes_put_rows, get_d_put_rows_before, get_d_put_rows_after}
use Rattle.evidence.proofs.Over.{rows_over}
use Rattle.rules.specs.Delivery.{State, Delivered}
use Rattle.node.specs.Calls.{image_after}
use Rattle.node.specs.Image.{mode_place, own_place, tick_place, sent_place}
use Rattle.node.specs.Image.{node_of, rows_of, state_of}
use Rattle.node.specs.Layout.{header_size, image_size}
use Rattle.node.specs.declared.layout.Layout.{Layout}
use Rattle.node.specs.Image.{put_clock_bytes, put_fixed_bytes, put_node_bytes, put_state, fixed_header}
use Rattle.rules.specs.declared.node.Node.{Node}
use Rattle.fields.proofs.Stores.{Store, store, put_stores, apart, stored_at, stores_apart}
use Rattle.fields.proofs.Stores.{length_stores, bytes_stores, get_d_above}
use Rattle.sets.specs.Sets.{tick_count}

-- a node whose numbers fit their fields
pub record NodeFits (p : Node) : Type 0 where
  pub lines : p.lines < 256
  pub faults : p.faults < 256
  pub own : p.own < tick_count
  pub mode : p.mode < 256
  pub tick : p.tick < tick_count
  pub sent : p.sent < tick_count

-- a layout whose own numbers fit
pub record Fine (L : Layout) : Type 0 where
  pub mark : L.mark < 256
  pub size : (n : ℕ) → n < 256 → image_size L n < 65536

-- ---- the header, as a run of stores

clock_stores : Node → List Store
clock_stores p = store 1 mode_place p.mode ∷ store 4 tick_place p.tick ∷ store 4 sent_place p.sent ∷ []

node_stores : Layout → Node → List Store
node_stores L p =
    store 1 3 L.mark ∷ store 2 16 header_size ∷ store 2 18 (image_size L p.lines)
    ∷ store 4 20 0 ∷ store 4 24 0 ∷ store 4 28 0
    ∷ store 1 0 p.lines ∷ store 1 1 p.faults ∷ store 4 own_place p.own
    ∷ clock_stores p

clock_stores_lem : (b : List ℕ) (p : Node) → put_clock_bytes b p ≡ put_stores b (clock_stores p)
unfolding put_clock_bytes clock_stores put_stores
clock_stores_lem b p = refl

node_stores_lem : (L : Layout) (b : List ℕ) (p : Node) → put_node_bytes L b p ≡ put_stores b (node_stores L p)
unfolding put_node_bytes put_fixed_bytes put_clock_bytes node_stores clock_stores put_stores
node_stores_lem L b p = refl

length_put_clock : (b : List ℕ) (p : Node) → length (put_clock_bytes b p) ≡ length b
length_put_clock b p = ap length (clock_stores_lem b p) ∙ length_stores b (clock_stores p)

length_put_node : (L : Layout) (b : List ℕ) (p : Node) → length (put_node_bytes L b p) ≡ length b
length_put_node L b p = ap length (node_stores_lem L b p) ∙ length_stores b (node_stores L p)

pub length_put_state : (L : Layout) (b : List ℕ) (s : State) → length (put_state L b s) ≡ length b
unfolding put_state
length_put_state L b s = length_put_rows L.masks _ header_size s.rows ∙ length_put_node L b s.node

pub length_after : (L : Layout) (b : List ℕ) (d : Delivered) → length (image_after L b d) ≡ length b
unfolding image_after
length_after L b d = length_put_clock _ d.state.node ∙ length_put_rows L.masks b header_size d.state.rows

pub bytes_after : (L : Layout) (b : List ℕ) (d : Delivered) → Bytes b → Bytes (image_after L b d)
unfolding image_after
bytes_after L b d h = rw clock_stores_lem (bytes_stores _ _ (bytes_put_rows L.masks b header_size d.state.rows h))

pub bytes_put_state : (L : Layout) (b : List ℕ) (s : State) → Bytes b → Bytes (put_state L b s)
unfolding put_state
bytes_put_state L b s h = bytes_put_rows L.masks _ header_size s.rows (rw node_stores_lem (bytes_stores b _ h))

-- ---- bytes that a header leaves alone

-- a byte that is not of mode, k or last echo
pub get_d_put_clock_other : (b : List ℕ) (p : Node) (j : ℕ) →
    (j ≡ mode_place → ⊥) →
    ((tick_place ≤ j) × (j < tick_place + 4) → ⊥) →
    ((sent_place ≤ j) × (j < sent_place + 4) → ⊥) →
    get_or (put_clock_bytes b p) j 0 ≡ get_or b j 0
unfolding put_clock_bytes
get_d_put_clock_other b p j mode tick sent =
    get_d_put_other 4 _ 12 _ j (λ k q e. sent (omega arith)) ∙ get_d_put_other 4 _ 8 _ j (λ k q e. tick (omega arith))
    ∙ get_d_put_other 1 _ 2 _ j (λ k q e. mode (omega arith))

-- a byte behind the header
pub get_d_put_clock_after : (b : List ℕ) (p : Node) (j : ℕ) → header_size ≤ j → get_or (put_clock_bytes b p) j 0 ≡ get_or b j 0
get_d_put_clock_after b p j far = get_d_put_clock_other b p j (λ e. omega arith) (λ h. omega arith) (λ h. omega arith)

get_d_put_node_after : (L : Layout) (b : List ℕ) (p : Node) (j : ℕ) → header_size ≤ j → get_or (put_node_bytes L b p) j 0 ≡ get_or b j 0
unfolding node_stores clock_stores
get_d_put_node_after L b p j far = rw node_stores_lem (get_d_above b header_size j (node_stores L p) tt far)

-- a byte behind a whole image
pub get_d_put_state_after :
    (L : Layout) (b : List ℕ) (s : State) (j : ℕ)
    → length s.rows ≡ s.node.lines
    → image_size L s.node.lines ≤ j
    → get_or (put_state L b s) j 0 ≡ get_or b j 0
unfolding put_state
get_d_put_state_after L b s j count far =
    get_d_put_rows_after L.masks _ header_size s.rows j (rw count far) ∙ get_d_put_node_after L b s.node j (omega arith)

-- ---- what is written does not depend on what stood there

node_over :
    (L : Layout) (b c : List ℕ) (p : Node)
    → header_size ≤ length b
    → header_size ≤ length c
    → take header_size (put_node_bytes L b p) ≡ take header_size (put_node_bytes L c p)
unfolding node_stores clock_stores
node_over L b c p r s = rw (node_stores_lem L b p, node_stores_lem L c p) (stores_over b c (node_stores L p) header_size tt r s)

pub state_over :
    (L : Layout) (b c : List ℕ) (s : State)
    → length s.rows ≡ s.node.lines
    → image_size L s.node.lines ≤ length b
    → image_size L s.node.lines ≤ length c
    → take (image_size L s.node.lines) (put_state L b s) ≡ take (image_size L s.node.lines) (put_state L c s)
unfolding put_state
state_over L b c s count p q =
    rows_over L.masks (put_node_bytes L b s.node) (put_node_bytes L c s.node) header_size s.rows (image_size L s.node.lines) (rw count refl)
    (omega (arith, length_put_node L b s.node)) (omega (arith, length_put_node L c s.node))
    (node_over L b c s.node (omega arith) (omega arith))

-- ---- a store of a header reads back

module _ (b : List ℕ) (room : header_size ≤ length b) (ss : List Store) (k : ℕ) where
  abbrev s : Store
  s = get_or ss k (store 0 0 0)

  -- store number k lies in the header, and no later one touches it
  abbrev inside : Bool
  inside = leb (s.place + s.width) header_size

  abbrev alone : Bool
  alone = apart s.width s.place (drop (suc k) ss)

  abbrev stands : Bool
  stands = ltb k (length ss) && (inside && alone)

  field_back : T stands → s.value < 256 ^ s.width → field s.width (put_stores b ss) s.place ≡ s.value
  field_back t fits =
      let listed = and_yes (ltb k (length ss)) (inside && alone) t in
      let places = and_yes inside alone listed.1 in
      stored_at b ss k (ltb→lt _ _ listed.0) places.1 (omega (arith, leb→le (s.place + s.width) header_size places.0)) fits

  -- the same of a byte
  byte_back : T (eqb s.width 1 && stands) → s.value < 256 ^ s.width → get_or (put_stores b ss) s.place 0 ≡ s.value
  byte_back t fits =
      let narrow = and_yes (eqb s.width 1) stands t in
      sym (field_byte (put_stores b ss) s.place)
      ∙ ap (λ (w : ℕ). field w (put_stores b ss) s.place) (sym (eqb→eq _ _ narrow.0))
      ∙ field_back narrow.1 fits

-- ---- the fixed values of a header

-- six tests that all pass, as those of a header and of a state
pub six_true :
    {a b c d e f : Bool}
    → (a && (b && (c && (d && (e && f))))) ≡ true
    → (a ≡ true) × (b ≡ true) × (c ≡ true) × (d ≡ true) × (e ≡ true) × (f ≡ true)
six_true t =
    let u = (and-eq-true_iff _ _).0 t in
    let v = (and-eq-true_iff _ _).0 u.1 in
    let w = (and-eq-true_iff _ _).0 v.1 in
    let x = (and-eq-true_iff _ _).0 w.1 in
    let y = (and-eq-true_iff _ _).0 x.1 in
    (u.0, v.0, w.0, x.0, y.0, y.1)

-- as facts
pub record Fixed (L : Layout) (b : List ℕ) : Type 0 where
  pub mark : get_or b 3 0 ≡ L.mark
  pub offset : field 2 b 16 ≡ header_size
  pub size : field 2 b 18 ≡ image_size L (get_or b 0 0)
  pub zero₁ : field 4 b 20 ≡ 0
  pub zero₂ : field 4 b 24 ≡ 0
  pub zero₃ : field 4 b 28 ≡ 0

module _ (L : Layout) (b : List ℕ) where
  pub fixed_facts : fixed_header L b ≡ true → Fixed L b
  unfolding fixed_header
  fixed_facts e =
      let t = six_true e in
      record {
        mark = eqb-true _ _ t.0;
        offset = eqb-true _ _ t.1;
        size = eqb-true _ _ t.2;
        zero₁ = eqb-true _ _ t.3;
        zero₂ = eqb-true _ _ t.4;
        zero₃ = eqb-true _ _ t.5;
      }

  pub fixed_test : Fixed L b → fixed_header L b ≡ true
  unfolding fixed_header
  fixed_test h =
      rw (
        eq-eqb _ _ h.mark,
        eq-eqb _ _ h.offset,
        eq-eqb _ _ h.size,
        eq-eqb _ _ h.zero₁,
        eq-eqb _ _ h.zero₂,
        eq-eqb _ _ h.zero₃,
      )

-- ---- a whole header reads back

module _ (L : Layout) (b : List ℕ) (p : Node) (fine : Fine L) (f : NodeFits p) (room : header_size ≤ length b) where
  abbrev ss : List Store
  ss = node_stores L p

  node_back : node_of (put_node_bytes L b p) ≡ p
  unfolding node_of put_node_bytes put_fixed_bytes put_clock_bytes node_stores clock_stores put_stores
  node_back =
      λ d.
      record {
        lines = byte_back b room ss 6 tt f.lines d;
        faults = byte_back b room ss 7 tt f.faults d;
        own = field_back b room ss 8 tt f.own d;
        mode = byte_back b room ss 9 tt f.mode d;
        tick = field_back b room ss 10 tt f.tick d;
        sent = field_back b room ss 11 tt f.sent d;
      }

  lines_back : get_or (put_node_bytes L b p) 0 0 ≡ p.lines
  unfolding node_of
  lines_back = ap (λ (q : Node). q.lines) node_back

  fixed_back : Fixed L (put_node_bytes L b p)
  unfolding put_node_bytes put_fixed_bytes put_clock_bytes node_stores clock_stores put_stores
  fixed_back =
      record {
        mark = byte_back b room ss 0 tt fine.mark;
        offset = field_back b room ss 1 tt (lit< tt);
        size = field_back b room ss 2 tt (fine.size p.lines f.lines) ∙ ap (image_size L) (sym lines_back);
        zero₁ = field_back b room ss 3 tt (lit< tt);
        zero₂ = field_back b room ss 4 tt (lit< tt);
        zero₃ = field_back b room ss 5 tt (lit< tt);
      }

-- ---- what stands in front of the rows

-- rows written behind a header leave it alone
module _ (L : Layout) (head : List ℕ) (rows : List Row) where
  abbrev filled : List ℕ
  filled = put_rows L.masks head header_size rows

  front_byte : (i : ℕ) → i < header_size → get_or filled i 0 ≡ get_or head i 0
  front_byte = get_d_put_rows_before L.masks head header_size rows

  front_field : (w i : ℕ) → i + w ≤ header_size → field w filled i ≡ field w head i
  front_field w i q = field_same w filled head i i (λ k r. front_byte (i + k) (omega arith))

  front_node : node_of filled ≡ node_of head
  unfolding node_of
  front_node =
      λ d.
      record {
        lines = front_byte 0 (lit< tt) d;
        faults = front_byte 1 (lit< tt) d;
        own = front_field 4 4 (lit≤ tt) d;
        mode = front_byte 2 (lit< tt) d;
        tick = front_field 4 8 (lit≤ tt) d;
        sent = front_field 4 12 (lit≤ tt) d;
      }

-- where all fields of two headers but mode, k and last echo are the same
module _
    (b c : List ℕ) (p : Node)
    (same : (w i : ℕ) → T (apart w i (clock_stores p)) → i + w ≤ header_size → field w b i ≡ field w c i) where
  same_byte : (i : ℕ) → T (apart 1 i (clock_stores p)) → i + 1 ≤ header_size → get_or b i 0 ≡ get_or c i 0
  same_byte i t q = sym (field_byte b i) ∙ same 1 i t q ∙ field_byte c i

  fixed_same : (L : Layout) → Fixed L c → Fixed L b
  unfolding clock_stores
  fixed_same L h =
      record {
        mark = same_byte 3 tt (lit≤ tt) ∙ h.mark;
        offset = same 2 16 tt (lit≤ tt) ∙ h.offset;
        size = same 2 18 tt (lit≤ tt) ∙ h.size ∙ ap (image_size L) (sym (same_byte 0 tt (lit≤ tt)));
        zero₁ = same 4 20 tt (lit≤ tt) ∙ h.zero₁;
        zero₂ = same 4 24 tt (lit≤ tt) ∙ h.zero₂;
        zero₃ = same 4 28 tt (lit≤ tt) ∙ h.zero₃;
      }

-- ---- a state written over an image reads back

-- an image has a row for each of its lines
pub state_lines : (L : Layout) (b : List ℕ) → length (state_of L b).rows ≡ (state_of L b).node.lines
unfolding state_of node_of
state_lines L b = length_rows L.masks (get_or b 0 0) b header_size

-- a state that fits an image: its numbers fit their fields, it has a row for each line, and there is room for them
pub record StateFits (L : Layout) (b : List ℕ) (s : State) : Type 0 where
  pub node : NodeFits s.node
  pub rows : RowsFit L.masks s.rows
  pub count : length s.rows ≡ s.node.lines
  pub room : image_size L s.node.lines ≤ length b

-- an image of the length it had, which holds just this state
pub record Written (L : Layout) (b : List ℕ) (s : State) (next : List ℕ) : Type 0 where
  pub state : state_of L next ≡ s
  pub fixed : Fixed L next
  pub size : length next ≡ length b

-- the rows are stored behind a header; what is written in front of them later is the node's own
state_back :
    (L : Layout) (b : List ℕ) (s : State) (head next : List ℕ)
    → StateFits L b s
    → length head ≡ length b
    → node_of next ≡ s.node
    → ((j : ℕ) → header_size ≤ j → get_or next j 0 ≡ get_or (filled L head s.rows) j 0)
    → state_of L next ≡ s
unfolding state_of node_of
state_back L b s head next fits long node behind =
    λ d. record { node = node d; rows = (ap (λ (p : Node). rows_at L.masks p.lines next header_size) node ∙ rows) d }
  where
    rows : rows_at L.masks s.node.lines next header_size ≡ s.rows
    rows =
        rows_same L.masks s.node.lines next (filled L head s.rows) header_size behind
        ∙ ap (λ (n : ℕ). rows_at L.masks n (filled L head s.rows) header_size) (sym fits.count)
        ∙ rows_read_back L.masks head header_size s.rows (rw (fits.count, long) fits.room) fits.rows

-- boot writes header and rows: decoding after encoding
pub state_read_back : (L : Layout) (b : List ℕ) (s : State) → Fine L → StateFits L b s → Written L b s (put_state L b s)
unfolding put_state
state_read_back L b s fine fits =
    let head = put_node_bytes L b s.node in
    record {
      state =
          state_back L b s head _ fits (length_put_node L b s.node)
          (front_node L head s.rows ∙ node_back L b s.node fine fits.node room) (λ j q. refl);
      fixed =
          fixed_same _ head s.node (λ w i t. front_field L head s.rows w i) L
          (fixed_back L b s.node fine fits.node room);
      size = length_put_state L b s;
    }
  where
    room : header_size ≤ length b
    room = omega (arith, fits.room)

-- a delivery writes the rows, mode, k and last echo: what it writes reads back, on an image with the same roster
module _
    (L : Layout) (b : List ℕ) (d : Delivered)
    (fits : StateFits L b d.state)
    (lines : d.state.node.lines ≡ (node_of b).lines)
    (faults : d.state.node.faults ≡ (node_of b).faults)
    (own : d.state.node.own ≡ (node_of b).own) where
  abbrev p : Node
  p = d.state.node

  -- with its rows stored
  abbrev held : List ℕ
  held = filled L b d.state.rows

  -- a field in front of the rows that the clock does not touch
  kept : (w i : ℕ) → T (apart w i (clock_stores p)) → i + w ≤ header_size → field w (put_clock_bytes held p) i ≡ field w b i
  kept w i t q = rw clock_stores_lem (stores_apart held w i (clock_stores p) t ∙ front_field L b d.state.rows w i q)

  clock_back : node_of (put_clock_bytes held p) ≡ p
  unfolding node_of put_clock_bytes clock_stores put_stores
  clock_back =
      let room : header_size ≤ length held = omega (arith, length_put_rows L.masks b header_size d.state.rows, fits.room) in
      λ x.
      record {
        lines = (same_byte (put_clock_bytes held p) b p kept 0 tt (lit≤ tt) ∙ sym lines) x;
        faults = (same_byte (put_clock_bytes held p) b p kept 1 tt (lit≤ tt) ∙ sym faults) x;
        own = (kept 4 4 tt (lit≤ tt) ∙ sym own) x;
        mode = byte_back held room (clock_stores p) 0 tt fits.node.mode x;
        tick = field_back held room (clock_stores p) 1 tt fits.node.tick x;
        sent = field_back held room (clock_stores p) 2 tt fits.node.sent x;
      }

  pub delivery_read_back : Fixed L b → Written L b d.state (image_after L b d)
  unfolding image_after
  delivery_read_back fixed =
      record {
        state = state_back L b d.state b (put_clock_bytes held p) fits refl clock_back (get_d_put_clock_after held p);
        fixed = fixed_same (put_clock_bytes held p) b p kept L fixed;
        size = length_after L b d;
      }

-- ---- encoding after decoding

-- stores of what stands there change nothing
abbrev Stand : List ℕ → List Store → Type 0
Stand b [] = Unit {0}
Stand b (s ∷ ss) = (s.value ≡ field s.width b s.place) × Stand b ss

stores_same : (b : List ℕ) (ss : List Store) → Bytes b → Stand b ss → put_stores b ss ≡ b
unfolding put_stores
stores_same b [] h q = refl
stores_same b (s ∷ ss) h q = rw (q.0, put_field_lem s.width b s.place h) (stores_same b ss h q.1)

pub state_again : (L : Layout) (b : List ℕ) → Bytes b → fixed_header L b ≡ true → put_state L b (state_of L b) ≡ b
unfolding put_state state_of node_stores clock_stores node_of
state_again L b h e =
    ap (λ (l : List ℕ). put_rows L.masks l header_size (rows_of L b))
    (node_stores_lem L b (node_of b) ∙ stores_same b (node_stores L (node_of b)) h (standing (fixed_facts L b e)))
    ∙ put_rows_lem L.masks (get_or b 0 0) b header_size h
  where
    byte : (i : ℕ) → get_or b i 0 ≡ field 1 b i
    byte i = sym (field_byte b i)

    standing : Fixed L b → Stand b (node_stores L (node_of b))
    standing f = (
      sym f.mark ∙ byte 3,
      (
        sym f.offset,
        (
          sym f.size,
          (
            sym f.zero₁,
            (
              sym f.zero₂,
              (
                sym f.zero₃,
                (byte 0, (byte 1, (refl, (byte 2, (refl, (refl, tt)))))),
              ),
            ),
          ),
        ),
      ),
    )
