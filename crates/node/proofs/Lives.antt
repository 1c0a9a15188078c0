-- Demand 3, over demand 2's definitions and whole lives: two forms alike in all but the order of their serial lines, equal buffers
-- lent, and any calls, refused ones included: after each call the same is seen. Over the layout and the last tick.
-- Assumes nothing.
use mathlib.Core.Path.{◌≡◌, refl, sym, ap, ap₂, ◌∙◌, subst}
use mathlib.Core.List.Permᴰ
use mathlib.Core.List.{List, [], ◌∷◌, Permᴰ}
use Prim.Native.Nat.{ℕ, ◌<◌}
use native.Mathlib.Decide.{ℕ_discrete}
use borrow.Author.Tests.{eq-eqb, ne_eqb}
use lib.ListN.{length, get_or}
use lib.Dec.{lit<, lit≤}
use Rattle.fields.specs.Field.{Bytes}
use Rattle.forms.specs.Form.{Reordered, form_number}
use Rattle.forms.specs.Frame.{frame_at}
use Rattle.forms.specs.declared.frame.Frame.{Frame}
use Rattle.forms.proofs.Order.{count_order, byte_same, front_same, form_number_order, serials_order}
use Rattle.evidence.specs.Rows.{Row}
use Rattle.evidence.proofs.Layouts.{serials_of_rows}
use Rattle.node.specs.Calls.{Outcome, outcome, boot_number, fresh_state, booted}
use Rattle.node.specs.Calls.{number_before_a_frame, deliver_number, delivery_of, deliver_outcome}
use Rattle.node.specs.Calls.{Reading, reading}
use Rattle.rules.specs.Delivery.{State, Delivered, delivered}
use Rattle.rules.specs.Describe.{fresh_node, fresh_rows}
use Rattle.node.specs.Image.{node_of, rows_of, roster_in, state_of}
use Rattle.node.specs.Layout.{header_size}
use Rattle.node.specs.Matched.{Matched, Pair}
use Rattle.node.specs.declared.layout.Layout.{Layout}
use Rattle.rules.specs.Record.{Outgoing, put_records}
use Rattle.node.specs.Runs.{Call, Deliver, Read, under, Seen, seen_by, seen_in, called, observed, life}
use Rattle.rules.specs.declared.node.Node.{Node}
use Rattle.node.proofs.Images.{bytes_after, bytes_put_state}
use Rattle.node.proofs.Orderly.{delivery_order, under_order}
use Rattle.node.proofs.Outcomes.{reading_same}
use Rattle.node.proofs.Taken.{boot_taken}
use Rattle.node.proofs.SoundImages.{Works, delivery_sound, boot_sound}
use Rattle.sets.specs.Sets.{tick_count}

-- ---- two images that a truck cannot tell apart

-- a boot that is refused leaves both buffers as they were lent, and those are equal
data Alike (L : Layout) (last : ℕ) (a b : List ℕ) : Type 0 where
  equal : a ≡ b → Alike L last a b
  paired : Pair L last a b → Alike L last a b

module _ (L : Layout) (last : ℕ) (a b : List ℕ) (h : Pair L last a b) where
  serials : Permᴰ (roster_in L a) (roster_in L b)
  unfolding state_of
  serials =
      rw (
        ← serials_of_rows L.masks (get_or a 0 0) a header_size,
        ← serials_of_rows L.masks (get_or b 0 0) b header_size,
      )
      (Permᴰ.map (λ (row : Row). row.serial) h.same.rows)

  same_number : (port : ℕ) (frame : List ℕ) (n : ℕ) → deliver_number L last a port frame n ≡ deliver_number L last b port frame n
  unfolding deliver_number number_before_a_frame
  same_number port frame n = rw (h.first, h.second, count_order port serials)

  same_reading : reading L last a ≡ reading L last b
  unfolding state_of
  same_reading = reading_same L L last a b h.first h.second h.same.node

module _ (L : Layout) (last : ℕ) (a b : List ℕ) where
  -- the same clock and mode, and the same evidence under each serial
  view : Alike L last a b → (node_of a ≡ node_of b) × (under L.window (rows_of L a) ≡ under L.window (rows_of L b))
  unfolding state_of
  view (equal e) = rw e (refl, refl)
  view (paired h) = (h.same.node, under_order L.window h.same.rows)

  -- the same is seen of them, whatever a read gave
  same_seen : Alike L last a b → (r : Reading) → seen_in L r a ≡ seen_in L r b
  unfolding seen_in
  same_seen h r =
      let v = view h in
      λ d.
      record {
        number = r.number;
        records = 0;
        fired = 0;
        given = r.clock;
        out = [];
        clock = (v.0 d).tick;
        mode = (v.0 d).mode;
        evidence = v.1 d;
      }

-- ---- two outcomes that a truck cannot tell apart

record Met (L : Layout) (last : ℕ) (o q : Outcome) : Type 0 where
  number : o.number ≡ q.number
  records : o.records ≡ q.records
  fired : o.fired ≡ q.fired
  out : o.out ≡ q.out
  image : Alike L last o.image q.image

module _ (L : Layout) (last : ℕ) where
  met_seen : (o q : Outcome) → Met L last o q → seen_by L o ≡ seen_by L q
  unfolding seen_by
  met_seen o q m =
      let v = view L last o.image q.image m.image in
      λ d.
      record {
        number = m.number d;
        records = m.records d;
        fired = m.fired d;
        given = 0;
        out = m.out d;
        clock = (v.0 d).tick;
        mode = (v.0 d).mode;
        evidence = v.1 d;
      }

  -- two calls with the same number: both do what they do, or both refuse
  both_met :
      (number other : ℕ) (a b out : List ℕ) (done ready : Outcome)
      → number ≡ other
      → Alike L last a b
      → (number ≡ 0 → Met L last done ready)
      → Met L last (outcome number a out done) (outcome other b out ready)
  both_met number other a b out done ready same alike both = rw (← same) (go (ℕ_discrete number 0))
    where
      go : Dec (number ≡ 0) → Met L last (outcome number a out done) (outcome number b out ready)
      go (yes e) = rw (eq-eqb number 0 e) (both e)
      go (no n) = rw (ne_eqb number 0 n) (record { number = refl; records = refl; fired = refl; out = refl; image = alike })

-- ---- one call

-- the deliveries of matched states match, send the same records, and fire as many rules
deliveries :
    (w last : ℕ) (s t : State) (port : ℕ) (frame : Frame)
    → Matched s t
    → let x = delivered w last s port frame in
    let y = delivered w last t port frame in
    Matched x.state y.state × (x.records ≡ y.records) × (x.firings ≡ y.firings)
deliveries w last s t port frame m =
    let x = delivered w last s port frame in
    let o = delivery_order w last s.node port frame m.rows in
    subst (λ (y : Delivered). Matched x.state y.state × (x.records ≡ y.records) × (x.firings ≡ y.firings))
    (ap (λ (p : Node). delivered w last (record { node = p; rows = t.rows }) port frame) m.node)
    (record { node = o.0; rows = o.3 }, o.1, o.2)

module _ (L : Layout) (last : ℕ) (works : Works L) (small : last < tick_count) where
  deliver_met :
      (a b : List ℕ) (port : ℕ) (frame out : List ℕ)
      → Pair L last a b
      → Met L last (deliver_outcome L last a port frame out) (deliver_outcome L last b port frame out)
  unfolding deliver_outcome delivery_of
  deliver_met a b port frame out h =
      both_met L last _ _ a b out _ _ number (paired h)
      (λ e.
      let x = delivery_sound L last works small a port frame (length out) h.bytes₁ e in
      let y = delivery_sound L last works small b port frame (length out) h.bytes₂ (sym number ∙ e) in
      let m = deliveries L.window last (state_of L a) (state_of L b) port (frame_at frame 0) h.same in
      record {
        number = refl;
        records = ap (λ (l : List Outgoing). length l) m.1;
        fired = m.2;
        out = ap (put_records out 0) m.1;
        image = paired (record {
          first = x.sound;
          second = y.sound;
          bytes₁ = bytes_after L a _ h.bytes₁;
          bytes₂ = bytes_after L b _ h.bytes₂;
          same = rw (x.state, y.state) m.0;
        });
      })
    where
      number : deliver_number L last a port frame (length out) ≡ deliver_number L last b port frame (length out)
      number = same_number L last a b h port frame (length out)

  called_alike :
      (a b : List ℕ) (call : Call)
      → Alike L last a b
      → ((called L last a call).seen ≡ (called L last b call).seen) × Alike L last (called L last a call).image (called L last b call).image
  unfolding called
  called_alike a b call (equal e) = rw e (refl, equal refl)
  called_alike a b (Deliver port frame out) (paired h) =
      let m = deliver_met a b port frame out h in
      (met_seen L last (deliver_outcome L last a port frame out) (deliver_outcome L last b port frame out) m, m.image)
  called_alike a b Read (paired h) = (rw (same_reading L last a b h) (same_seen L last a b (paired h) (reading L last b)), paired h)

  observed_alike : (a b : List ℕ) (calls : List Call) → Alike L last a b → observed L last a calls ≡ observed L last b calls
  unfolding observed
  observed_alike a b [] h = refl
  observed_alike a b (call ∷ calls) h =
      let m = called_alike a b call h in
      ap₂ (λ (x : Seen) (l : List Seen). x ∷ l) m.0 (observed_alike (called L last a call).image (called L last b call).image calls m.1)

  pub pair_observed : (a b : List ℕ) (calls : List Call) → Pair L last a b → observed L last a calls ≡ observed L last b calls
  pair_observed a b calls h = observed_alike a b calls (paired h)

-- ---- a whole life

-- two forms alike in all but the order of their serial lines
module _ (b c : List ℕ) (r : Reordered b c) where
  boot_number_lem : (L : Layout) (m n : ℕ) → boot_number L b m n ≡ boot_number L c m n
  unfolding boot_number
  boot_number_lem L m n = rw (form_number_order r, byte_same r 0 (lit< tt))

  fresh_matched : form_number b ≡ 0 → Matched (fresh_state b) (fresh_state c)
  unfolding fresh_state fresh_rows
  fresh_matched e =
      record {
        node = λ d. fresh_node (byte_same r 0 (lit< tt) d) (byte_same r 1 (lit< tt) d) (front_same r 4 4 (lit≤ tt) d);
        rows = Permᴰ.map _ (serials_order r e);
      }

  boot_met :
      (L : Layout) (last : ℕ)
      → Works L
      → (image out : List ℕ)
      → Bytes b
      → Bytes c
      → Bytes image
      → Met L last (booted L b image out) (booted L c image out)
  unfolding booted
  boot_met L last works image out u v i =
      both_met L last _ _ image image out _ _ number (equal refl)
      (λ e.
      let x = boot_sound L last works b image (length out) u e in
      let y = boot_sound L last works c image (length out) v (sym number ∙ e) in
      record {
        number = refl;
        records = refl;
        fired = refl;
        out = refl;
        image = paired (record {
          first = x.sound;
          second = y.sound;
          bytes₁ = bytes_put_state L image (fresh_state b) i;
          bytes₂ = bytes_put_state L image (fresh_state c) i;
          same = rw (x.state, y.state) (fresh_matched (boot_taken L b (length image) (length out) e).roster);
        });
      })
    where
      number : boot_number L b (length image) (length out) ≡ boot_number L c (length image) (length out)
      number = boot_number_lem L (length image) (length out)

-- the order of a form's serial lines decides nothing that a truck can see
pub life_order :
    (L : Layout) (last : ℕ)
    → Works L
    → last < tick_count
    → (b c image out : List ℕ) (calls : List Call)
    → Bytes b
    → Bytes c
    → Bytes image
    → Reordered b c
    → life L last b image out calls ≡ life L last c image out calls
unfolding life
life_order L last works small b c image out calls u v i r =
    let m = boot_met b c r L last works image out u v i in
    ap₂ (λ (x : Seen) (l : List Seen). x ∷ l) (met_seen L last (booted L b image out) (booted L c image out) m)
    (observed_alike L last works small _ _ calls m.image)
