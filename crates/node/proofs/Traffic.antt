-- What a node sends (02, A2): its records read back from the output, the flag is on the answer alone, and nothing that is sent asks; and
-- over any calls, refused ones among them, as many answers go out as frames that ask come in from others. Over the layout and the last
-- tick.
-- Assumes nothing.
use mathlib.Core.Path.{◌≡◌, refl, sym, ap, ap₂, ◌∙◌, subst}
use mathlib.Core.Logic.{◌↔◌, ◌≢◌, ◌⊎◌, inr, ⊎_elim}
use mathlib.Core.Bool.{Bool, true, false, cond, ◌&&◌}
use mathlib.Core.List.Memᴰ
use mathlib.Core.List.{List, [], ◌∷◌, ◌++◌, Memᴰ}
use Prim.Native.Nat.{ℕ, suc, ◌+◌, ◌≤◌, ◌<◌}
use native.Mathlib.Decide.{dec_lt, ℕ_discrete}
use native.Mathlib.Omega.{arith}
use borrow.Author.Tests.{ne_eqb}
use lib.ListN.{length, get_or}
use lib.Dec.{lit<}
use Rattle.fields.specs.Field.{Bytes}
use Rattle.fields.proofs.Words.{Words, words_words}
use Rattle.forms.specs.Column.{count}
use Rattle.forms.specs.Frame.{ANSWER, frame_at}
use Rattle.forms.specs.Table.{KnownHead}
use Rattle.forms.specs.declared.frame.Frame.{Frame}
use Rattle.forms.proofs.Frames.{head_narrow}
use Rattle.forms.proofs.Meaning.{member_says}
use Rattle.fields.specs.Kind.{ECHO}
use Rattle.sets.specs.Sets.{tick_count}
use Rattle.evidence.specs.Rows.{credit}
use Rattle.evidence.proofs.Layouts.{serials_of_rows}
use Rattle.rules.specs.Answering.{Silent, Broadcast, TheAnswer, Arrival, answers_in, asks_in, anyone}
use Rattle.rules.specs.Clock.{Ordered}
use Rattle.rules.specs.Delivery.{State, Delivered, asks, other_than, settled, delivered}
use Rattle.rules.specs.Describe.{most_firings, room, boot_records}
use Rattle.rules.specs.Record.{Outgoing, Every, broadcast, put_records, records_at}
use Rattle.rules.specs.Rules.{settle}
use Rattle.rules.proofs.Answering.{delivered_flags, delivered_either, delivered_asks_none, delivered_heads}
use Rattle.rules.proofs.Answering.{delivered_answers, answers_append}
use Rattle.rules.proofs.Every.{every_map, every_both, every_append}
use Rattle.rules.proofs.RecordTrip.{Fits, records_back, records_none}
use Rattle.node.specs.Calls.{boot_number, fresh_state, booted, deliver_number, delivery_of, image_after, deliver_outcome}
use Rattle.node.specs.Image.{node_of, roster_in, state_of}
use Rattle.node.specs.Layout.{header_size}
use Rattle.node.specs.declared.layout.Layout.{Layout}
use Rattle.node.specs.Runs.{Call, Deliver, Read, called}
use Rattle.node.specs.Traffic.{records_of, sent_in, taken_in, sent_over, taken_over, sent_in_life}
use Rattle.node.proofs.Conditions.{sound_says}
use Rattle.node.proofs.Heard.{bytes_called}
use Rattle.node.proofs.Images.{bytes_put_state}
use Rattle.node.proofs.Outcomes.{boot_done_lem, deliver_done_lem, deliver_refused}
use Rattle.node.proofs.SoundImages.{Works, delivery_sound, delivery_ordered, delivery_below, delivery_records}
use Rattle.node.proofs.Taken.{boot_taken, Taken, deliver_taken}

-- a member of a list of words is one
member_fits : {x : ℕ} {l : List ℕ} → Memᴰ x l → Words l → x < tick_count
member_fits (Memᴰ.head e) h = subst (λ (y : ℕ). y < tick_count) (sym e) (h 0)
member_fits (Memᴰ.tail m) h = member_fits m (λ k. h (suc k))

-- ---- an accepted delivery

module _
    (L : Layout) (last : ℕ) (works : Works L) (small : last < tick_count) (image : List ℕ) (port : ℕ) (frame out : List ℕ)
    (bytes : Bytes image) (ok : deliver_number L last image port frame (length out) ≡ 0) where
  abbrev d : Delivered
  d = delivery_of L last image port frame

  taken : Taken L last image port frame (length out)
  taken = deliver_taken L last image port frame (length out) ok

  -- the port is a serial of the roster
  listed : Memᴰ port (roster_in L image)
  listed =
      (member_says port (roster_in L image)).0
      (elim (dec_lt 0 (count port (roster_in L image))) [ yes p ↦ p | no n ↦ absurd (taken.listed (omega arith)) ])

  -- each record fits its bytes
  records_fit : Every Fits d.records
  unfolding delivery_of state_of
  records_fit =
      every_map d.records fit
      (every_both _ _ d.records (delivery_below L last works small image port frame (length out) bytes ok)
      (every_both _ _ d.records (delivered_heads _ last _ port (frame_at frame 0)) (delivered_either _ last _ port (frame_at frame 0))))
    where
      fit : (r : Outgoing) →
          (r.frame.tick ≤ d.state.node.tick)
          × (KnownHead r.frame.kind r.frame.flag × (TheAnswer (node_of image) port (frame_at frame 0) r ⊎ Broadcast r)) →
          Fits r
      fit r h =
          record {
            dest =
                ⊎_elim
                (λ a. subst (λ (x : ℕ). x < tick_count) (sym a.dest) (member_fits listed (words_words _ _ image header_size bytes)))
                (λ b. omega (arith, b.dest)) h.1.1;
            narrow = head_narrow r.frame h.1.0;
            tick = omega (arith, (delivery_ordered L last works small image port frame (length out) bytes ok).tick);
          }

  -- what is read from the output is what the step sends
  pub delivery_back : records_at (length d.records) (put_records out 0 d.records) 0 ≡ d.records
  delivery_back =
      records_back out 0 d.records records_fit
      (omega (arith, taken.space, (delivery_records L last works small image port frame (length out) bytes ok).0))

  -- each record that carries the flag is the answer, and the answer carries it
  pub flag_of_the_answer : Every (λ r. (r.frame.flag ≡ ANSWER) ↔ TheAnswer (node_of image) port (frame_at frame 0) r) d.records
  unfolding delivery_of state_of
  flag_of_the_answer = delivered_flags L.window last (state_of L image) port (frame_at frame 0) some
    where
      -- no serial of a sound image is 0
      some : port ≢ 0
      some e =
          ((sound_says L last image).0 taken.sound).no_zero
          (inr (Memᴰ.cast (sym e) (rw (serials_of_rows L.masks (get_or image 0 0) image header_size) listed)))

  -- each record's kind and flag are known, and its tick is not late
  pub sends_known : Every (λ r. KnownHead r.frame.kind r.frame.flag × (r.frame.tick ≤ last)) d.records
  unfolding delivery_of state_of
  sends_known =
      every_map d.records (λ r h. (h.1, omega (arith, in_order.tick, h.0)))
      (every_both _ _ d.records (delivery_below L last works small image port frame (length out) bytes ok)
      (delivered_heads _ last _ port (frame_at frame 0)))
    where
      in_order : Ordered last (state_of L image).node d.state.node
      in_order = delivery_ordered L last works small image port frame (length out) bytes ok

-- neither evidence nor rules look at the flag: two frames with the same kind and tick leave the same image
pub same_image : (L : Layout) (last : ℕ) (image : List ℕ) (port : ℕ) (frame other : List ℕ) →
    (frame_at frame 0).kind ≡ (frame_at other 0).kind → (frame_at frame 0).tick ≡ (frame_at other 0).tick →
    image_after L image (delivery_of L last image port frame) ≡ image_after L image (delivery_of L last image port other)
unfolding image_after delivery_of delivered settled
same_image L last image port frame other kind tick = rw (kind, tick)

-- and the rules send the same
pub same_others : (w last : ℕ) (s : State) (port : ℕ) (frame other : Frame) → frame.kind ≡ other.kind → frame.tick ≡ other.tick →
    (settled w last s port frame).records ≡ (settled w last s port other).records
unfolding settled
same_others w last s port frame other kind tick =
    ap₂ (λ (k t : ℕ). (settle w last (credit w port k t s.rows) most_firings s.node).records) kind tick

-- ---- frames that ask, counted

module _ (from : ℕ → Bool) where
  asks_append : (xs ys : List Arrival) → asks_in from (xs ++ ys) ≡ asks_in from xs + asks_in from ys
  unfolding asks_in
  asks_append [] ys = omega arith
  asks_append (x ∷ xs) ys = omega (arith, asks_append xs ys)

  -- of those from certain ports there are at most as many as from any
  pub asks_fewer : (xs : List Arrival) → asks_in from xs ≤ asks_in anyone xs
  unfolding asks_in
  asks_fewer [] = omega arith
  asks_fewer (x ∷ xs) = go (asks x.frame) (from x.port) (asks_fewer xs)
    where
      go : (t u : Bool) → asks_in from xs ≤ asks_in anyone xs →
          cond (t && u) 1 0 + asks_in from xs ≤ cond (t && true) 1 0 + asks_in anyone xs
      go true true p = omega arith
      go true false p = omega arith
      go false u p = omega arith

-- ---- one call

-- what is sent asks for nothing, and has as many answers as frames from others asked
pub record Modest (own : ℕ) (sent : List Outgoing) (taken : List Arrival) : Type 0 where
  pub silent : Every Silent sent
  pub count : answers_in sent ≡ asks_in (other_than own) taken

nothing : (own : ℕ) → Modest own [] []
unfolding answers_in asks_in
nothing own = record { silent = tt; count = refl }

modest_then : (own : ℕ) (rs ts : List Outgoing) (xs ys : List Arrival) →
    Modest own rs xs → Modest own ts ys → Modest own (rs ++ ts) (xs ++ ys)
modest_then own rs ts xs ys h g =
    record {
      silent = every_append _ rs ts h.silent g.silent;
      count = omega (arith, answers_append rs ts, asks_append (other_than own) xs ys, h.count, g.count);
    }

module _ (L : Layout) (last : ℕ) (works : Works L) (small : last < tick_count) where
  step_modest : (image : List ℕ) (port : ℕ) (frame : List ℕ) →
      Modest (node_of image).own (delivery_of L last image port frame).records (record { port = port; frame = frame_at frame 0 } ∷ [])
  unfolding delivery_of state_of asks_in
  step_modest image port frame =
      record {
        silent = delivered_asks_none L.window last (state_of L image) port (frame_at frame 0);
        count = omega (arith, delivered_answers L.window last (state_of L image) port (frame_at frame 0));
      }

  call_modest : (image : List ℕ) (call : Call) → Bytes image →
      Modest (node_of image).own (sent_in L last image call) (taken_in L last image call)
  unfolding sent_in taken_in
  call_modest image Read bytes = nothing (node_of image).own
  call_modest image (Deliver port frame out) bytes = go (ℕ_discrete (deliver_number L last image port frame (length out)) 0)
    where
      go : Dec (deliver_number L last image port frame (length out) ≡ 0) →
          Modest (node_of image).own (sent_in L last image (Deliver port frame out)) (taken_in L last image (Deliver port frame out))
      go (yes e) =
          rw (deliver_done_lem L last image port frame out e, delivery_back L last works small image port frame out bytes e)
          (step_modest image port frame)
      go (no n) =
          rw (deliver_refused L last image port frame out n, ne_eqb (deliver_number L last image port frame (length out)) 0 n, records_none)
          (nothing (node_of image).own)

  -- the own serial stays
  own_called : (image : List ℕ) (call : Call) → Bytes image → (node_of (called L last image call).image).own ≡ (node_of image).own
  unfolding called state_of
  own_called image Read bytes = refl
  own_called image (Deliver port frame out) bytes = go (ℕ_discrete (deliver_number L last image port frame (length out)) 0)
    where
      go : Dec (deliver_number L last image port frame (length out) ≡ 0) →
          (node_of (deliver_outcome L last image port frame out).image).own ≡ (node_of image).own
      go (yes e) =
          rw (deliver_done_lem L last image port frame out e)
          (ap (λ (s : State). s.node.own) (delivery_sound L last works small image port frame (length out) bytes e).state
          ∙ (delivery_ordered L last works small image port frame (length out) bytes e).own)
      go (no n) = rw (deliver_refused L last image port frame out n)

  -- ---- any calls

  pub calls_modest : (image : List ℕ) (calls : List Call) → Bytes image →
      Modest (node_of image).own (sent_over L last image calls) (taken_over L last image calls)
  unfolding sent_over taken_over
  calls_modest image [] bytes = nothing (node_of image).own
  calls_modest image (call ∷ calls) bytes =
      modest_then (node_of image).own (sent_in L last image call) _ (taken_in L last image call) _ (call_modest image call bytes)
      (subst (λ (own : ℕ). Modest own (sent_over L last next calls) (taken_over L last next calls)) (own_called image call bytes)
      (calls_modest next calls (bytes_called L last image call bytes)))
    where
      next : List ℕ
      next = (called L last image call).image

-- ---- boot

-- its record read back from the output
boot_back : (out : List ℕ) → room ≤ length out → records_at (length boot_records) (put_records out 0 boot_records) 0 ≡ boot_records
boot_back out space =
    records_back out 0 boot_records
    (record { dest = lit< tt; narrow = record { kind = lit< tt; flag = lit< tt }; tick = lit< tt }, tt) (omega arith)

module _ (L : Layout) (form image out : List ℕ) (ok : boot_number L form (length image) (length out) ≡ 0) where
  -- over a life boot's record comes first
  pub life_sent : (last : ℕ) (calls : List Call) →
      sent_in_life L last form image out calls ≡ broadcast ECHO 0 ∷ sent_over L last (booted L form image out).image calls
  unfolding sent_in_life
  life_sent last calls = ap (λ (l : List Outgoing). l ++ sent_over L last (booted L form image out).image calls) read
    where
      read : records_of (booted L form image out) ≡ boot_records
      read = rw (boot_done_lem L form image out ok) (boot_back out (boot_taken L form (length image) (length out) ok).out)

  pub bytes_booted : Bytes image → Bytes (booted L form image out).image
  bytes_booted bytes = rw (boot_done_lem L form image out ok) (bytes_put_state L image (fresh_state form) bytes)
