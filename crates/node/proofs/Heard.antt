-- The theorem on evidence (01, "Evidence") over a node's calls: what is held under a serial is what was held at the start, and every
-- frame accepted from it since, heard one after the other. So order and repetition of the frames decide nothing for a node either.
-- Any calls from any senders, refused ones among them, on any image. Over the layout and the last tick.
-- Assumes nothing.
use mathlib.Core.Path.{◌≡◌, refl, sym, ap, ◌∙◌}
use mathlib.Core.Bool.{Bool, true, false, cond, false≢true}
use mathlib.Core.List.Memᴰ
use mathlib.Core.List.{List, [], ◌∷◌, ◌++◌, Memᴰ}
use Prim.Native.Nat.{ℕ, ◌<◌}
use native.Mathlib.Decide.{ℕ_discrete}
use borrow.Author.Tests.{eq-eqb, ne_eqb}
use lib.ListN.{length, get_or}
use lib.Dec.{eqb}
use Rattle.fields.specs.Field.{field, Bytes}
use Rattle.forms.specs.Column.{count}
use Rattle.sets.specs.History.{Sent, heard}
use Rattle.sets.specs.Ticks.{Held}
use Rattle.sets.proofs.Histories.{heard_same, heard_append}
use Rattle.sets.proofs.Members.{Proper}
use Rattle.evidence.specs.Holders.{held_under}
use Rattle.evidence.specs.Rows.{credit}
use Rattle.evidence.specs.Serials.{serials_in}
use Rattle.evidence.proofs.Layouts.{serials_of_rows}
use Rattle.evidence.proofs.Under.{Known, under_own, under_other, held_proper}
use Rattle.rules.specs.Answering.{Arrival}
use Rattle.rules.specs.Delivery.{State, delivered}
use Rattle.node.specs.Calls.{Outcome, deliver_number, delivery_of, image_after, deliver_outcome}
use Rattle.node.specs.Heard.{image_left, came_from, accepted}
use Rattle.node.specs.Image.{rows_of, state_of, sound_image}
use Rattle.node.specs.Layout.{header_size}
use Rattle.node.specs.declared.layout.Layout.{Layout}
use Rattle.node.specs.Runs.{Call, Deliver, Read, called}
use Rattle.node.specs.Traffic.{taken_in, taken_over}
use Rattle.node.proofs.Images.{bytes_after}
use Rattle.node.proofs.Outcomes.{deliver_done_lem, deliver_refused}
use Rattle.node.proofs.Sound.{sound_bytes}
use Rattle.node.proofs.SoundImages.{Works, delivery_sound}
use Rattle.node.proofs.Taken.{Taken, deliver_taken, WholeFrame, frame_whole}
use Rattle.sets.specs.Sets.{tick_count}

-- the set of a kind held under a serial
abbrev held : Layout → List ℕ → ℕ → ℕ → Held
held L image serial kind = held_under (rows_of L image) serial kind

-- kind and tick of a frame's bytes
abbrev sent_by : List ℕ → Sent
sent_by frame = record { kind = get_or frame 0 0; tick = field 4 frame 4 }

-- every frame of the first list stands in the second
abbrev Within : List Sent → List Sent → Type 0
Within frames others = (frame : Sent) → Memᴰ frame frames → Memᴰ frame others

came_append : (serial : ℕ) (xs ys : List Arrival) → came_from serial (xs ++ ys) ≡ came_from serial xs ++ came_from serial ys
unfolding came_from
came_append serial [] ys = refl
came_append serial (x ∷ xs) ys = rw (came_append serial xs ys) (go (eqb x.port serial) _ (came_from serial xs) (came_from serial ys))
  where
    go : (t : Bool) (sent : Sent) (ms ns : List Sent) → cond t (sent ∷ ms ++ ns) (ms ++ ns) ≡ cond t (sent ∷ ms) ms ++ ns
    go true sent ms ns = refl
    go false sent ms ns = refl

none_from : (serial : ℕ) (xs : List Arrival) → xs ≡ [] → came_from serial xs ≡ []
unfolding came_from
none_from serial xs e = rw e

-- ---- one call

-- a call that changes no byte, and in which no frame is accepted
record Nothing (L : Layout) (last : ℕ) (image : List ℕ) (call : Call) : Type 0 where
  stays : (called L last image call).image ≡ image
  none : taken_in L last image call ≡ []

refused_nothing : (L : Layout) (last : ℕ) (image : List ℕ) (port : ℕ) (frame out : List ℕ) →
    (deliver_number L last image port frame (length out) ≡ 0 → ⊥) →
    Nothing L last image (Deliver port frame out)
unfolding called taken_in
refused_nothing L last image port frame out n =
    let refused = deliver_refused L last image port frame out n in
    record {
      stays = ap (λ (o : Outcome). o.image) refused;
      none = rw (refused, ne_eqb (deliver_number L last image port frame (length out)) 0 n);
    }

-- the image stays bytes
pub bytes_called : (L : Layout) (last : ℕ) (image : List ℕ) (call : Call) → Bytes image → Bytes (called L last image call).image
unfolding called
bytes_called L last image Read h = h
bytes_called L last image (Deliver port frame out) h = go (ℕ_discrete (deliver_number L last image port frame (length out)) 0)
  where
    go : Dec (deliver_number L last image port frame (length out) ≡ 0) → Bytes (deliver_outcome L last image port frame out).image
    go (yes e) = rw (deliver_done_lem L last image port frame out e) (bytes_after L image _ h)
    go (no n) = rw (deliver_refused L last image port frame out n) h

module _ (L : Layout) (last : ℕ) (works : Works L) (small : last < tick_count) (serial kind : ℕ) (known : Known kind) where
  -- a frame that is taken is heard under its port's serial
  delivery_heard : (image : List ℕ) (port : ℕ) (frame out : List ℕ) →
      Bytes image →
      deliver_number L last image port frame (length out) ≡ 0 →
      held L (image_after L image (delivery_of L last image port frame)) serial kind
      ≡ heard L.window kind (held L image serial kind) (cond (eqb port serial) (sent_by frame ∷ []) [])
  unfolding delivery_of delivered state_of heard
  delivery_heard image port frame out bytes e =
      ap (λ (s : State). held_under s.rows serial kind) (delivery_sound L last works small image port frame (length out) bytes e).state
      ∙ go (ℕ_discrete port serial)
    where
      taken : Taken L last image port frame (length out)
      taken = deliver_taken L last image port frame (length out) e

      whole : WholeFrame last frame
      whole = frame_whole last frame taken.shape

      listed : count port (serials_in (rows_of L image)) ≡ 0 → ⊥
      listed = rw (serials_of_rows L.masks (get_or image 0 0) image header_size) taken.listed

      go : Dec (port ≡ serial) →
          held_under (credit L.window port (get_or frame 0 0) (field 4 frame 4) (rows_of L image)) serial kind
          ≡ heard L.window kind (held L image serial kind) (cond (eqb port serial) (sent_by frame ∷ []) [])
      go (yes q) =
          rw (eq-eqb port serial q, ← q)
          (under_own L.window (get_or frame 0 0) (field 4 frame 4) kind whole.kind known port (rows_of L image) listed)
      go (no n) =
          rw (ne_eqb port serial n)
          (under_other L.window (get_or frame 0 0) (field 4 frame 4) kind whole.kind known port serial (rows_of L image) n)

  call_heard : (image : List ℕ) (call : Call) →
      Bytes image →
      held L (called L last image call).image serial kind
      ≡ heard L.window kind (held L image serial kind) (came_from serial (taken_in L last image call))
  unfolding called taken_in came_from heard
  call_heard image Read bytes = refl
  call_heard image (Deliver port frame out) bytes = go (ℕ_discrete (deliver_number L last image port frame (length out)) 0)
    where
      go : Dec (deliver_number L last image port frame (length out) ≡ 0) →
          held L (called L last image (Deliver port frame out)).image serial kind
          ≡ heard L.window kind (held L image serial kind) (came_from serial (taken_in L last image (Deliver port frame out)))
      go (yes e) = rw (deliver_done_lem L last image port frame out e) (delivery_heard image port frame out bytes e)
      go (no n) =
          let nothing = refused_nothing L last image port frame out n in
          rw (nothing.stays, nothing.none)

-- ---- the theorem

-- what is held under a serial after any calls: what was held at the start, and the frames accepted from it since, heard
pub held_is_heard : (L : Layout) (last : ℕ) →
    Works L →
    last < tick_count →
    (image : List ℕ) (calls : List Call) (serial kind : ℕ) →
    Bytes image →
    Known kind →
    held L (image_left L last image calls) serial kind
    ≡ heard L.window kind (held L image serial kind) (accepted L last image serial calls)
unfolding image_left taken_over came_from heard
held_is_heard L last works small image [] serial kind bytes known = refl
held_is_heard L last works small image (call ∷ calls) serial kind bytes known =
    held_is_heard L last works small (called L last image call).image calls serial kind (bytes_called L last image call bytes) known
    ∙ ap (λ (s : Held). heard L.window kind s (accepted L last (called L last image call).image serial calls))
    (call_heard L last works small serial kind known image call bytes)
    ∙ sym (heard_append L.window kind (held L image serial kind) (came_from serial (taken_in L last image call)) _)
    ∙ ap (heard L.window kind (held L image serial kind)) (sym (came_append serial (taken_in L last image call) _))

-- ---- order and repetition decide nothing

-- an image that is not sound takes no frame
unsound_nothing : (L : Layout) (last : ℕ) (image : List ℕ) (call : Call) →
    (sound_image L last image ≡ true → ⊥) →
    Nothing L last image call
unfolding called taken_in
unsound_nothing L last image Read n = record { stays = refl; none = refl }
unsound_nothing L last image (Deliver port frame out) n =
    refused_nothing L last image port frame out (λ e. n (deliver_taken L last image port frame (length out) e).sound)

unsound_none : (L : Layout) (last : ℕ) (image : List ℕ) (calls : List Call) →
    (sound_image L last image ≡ true → ⊥) →
    taken_over L last image calls ≡ []
unfolding taken_over
unsound_none L last image [] n = refl
unsound_none L last image (call ∷ calls) n =
    let nothing = unsound_nothing L last image call n in
    rw (nothing.none, nothing.stays) (unsound_none L last image calls n)

no_members : (frames : List Sent) → ((frame : Sent) → Memᴰ frame frames → ⊥) → frames ≡ []
no_members [] n = refl
no_members (frame ∷ frames) n = absurd (n frame (Memᴰ.head refl))

-- from the same set at the start, with the same frames accepted, in any order and however often, the same set is left
pub held_alike : (L : Layout) (last : ℕ) →
    Works L →
    last < tick_count →
    (image other : List ℕ) (calls others : List Call) (serial kind : ℕ) →
    Bytes image →
    Bytes other →
    Known kind →
    held L image serial kind ≡ held L other serial kind →
    Within (accepted L last image serial calls) (accepted L last other serial others) →
    Within (accepted L last other serial others) (accepted L last image serial calls) →
    held L (image_left L last image calls) serial kind ≡ held L (image_left L last other others) serial kind
unfolding heard state_of
held_alike L last works small image other calls others serial kind bytes bytes' known start there back =
    held_is_heard L last works small image calls serial kind bytes known ∙ go (sound_image L last image) refl
    ∙ ap (λ (s : Held). heard L.window kind s (accepted L last other serial others)) start
    ∙ sym (held_is_heard L last works small other others serial kind bytes' known)
  where
    proper : sound_image L last image ≡ true → Proper L.window (held L image serial kind)
    proper e =
        held_proper L.window last (rows_of L image) serial kind
        (sound_bytes L last image e).node.sets

    go : (t : Bool) →
        sound_image L last image ≡ t →
        heard L.window kind (held L image serial kind) (accepted L last image serial calls)
        ≡ heard L.window kind (held L image serial kind) (accepted L last other serial others)
    go true e = heard_same L.window kind _ _ _ works.wide (proper e) there back
    go false e =
        let none = none_from serial (taken_over L last image calls) (unsound_none L last image calls (λ f. false≢true (sym e ∙ f))) in
        rw (none, no_members (accepted L last other serial others) (λ f m. Memᴰ.not-nil (rw none at (back f m))))

-- two runs of calls on one image in which the same frames were accepted from a serial leave the same set under it
pub held_same : (L : Layout) (last : ℕ) →
    Works L →
    last < tick_count →
    (image : List ℕ) (calls others : List Call) (serial kind : ℕ) →
    Bytes image →
    Known kind →
    Within (accepted L last image serial calls) (accepted L last image serial others) →
    Within (accepted L last image serial others) (accepted L last image serial calls) →
    held L (image_left L last image calls) serial kind ≡ held L (image_left L last image others) serial kind
held_same L last works small image calls others serial kind bytes known there back =
    held_alike L last works small image image calls others serial kind bytes bytes known refl there back
