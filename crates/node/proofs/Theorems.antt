-- WHERE A READER STARTS. The customer's three demands about boot, deliver and read, one block for each call, at the layout and the last
-- tick in service. What the words of a statement mean is in specs/: `booted`, `deliver_outcome` and `reading` in Calls, the rows of the
-- table of numbers in Table, what a call leaves in After, what was heard in Heard, what was sent and taken in Traffic, a truck's whole
-- life in Runs; in specs/ of rules `delivered` and `settled` in Delivery, `settle` in Rules, `most_firings` and `room` in Describe, who
-- answers whom in Answering; in specs/ of forms `full_faults` in Roster, `restated` in Form, `how_many` in Column, `Shared` in Groups.
-- That the code gives just these outcomes, for every input, is the contract of each call (src/calls.rt). The proofs are short here and
-- stand in the files named.
-- Assumes nothing.
use mathlib.Core.Path.{◌≡◌, refl, sym, ap, ◌∙◌, subst}
use mathlib.Core.Bool.{Bool, true}
use mathlib.Core.Logic.{◌↔◌, ◌≢◌, ◌⊎◌}
use mathlib.Core.List.{List, [], ◌∷◌, ◌++◌, Memᴰ}
use Prim.Native.Nat.{ℕ, ◌+◌, ◌-◌, ◌*◌, ◌≤◌, ◌<◌}
use native.Mathlib.Omega.{arith}
use lib.ListN.{length, get_or}
use lib.Dec.{lit<}
use Rattle.fields.specs.Field.{Bytes}
use Rattle.fields.specs.Kind.{INIT, ECHO}
use Rattle.forms.specs.Column.{how_many}
use Rattle.forms.specs.Form.{lines_of, faults_of, serials_of, form_number, restated, Reordered}
use Rattle.forms.specs.Frame.{ANSWER, frame_at}
use Rattle.forms.specs.Groups.{Shared}
use Rattle.forms.specs.Number.{number_of}
use Rattle.forms.specs.Roster.{full_faults}
use Rattle.forms.specs.Table.{KnownHead, Says, Twice, Understated}
use Rattle.forms.specs.declared.answer.Refusal.{Refusal}
use Rattle.forms.specs.declared.answer.Refusal.TheVariants as refusal
use Rattle.forms.specs.declared.frame.Frame.{Frame}
use Rattle.forms.proofs.Faults.{form_full, form_majority, form_no_more, form_shared, form_greater, form_smaller}
use Rattle.evidence.specs.Holders.{held_under}
use Rattle.evidence.specs.Rows.{Row}
use Rattle.evidence.specs.Serials.{serials_in}
use Rattle.rules.specs.Answering.{Asks, Silent, Broadcast, TheAnswer, answers_in, asks_in, anyone}
use Rattle.rules.specs.Clock.{Ordered, Below}
use Rattle.rules.specs.Delivery.{Delivered, other_than, answer, settled, delivered}
use Rattle.sets.specs.History.{Sent, heard}
use Rattle.sets.specs.Ticks.{Held}
use Rattle.rules.specs.Describe.{window, last_tick, most_firings, room}
use Rattle.rules.specs.Record.{Outgoing, Every, broadcast, answer_to, record_size, put_records}
use Rattle.rules.specs.Rules.{first_rule, settle}
use Rattle.rules.specs.Which.{Fires}
use Rattle.rules.specs.declared.node.Node.{Node}
use Rattle.rules.specs.declared.node.Rule.{Rule}
use Rattle.rules.proofs.Answering.{answer_asked, answer_unasked, settled_broadcasts}
use Rattle.rules.proofs.Every.{every_member}
use Rattle.rules.proofs.Which.{which_says}
use Rattle.node.specs.After.{Begins, Follows, InRow}
use Rattle.node.specs.Answers.{outcome_by, reading_by}
use Rattle.node.specs.Calls.{Outcome, refused, booted, deliver_number, delivery_of, deliver_done, deliver_outcome, unread, reading}
use Rattle.node.specs.Calls.{Reading as Told}
use Rattle.node.specs.Heard.{image_left, accepted}
use Rattle.node.specs.Image.{mode_place, tick_place, sent_place}
use Rattle.node.specs.Image.{rows_of, node_of, state_of, fixed_header, put_state, sound_image}
use Rattle.node.specs.Layout.{layout, image_size}
use Rattle.node.specs.Runs.{Call, life}
use Rattle.node.specs.Sound.{SoundImage}
use Rattle.node.specs.Table.{boot_checks, deliver_checks, read_checks}
use Rattle.node.specs.Traffic.{records_of, sent_over, taken_over, sent_in_life}
use Rattle.node.specs.declared.calls.Answer.{Answer}
use Rattle.node.specs.declared.calls.Reading.{Reading}
use Rattle.node.proofs.Images.{state_again}
use Rattle.node.proofs.Conditions.{sound_says}
use Rattle.node.proofs.Fired.{none_fired, records_for_firings, few_always, few_together}
use Rattle.node.proofs.Heard.{held_is_heard, held_same}
use Rattle.node.proofs.Kept.{boot_lengths, boot_behind_image, boot_behind_records}
use Rattle.node.proofs.Kept.{deliver_lengths, deliver_behind_image, deliver_behind_records, deliver_only}
use Rattle.node.proofs.Later.{calls_later}
use Rattle.node.proofs.Lives.{life_order}
use Rattle.node.proofs.Numbers.{boot_says, deliver_says, read_says}
use Rattle.node.proofs.Outcomes.{boot_told, boot_done_lem, boot_refused, deliver_told, deliver_done_lem, deliver_refused}
use Rattle.node.proofs.Outcomes.{read_done, read_refused}
use Rattle.node.proofs.SoundImages.{in_service, boot_sound}
use Rattle.node.proofs.SoundImages.{delivery_sound, delivery_ordered, delivery_all, delivery_below}
use Rattle.node.proofs.Taken.{form_refuses, boot_taken}
use Rattle.node.proofs.Traffic.{delivery_back, flag_of_the_answer, sends_known, same_image, same_others}
use Rattle.node.proofs.Traffic.{asks_fewer, calls_modest, life_sent, bytes_booted}

-- ---- Boot

module _ (form image out : List ℕ) where
  abbrev boots : Outcome
  boots = booted layout form image out

  -- Demand 1. Each number is given exactly when its row of the table applies and no row before it does
  pub boot_numbers : Says boots.number (boot_checks layout form image out)
  boot_numbers = boot_says layout form image out

  -- Demand 1. A refusal reports no records and no firings, and changes no byte of image or output
  pub boot_refusal : (boots.number ≡ 0 → ⊥) → boots ≡ refused boots.number image out
  boot_refusal n =
      let told = boot_told layout form image out in
      boot_refused layout form image out (λ e. n (told ∙ e)) ∙ ap (λ (k : ℕ). refused k image out) (sym told)

  -- Demand 2. Boot leaves a sound image that holds the fresh node, whatever buffer it was lent
  pub boot_is_fresh :
      Bytes form
      → boots.number ≡ 0
      → Begins layout last_tick image form boots.image
  boot_is_fresh bytes ok =
      let given = sym (boot_told layout form image out) ∙ ok in
      subst (λ (o : Outcome). Begins layout last_tick image form o.image) (sym (boot_done_lem layout form image out given))
      (boot_sound layout last_tick in_service form image (length out) bytes given)

  -- Demand 2. It sends one record, echo 0 to all
  pub boot_sends : boots.number ≡ 0 → (boots.records ≡ 1) × (boots.out ≡ put_records out 0 (broadcast ECHO 0 ∷ []))
  boot_sends ok =
      let done = boot_done_lem layout form image out (sym (boot_told layout form image out) ∙ ok) in
      (ap (λ (o : Outcome). o.records) done, ap (λ (o : Outcome). o.out) done)

  -- No rule fires at boot (02, A6)
  pub boot_fires_none : boots.fired ≡ 0
  boot_fires_none = none_fired layout form image out

  -- No buffer changes its length; bytes behind the image's size stay, and bytes behind the records
  pub boot_keeps_lengths : (length boots.image ≡ length image) × (length boots.out ≡ length out)
  boot_keeps_lengths = boot_lengths layout form image out

  pub boot_behind_the_image : (i : ℕ) → image_size layout (lines_of form) ≤ i → get_or boots.image i 0 ≡ get_or image i 0
  boot_behind_the_image = boot_behind_image layout form image out

  pub boot_behind_the_records : (i : ℕ) → record_size * boots.records ≤ i → get_or boots.out i 0 ≡ get_or out i 0
  boot_behind_the_records = boot_behind_records layout form image out

  -- ---- The full fault number (02, A7)

  -- the form that boot takes is in order
  form_in_order : boots.number ≡ 0 → form_number form ≡ 0
  form_in_order ok = (boot_taken layout form (length image) (length out) (sym (boot_told layout form image out) ∙ ok)).roster

  -- For sales. A controller boots with the most faults declared that n controllers allow
  pub boot_declares_all :
      boots.number ≡ 0
      → faults_of form ≡ full_faults (lines_of form)
  boot_declares_all ok = form_full form (form_in_order ok)

  -- For sales. No other number of faults could be declared in its place: a greater one is refused with 2, a smaller one with 21
  pub boot_takes_no_other :
      boots.number ≡ 0
      → (f : ℕ)
      → f < 256
      → (faults_of form < f → (booted layout (restated form f) image out).number ≡ 2)
      × (f < faults_of form → (booted layout (restated form f) image out).number ≡ 21)
  boot_takes_no_other ok f fits = (
    λ more. refuses refusal.Limits (form_greater form (form_in_order ok) f fits more),
    λ less. refuses refusal.Understated (form_smaller form (form_in_order ok) f fits less),
  )
    where
      other : List ℕ
      other = restated form f

      refuses : (why : Refusal) → form_number other ≡ number_of why → (booted layout other image out).number ≡ number_of why
      refuses why e = boot_told layout other image out ∙ form_refuses layout other (length image) (length out) why e

  -- For sales. n - f is more than half of n + f, and with more faults than f that would not be so
  pub boot_keeps_a_majority :
      boots.number ≡ 0
      → lines_of form + faults_of form < 2 * (lines_of form - faults_of form)
  boot_keeps_a_majority ok = form_majority form (form_in_order ok)

  pub boot_bears_no_more :
      boots.number ≡ 0
      → (f : ℕ)
      → faults_of form < f
      → 2 * (lines_of form - f) ≤ lines_of form + f
  boot_bears_no_more ok = form_no_more form (form_in_order ok)

  -- That is what it is for: two groups of n - f controllers share one that is not faulty, whichever f are (003, Lemma A.1)
  pub two_groups_share_a_correct_one :
      boots.number ≡ 0
      → (one other faulty : ℕ → Bool)
      → lines_of form - faults_of form ≤ how_many one (serials_of form)
      → lines_of form - faults_of form ≤ how_many other (serials_of form)
      → how_many faulty (serials_of form) ≤ faults_of form
      → Shared one other faulty (serials_of form)
  two_groups_share_a_correct_one ok = form_shared form (form_in_order ok)

-- ---- Deliver

module _ (image : List ℕ) (port : ℕ) (frame out : List ℕ) where
  abbrev delivers : Outcome
  delivers = deliver_outcome layout last_tick image port frame out

  -- the step on lists that an accepted frame makes
  abbrev step : Delivered
  step = delivery_of layout last_tick image port frame

  -- Demand 1. Each number is given exactly when its row of the table applies and no row before it does
  pub deliver_numbers : Says delivers.number (deliver_checks layout last_tick image port frame out)
  deliver_numbers = deliver_says layout last_tick image port frame out

  -- Demand 1. A refusal reports no records and no firings, and changes no byte of image or output
  pub deliver_refusal : (delivers.number ≡ 0 → ⊥) → delivers ≡ refused delivers.number image out
  deliver_refusal n =
      let told = deliver_told layout last_tick image port frame out in
      deliver_refused layout last_tick image port frame out (λ e. n (told ∙ e)) ∙ ap (λ (k : ℕ). refused k image out) (sym told)

  -- An image that declares less than the full fault number is refused with 8, whatever else it holds; 7 alone comes before (02, A7)
  pub deliver_refuses_less :
      room ≤ length out
      → Understated (node_of image).lines (node_of image).faults
      → delivers.number ≡ 8
  deliver_refuses_less wide less = (deliver_numbers.exactly 8).1 (λ short. omega arith, λ sound. sound.full less)

  -- So is one of another layout, by its byte 3: an image from before the window grew has 0 there (02, A8)
  pub deliver_refuses_others :
      room ≤ length out
      → get_or image 3 0 ≢ layout.mark
      → delivers.number ≡ 8
  deliver_refuses_others wide other = (deliver_numbers.exactly 8).1 (λ short. omega arith, λ sound. other sound.mark)

  given : delivers.number ≡ 0 → deliver_number layout last_tick image port frame (length out) ≡ 0
  given ok = sym (deliver_told layout last_tick image port frame out) ∙ ok

  done : delivers.number ≡ 0 → delivers ≡ deliver_done layout last_tick image port frame out
  done ok = deliver_done_lem layout last_tick image port frame out (given ok)

  -- Demand 2. An accepted delivery leaves a sound image that holds the node that follows, by the step on lists
  pub deliver_is_the_step :
      Bytes image
      → delivers.number ≡ 0
      → Follows layout last_tick image step delivers.image
  deliver_is_the_step bytes ok =
      subst (λ (o : Outcome). Follows layout last_tick image step o.image) (sym (done ok))
      (delivery_sound layout last_tick in_service (lit< tt) image port frame (length out) bytes (given ok))

  -- Demand 2. The records are those of the step, at the front of the output
  pub deliver_sends :
      delivers.number ≡ 0
      → (delivers.records ≡ length step.records) × (delivers.out ≡ put_records out 0 step.records)
  deliver_sends ok = (ap (λ (o : Outcome). o.records) (done ok), ap (λ (o : Outcome). o.out) (done ok))

  -- It changes no byte of the image but mode, k, last echo and the port's row
  pub deliver_changes_only :
      Bytes image
      → (i : ℕ)
      → (i ≡ mode_place → ⊥)
      -- k and last echo have four bytes each
      → ((tick_place ≤ i) × (i < tick_place + 4) → ⊥)
      → ((sent_place ≤ i) × (i < sent_place + 4) → ⊥)
      → (InRow layout image port i → ⊥)
      → get_or delivers.image i 0 ≡ get_or image i 0
  deliver_changes_only bytes i = deliver_only layout last_tick image port frame out i bytes

  -- No buffer changes its length; bytes behind the image's size stay, and bytes behind the records
  pub deliver_keeps_lengths : (length delivers.image ≡ length image) × (length delivers.out ≡ length out)
  deliver_keeps_lengths = deliver_lengths layout last_tick image port frame out

  pub deliver_behind_the_image : (i : ℕ) → image_size layout (get_or image 0 0) ≤ i → get_or delivers.image i 0 ≡ get_or image i 0
  deliver_behind_the_image = deliver_behind_image layout last_tick image port frame out

  pub deliver_behind_the_records : (i : ℕ) → record_size * delivers.records ≤ i → get_or delivers.out i 0 ≡ get_or out i 0
  deliver_behind_the_records = deliver_behind_records layout last_tick image port frame out

  -- 003's own words: k never falls, active stays active, the last echo is at most k, and k at most the last tick
  pub in_order :
      Bytes image
      → delivers.number ≡ 0
      → Ordered last_tick (node_of image) (node_of delivers.image)
  unfolding state_of
  in_order bytes ok =
      subst (Ordered last_tick (node_of image)) (sym (ap (λ s. s.node) (deliver_is_the_step bytes ok).state))
      (delivery_ordered layout last_tick in_service (lit< tt) image port frame (length out) bytes (given ok))

  -- No record carries a tick above k after the delivery
  pub none_ahead :
      Bytes image
      → delivers.number ≡ 0
      → Below (node_of delivers.image).tick step.records
  unfolding state_of
  none_ahead bytes ok =
      subst (λ (p : Node). Below p.tick step.records) (sym (ap (λ s. s.node) (deliver_is_the_step bytes ok).state))
      (delivery_below layout last_tick in_service (lit< tt) image port frame (length out) bytes (given ok))

  -- ---- How many rules fire (02, A6)

  -- The figure is the number of firings of the step, which are those of `settled`
  pub fired_is_counted :
      delivers.number ≡ 0
      → delivers.fired ≡ step.firings
  fired_is_counted ok = ap (λ (o : Outcome). o.fired) (done ok)

  -- The rules fire until none can: with 15 allowed or more they leave the same node, send the same records and fire as often
  pub fired_until_none :
      Bytes image
      → delivers.number ≡ 0
      → (allowed : ℕ)
      → most_firings ≤ allowed
      → settle window last_tick step.state.rows allowed (node_of image)
      ≡ settled window last_tick (state_of layout image) port (frame_at frame 0)
  unfolding state_of
  fired_until_none bytes ok = delivery_all layout last_tick in_service (lit< tt) image port frame (length out) bytes (given ok)

  -- At most 15 fire, whatever is handed in
  pub fired_as_allowed :
      Bytes image
      → delivers.fired ≤ most_firings
  fired_as_allowed bytes = omega (arith, few_always layout last_tick image port frame out in_service (lit< tt) bytes)

  -- and so 192 bytes never run out: each sends one record at most, and one more may be the answer
  pub records_for_the_fired : delivers.records ≤ delivers.fired + 1
  records_for_the_fired = records_for_firings layout last_tick image port frame out

  pub room_never_runs_out :
      Bytes image
      → record_size * delivers.records ≤ room
  room_never_runs_out bytes = omega (arith, records_for_the_fired, fired_as_allowed bytes)

  -- The true maximum: at most 7 fire, and at most 7 records are sent. Worked.antt has a run that attains both
  pub fired_at_most :
      Bytes image
      → (delivers.fired ≤ 7) × (delivers.records ≤ 7)
  fired_at_most = few_always layout last_tick image port frame out in_service (lit< tt)

  -- With two controllers and more at most 4 fire, and at most 5 records are sent, an answer among them; attained there too
  pub fired_at_most_together :
      Bytes image
      → 2 ≤ (node_of image).lines
      → (delivers.fired ≤ 4) × (delivers.records ≤ 5)
  fired_at_most_together = few_together layout last_tick image port frame out in_service (lit< tt)

  -- ---- Who is answered (02, A2)

  -- the records that the call reports, as the bytes of its output have them
  abbrev sends : List Outgoing
  sends = records_of delivers

  -- those that the rules send
  abbrev others : List Outgoing
  others = (settled window last_tick (state_of layout image) port (frame_at frame 0)).records

  -- What is written reads back the same: they are the step's, flag and all
  pub records_read_back :
      Bytes image
      → delivers.number ≡ 0
      → sends ≡ step.records
  records_read_back bytes ok =
      rw (done ok) (delivery_back layout last_tick in_service (lit< tt) image port frame out bytes (given ok))

  -- The answer comes first, where there is one, and the rules' records behind it
  pub answer_comes_first :
      Bytes image
      → delivers.number ≡ 0
      → sends ≡ answer (node_of image) port (frame_at frame 0) ++ others
  unfolding delivery_of delivered state_of
  answer_comes_first = records_read_back

  -- What the rules send goes to all, without the flag
  pub rules_broadcast : Every Broadcast others
  unfolding settled
  rules_broadcast = settled_broadcasts window last_tick _ _ (state_of layout image).node

  -- A record carries the flag exactly where it is the answer: to the port that asked, with the last echo sent before
  pub flagged_is_the_answer :
      Bytes image
      → delivers.number ≡ 0
      → Every (λ r. (r.frame.flag ≡ ANSWER) ↔ TheAnswer (node_of image) port (frame_at frame 0) r) sends
  flagged_is_the_answer bytes ok =
      subst (Every (λ r. (r.frame.flag ≡ ANSWER) ↔ TheAnswer (node_of image) port (frame_at frame 0) r))
      (sym (records_read_back bytes ok))
      (flag_of_the_answer layout last_tick in_service (lit< tt) image port frame out bytes (given ok))

  -- Another serial that asks is answered, once
  pub asked_is_answered :
      Bytes image
      → delivers.number ≡ 0
      → Asks (frame_at frame 0)
      → port ≢ (node_of image).own
      → sends ≡ answer_to port (node_of image).sent ∷ others
  asked_is_answered bytes ok asked other =
      answer_comes_first bytes ok
      ∙ ap (λ (l : List Outgoing). l ++ others) (answer_asked (node_of image) port (frame_at frame 0) asked other)

  -- A frame that does not ask draws no answer
  pub unasked_unanswered :
      Bytes image
      → delivers.number ≡ 0
      → (Asks (frame_at frame 0) → ⊥)
      → sends ≡ others
  unasked_unanswered bytes ok unasked =
      answer_comes_first bytes ok
      ∙ ap (λ (l : List Outgoing). l ++ others) (answer_unasked (node_of image) port (frame_at frame 0) unasked)

  -- So an answer is never answered
  pub answer_never_answered :
      Bytes image
      → delivers.number ≡ 0
      → (frame_at frame 0).flag ≡ ANSWER
      → sends ≡ others
  answer_never_answered bytes ok flag = unasked_unanswered bytes ok (λ asks. omega (arith, flag, asks.flag))

  -- Every record has a frame that 10 and 11 would not refuse
  pub sends_known_frames :
      Bytes image
      → delivers.number ≡ 0
      → Every (λ r. KnownHead r.frame.kind r.frame.flag × (r.frame.tick ≤ last_tick)) sends
  sends_known_frames bytes ok =
      subst (Every (λ r. KnownHead r.frame.kind r.frame.flag × (r.frame.tick ≤ last_tick))) (sym (records_read_back bytes ok))
      (sends_known layout last_tick in_service (lit< tt) image port frame out bytes (given ok))

-- The flag decides nothing but the answer: two frames that differ in it alone leave the same image, and the rules send the same
pub flag_decides_the_answer_alone :
    (image : List ℕ) (port : ℕ) (frame other out : List ℕ)
    → (delivers image port frame out).number ≡ 0
    → (delivers image port other out).number ≡ 0
    → (frame_at frame 0).kind ≡ (frame_at other 0).kind
    → (frame_at frame 0).tick ≡ (frame_at other 0).tick
    → ((delivers image port frame out).image ≡ (delivers image port other out).image)
    × (others image port frame out ≡ others image port other out)
flag_decides_the_answer_alone image port frame other out ok ok' kind tick = (
  rw (done image port frame out ok, done image port other out ok') (same_image layout last_tick image port frame other kind tick),
  same_others window last_tick (state_of layout image) port (frame_at frame 0) (frame_at other 0) kind tick,
)

-- ---- Read

module _ (image : List ℕ) where
  abbrev reads : Told
  reads = reading layout last_tick image

  -- Demand 1. Each number is given exactly when its row of the table applies and no row before it does
  pub read_numbers : Says reads.number (read_checks layout last_tick image)
  read_numbers = read_says layout last_tick image

  -- Demand 1. A refused read gives clock 0
  pub read_refusal : (reads.number ≡ 0 → ⊥) → reads ≡ unread reads.number
  read_refusal = read_refused layout last_tick image

  -- An image that declares less than the full fault number is refused with 8 (02, A7)
  pub read_refuses_less : Understated (node_of image).lines (node_of image).faults → reads.number ≡ 8
  read_refuses_less less = (read_numbers.exactly 8).1 (λ sound. sound.full less)

  -- So is one of another layout, by its byte 3 (02, A8)
  pub read_refuses_others : get_or image 3 0 ≢ layout.mark → reads.number ≡ 8
  read_refuses_others other = (read_numbers.exactly 8).1 (λ sound. other sound.mark)

  -- Demand 2. The clock of an active node is k
  pub read_is_k : reads.number ≡ 0 → reads.clock ≡ (node_of image).tick
  read_is_k = read_done layout last_tick image

-- ---- What is written reads back the same: an image written again from what it holds is the same bytes

pub image_again :
    (image : List ℕ)
    → Bytes image
    → fixed_header layout image ≡ true
    → put_state layout image (state_of layout image) ≡ image
image_again = state_again layout

-- ---- The tests of the definitions, in the paper's words

-- An image is sound where every condition of the paper holds (specs/Sound.antt)
pub sound_image_lem : (image : List ℕ) → (sound_image layout last_tick image ≡ true) ↔ SoundImage layout last_tick image
sound_image_lem = sound_says layout last_tick

-- The rule that fires is the first of R1 to R5 whose condition holds, with the greatest l or x (specs/Which.antt of rules)
pub rule_that_fires :
    (rows : List Row) (p : Node) (rule : Rule)
    -- number 4 would accept the roster
    → (Twice (serials_in rows) → ⊥)
    → (first_rule window last_tick rows p ≡ rule) ↔ Fires window last_tick rows p rule
rule_that_fires = which_says window last_tick

-- ---- Evidence, over any calls from any senders, refused ones among them

module _ (image : List ℕ) (serial kind : ℕ) (bytes : Bytes image) (known : (kind ≡ INIT) ⊎ (kind ≡ ECHO)) where
  -- the set of a kind held under the serial after the calls
  abbrev held : List Call → Held
  held calls = held_under (rows_of layout (image_left layout last_tick image calls)) serial kind

  -- the frames accepted from it
  abbrev from : List Call → List Sent
  from calls = accepted layout last_tick image serial calls

  -- Demand 2. It is what was held at the start, and the frames accepted from the serial since, heard one after the other
  pub evidence_is_heard : (calls : List Call) → held calls ≡ heard window kind (held []) (from calls)
  unfolding image_left
  evidence_is_heard calls = held_is_heard layout last_tick in_service (lit< tt) image calls serial kind bytes known

  -- The order of its frames and their repetition decide nothing: where the same were accepted, the same is held
  pub evidence_is_the_same :
      (calls others : List Call)
      → ((frame : Sent) → Memᴰ frame (from calls) → Memᴰ frame (from others))
      → ((frame : Sent) → Memᴰ frame (from others) → Memᴰ frame (from calls))
      → held calls ≡ held others
  evidence_is_the_same calls others = held_same layout last_tick in_service (lit< tt) image calls others serial kind bytes known

-- ---- The clock, over any calls from any senders, refused ones among them

-- Once active, active for ever, and the clock never falls: after any calls read gives a clock again, and one that is not below
pub clock_never_falls :
    (image : List ℕ) (calls : List Call)
    → Bytes image
    → (reads image).number ≡ 0
    → ((reads (image_left layout last_tick image calls)).number ≡ 0)
    × ((reads image).clock ≤ (reads (image_left layout last_tick image calls)).clock)
clock_never_falls = calls_later layout last_tick in_service (lit< tt)

-- ---- Answers (02, A2), over any calls from any senders, refused ones among them

-- Nothing that the calls send asks for an answer: no echo 0 goes out without the flag
pub nothing_sent_asks :
    (image : List ℕ) (calls : List Call)
    → Bytes image
    → Every Silent (sent_over layout last_tick image calls)
nothing_sent_asks image calls bytes = (calls_modest layout last_tick in_service (lit< tt) image calls bytes).silent

-- Over a whole life the boot message is the one record that asks
pub boot_message_alone_asks :
    (form image out : List ℕ) (calls : List Call)
    → Bytes image
    → (boots form image out).number ≡ 0
    → let rest = sent_over layout last_tick (boots form image out).image calls in
    (sent_in_life layout last_tick form image out calls ≡ broadcast ECHO 0 ∷ rest) × Asks (broadcast ECHO 0).frame × Every Silent rest
boot_message_alone_asks form image out calls bytes ok =
    let given = sym (boot_told layout form image out) ∙ ok in (
      life_sent layout form image out given last_tick calls,
      record { kind = refl; tick = refl; flag = refl },
      nothing_sent_asks (boots form image out).image calls (bytes_booted layout form image out given bytes),
    )

-- As many answers go out as (echo, 0) without the flag are taken from other serials
pub answers_are_those_asked :
    (image : List ℕ) (calls : List Call)
    → Bytes image
    → answers_in (sent_over layout last_tick image calls)
    ≡ asks_in (other_than (node_of image).own) (taken_over layout last_tick image calls)
answers_are_those_asked image calls bytes = (calls_modest layout last_tick in_service (lit< tt) image calls bytes).count

-- So at most as many as are taken at all
pub answers_are_few :
    (image : List ℕ) (calls : List Call)
    → Bytes image
    → answers_in (sent_over layout last_tick image calls) ≤ asks_in anyone (taken_over layout last_tick image calls)
answers_are_few image calls bytes =
    subst (λ (n : ℕ). n ≤ asks_in anyone (taken_over layout last_tick image calls)) (sym (answers_are_those_asked image calls bytes))
    (asks_fewer (other_than (node_of image).own) (taken_over layout last_tick image calls))

-- What a node sent after its boot message draws no answer, from any node
pub sent_draws_no_answer :
    (image : List ℕ) (calls : List Call) (other : List ℕ) (port : ℕ) (frame out : List ℕ) (r : Outgoing)
    → Bytes image
    → Bytes other
    → (delivers other port frame out).number ≡ 0
    → Memᴰ r (sent_over layout last_tick image calls)
    → frame_at frame 0 ≡ r.frame
    → sends other port frame out ≡ others other port frame out
sent_draws_no_answer image calls other port frame out r bytes bytes' ok sent same =
    unasked_unanswered other port frame out bytes' ok
    (subst (λ (f : Frame). Asks f → ⊥) (sym same) (every_member Silent (nothing_sent_asks image calls bytes) sent))

-- ---- Demand 3. Two forms alike in all but the line order of their serials: the same is seen after each call, for ever

pub order_decides_nothing :
    (form other image out : List ℕ) (calls : List Call)
    → Bytes form
    → Bytes other
    → Bytes image
    -- the same bytes in front, and the same serials in another order
    → Reordered form other
    → life layout last_tick form image out calls ≡ life layout last_tick other image out calls
order_decides_nothing form other image out calls = life_order layout last_tick in_service (lit< tt) form other image out calls

-- ---- Each contract allows one outcome: two that meet it coincide

pub one_outcome :
    (wanted : Outcome) (a b : Answer) (image image' out out' : List ℕ)
    → outcome_by a image out ≡ wanted
    → outcome_by b image' out' ≡ wanted
    → (a ≡ b) × (image ≡ image') × (out ≡ out')
one_outcome wanted a b image image' out out' p q =
    let e = p ∙ sym q in (
      λ d. record { number = (e d).number; records = (e d).records; fired = (e d).fired },
      ap (λ (o : Outcome). o.image) e,
      ap (λ (o : Outcome). o.out) e,
    )

pub one_reading :
    (wanted : Told) (a b : Reading)
    → reading_by a ≡ wanted
    → reading_by b ≡ wanted
    → a ≡ b
one_reading wanted a b p q = let e = p ∙ sym q in λ d. record { number = (e d).number; clock = (e d).clock }
