-- What the log's writer wrote its reader gives back, form and events too, and what the reader took the writer writes again byte for
-- byte; bytes behind what is written stay, and a refusal changes no byte.
-- Assumes nothing.
use mathlib.Core.Path.{◌≡◌, refl, sym, ap, ap₂, ◌∙◌}
use mathlib.Core.List.{List, ◌++◌, append_assoc}
use Prim.Native.Nat.{ℕ, ◌+◌, ◌-◌, ◌*◌, ◌/◌, ◌≤◌, ◌<◌}
use native.Mathlib.Omega.{arith}
use lib.ListN.{length, get_or, take, drop, length-append, length-drop, take-append-drop, get_or-append}
use lib.Seq.{length-take-le, get_or-take, take_at, drop_at, take-add}
use Rattle.fields.specs.Field.{field, put_field, Bytes}
use Rattle.forms.specs.Form.{WriteTold, done_write}
use Rattle.fields.proofs.Fields.{drop_put, field_same, field_put, field_put_other, length_put, take_put_field}
use Rattle.forms.proofs.Meaning.{told}
use Rattle.text.specs.Lay.{lay}
use Rattle.text.proofs.Lays.{take_lay, drop_lay, length_lay}
use Rattle.logs.specs.Log.{form_place, event_size, count_of, form_at, events_at, form_of, events_of, log_number, LogTold, log_told}
use Rattle.logs.specs.Log.{log_size, put_head, put_log, log_written}
use Rattle.logs.specs.Table.{Laid, Fit}
use Rattle.logs.proofs.Meaning.{log_taken, log_told_lem}
use Rattle.logs.proofs.Logs.{told_laid, written_fit}
use Rattle.logs.proofs.Logs.{Answer, wrote, refused, answer}

-- ---- the bytes that the writer leaves

module _ (form events out : List ℕ) (room : log_size form events ≤ length out) where
  abbrev front : List ℕ
  front = put_head out form events

  long : length front ≡ length out
  long = simp length_put

  long_form : length (lay front form_place form) ≡ length out
  long_form = length_lay front form_place form (omega (arith, long)) ∙ long

  -- behind the three numbers stands the form, and behind that the events
  take_log : take (log_size form events) (put_log out form events) ≡ take form_place front ++ form ++ events
  unfolding put_log
  take_log =
      take_lay (lay front form_place form) (form_place + length form) events (omega (arith, long_form))
      ∙ ap (λ (l : List ℕ). l ++ events) (take_lay front form_place form (omega (arith, long)))

  drop_log : drop (log_size form events) (put_log out form events) ≡ drop (log_size form events) out
  unfolding put_log
  drop_log =
      let n : ℕ = log_size form events in
      drop_lay (lay front form_place form) (form_place + length form) events n (omega arith) (omega (arith, long_form))
      ∙ drop_lay front form_place form n (omega arith) (omega (arith, long))
      ∙ drop_put 4 _ 8 (form_place + length form) n (omega arith)
      ∙ drop_put 4 _ 4 form_place n (omega arith)
      ∙ drop_put 4 out 0 (length events / event_size) n (omega arith)

  length_log : length (put_log out form events) ≡ length out
  unfolding put_log
  length_log = length_lay (lay front form_place form) (form_place + length form) events (omega (arith, long_form)) ∙ long_form

-- ---- what is written reads back

-- number 0 is given only where all is written
done : {form events out : List ℕ} {told : WriteTold} → Answer form events out told → told.number ≡ 0 →
    Fit form events × (log_size form events ≤ length out)
done (wrote f p) e = (f, p)
done (refused n) e = absurd (omega arith)

-- the bytes that a writer says it wrote
abbrev pub bytes_of : WriteTold → List ℕ
bytes_of told = take told.written told.out

-- a log that the writer gave number 0
module _ (form events out : List ℕ) (ok : (log_written form events out).number ≡ 0) where
  fit : Fit form events
  fit = (done (answer form events out) ok).0

  room : log_size form events ≤ length out
  room = (done (answer form events out) ok).1

  -- the three numbers
  abbrev head : List ℕ
  head = take form_place (put_head out form events)

  log : List ℕ
  log = head ++ form ++ events

  -- every byte of the log: numbers, form, events
  bytes_log : bytes_of (log_written form events out) ≡ log
  unfolding log
  bytes_log = ap bytes_of (written_fit form events out fit room) ∙ take_log form events out room

  ahead : length head ≡ form_place
  ahead = length-take-le form_place (put_head out form events) (omega (arith, room, long form events out room))

  ahead_form : length (head ++ form) ≡ form_place + length form
  ahead_form = omega (arith, length-append head form, ahead)

  -- a number in front of the form
  header : (i : ℕ) → i + 4 ≤ form_place → field 4 log i ≡ field 4 (put_head out form events) i
  unfolding log
  header i p = field_same 4 log (put_head out form events) i i (λ k q. each (i + k) (omega arith))
    where
      each : (j : ℕ) → j < form_place → get_or log j 0 ≡ get_or (put_head out form events) j 0
      each j q =
          get_or-append (head ++ form) events 0 j (omega (arith, ahead_form))
          ∙ get_or-append head form 0 j (omega (arith, ahead))
          ∙ get_or-take form_place (put_head out form events) j 0 q

  count_back : count_of log ≡ length events / event_size
  count_back =
      header 0 (omega arith)
      ∙ field_put_other 4 4 _ 8 (form_place + length form) 0 (omega arith)
      ∙ field_put_other 4 4 _ 4 form_place 0 (omega arith)
      ∙ field_put 4 out 0 (length events / event_size) (omega (arith, room)) (omega (arith, fit))

  offset_back : form_at log ≡ form_place
  offset_back =
      header 4 (omega arith)
      ∙ field_put_other 4 4 _ 8 (form_place + length form) 4 (omega arith)
      ∙ field_put 4 _ 4 form_place (simp length_put (omega (arith, room))) (omega arith)

  events_at_back : events_at log ≡ form_place + length form
  events_at_back =
      header 8 (omega arith) ∙ field_put 4 _ 8 (form_place + length form) (simp length_put (omega (arith, room))) (omega (arith, fit))

  laid : Laid log
  unfolding log
  laid =
      record {
        form = offset_back;
        least = omega (arith, events_at_back, fit);
        most = omega (arith, events_at_back, fit);
        few = omega (arith, count_back, fit);
        whole = omega (arith, length-append (head ++ form) events, ahead_form, events_at_back, count_back, fit);
      }

  -- the length of the three numbers and both parts is written
  pub log_written_lem : (log_written form events out).written ≡ log_size form events
  log_written_lem = ap (λ (t : WriteTold). t.written) (written_fit form events out fit room)

  -- its bytes are read back with the count of events and where they begin
  pub log_read_back :
      log_told (bytes_of (log_written form events out))
      ≡ record { number = 0; count = length events / event_size; events = form_place + length form }
  log_read_back =
      ap log_told bytes_log
      ∙ told_laid log laid
      ∙ ap₂ {C = LogTold} (λ (n e : ℕ). record { number = 0; count = n; events = e }) count_back events_at_back

  -- with the form
  pub form_read_back : form_of (bytes_of (log_written form events out)) ≡ form
  unfolding form_of log
  form_read_back =
      rw (bytes_log, events_at_back, append_assoc, drop_at head (form ++ events) form_place ahead)
      (take_at form events (form_place + length form - form_place) (omega arith))

  -- and with the events
  pub events_read_back : events_of (bytes_of (log_written form events out)) ≡ events
  unfolding events_of log
  events_read_back = rw (bytes_log, events_at_back) (drop_at (head ++ form) events (form_place + length form) ahead_form)

-- bytes behind what is written stay, and so does the length, whatever the number
pub log_kept : (form events out : List ℕ) →
    let told = log_written form events out in
    (drop told.written told.out ≡ drop told.written out) × (length told.out ≡ length out)
log_kept form events out = go (answer form events out)
  where
    go : {told : WriteTold} → Answer form events out told →
        (drop told.written told.out ≡ drop told.written out) × (length told.out ≡ length out)
    go (wrote f p) = (drop_log form events out p, length_log form events out p)
    go (refused n) = (refl, refl)

-- a log that is refused is not written at all
pub log_refused : (form events out : List ℕ) → ((log_written form events out).number ≡ 0 → ⊥) →
    ((log_written form events out).written ≡ 0) × ((log_written form events out).out ≡ out)
log_refused form events out = go (answer form events out)
  where
    go : {told : WriteTold} → Answer form events out told → (told.number ≡ 0 → ⊥) → (told.written ≡ 0) × (told.out ≡ out)
    go (wrote f p) no_zero = absurd (no_zero refl)
    go (refused n) no_zero = (refl, refl)

-- ---- what was read is written again

-- a log that the reader took
module _ (b : List ℕ) (l : Laid b) where
  length_form : form_place + length (form_of b) ≡ events_at b
  unfolding form_of
  length_form =
      omega (arith, length-take-le (events_at b - form_place) (drop form_place b) (omega (arith, length-drop form_place b)))

  length_events : length (events_of b) ≡ event_size * count_of b
  unfolding events_of
  length_events = omega (arith, length-drop (events_at b) b)

  -- its parts are taken
  fit_again : Fit (form_of b) (events_of b)
  fit_again =
      record {
        least = omega (arith, length_form);
        most = omega (arith, length_form);
        whole = omega (arith, length_events);
        few = omega (arith, length_events);
      }

  size_again : log_size (form_of b) (events_of b) ≡ length b
  size_again = omega (arith, length_form, length_events)

  -- it is its three numbers, its form and its events
  parts : take form_place b ++ form_of b ++ events_of b ≡ b
  unfolding form_of events_of
  parts =
      let e : form_place + (events_at b - form_place) ≡ events_at b = omega arith in
      let front = sym (take-add form_place (events_at b - form_place) b) ∙ ap (λ (n : ℕ). take n b) e in
      ap (λ (x : List ℕ). x ++ drop (events_at b) b) front ∙ take-append-drop (events_at b) b

  -- its numbers are written again
  front_again : Bytes b → (out : List ℕ) → length b ≤ length out → take form_place (put_head out (form_of b) (events_of b)) ≡ take form_place b
  front_again h out p =
      let head : ℕ → ℕ → ℕ → List ℕ = λ n f e. take form_place (put_field 4 (put_field 4 (put_field 4 out 0 n) 4 f) 8 e) in
      ap₂ (λ (n e : ℕ). head n form_place e) (omega (arith, length_events)) length_form
      ∙ ap (λ (f : ℕ). head (count_of b) f (events_at b)) (sym l.form)
      ∙ take_put_field 4 _ b 8 h (simp length_put (omega arith)) (omega arith)
      (take_put_field 4 _ b 4 h (simp length_put (omega arith)) (omega arith)
      (take_put_field 4 out b 0 h (omega arith) (omega arith) refl))

-- what the reader took, the writer writes byte for byte, over the front of the output
pub log_written_again : (b out : List ℕ) → Bytes b → log_number b ≡ 0 → length b ≤ length out →
    log_written (form_of b) (events_of b) out ≡ done_write (length b) (b ++ drop (length b) out)
log_written_again b out h e p =
    written_fit form events out (fit_again b l) room
    ∙ ap₂ done_write size
    (sym (take-append-drop (log_size form events) (put_log out form events)) ∙ ap₂ (λ (x y : List ℕ). x ++ y) again behind)
  where
    l : Laid b
    l = (log_taken b).0 (log_told_lem b ∙ e)

    form : List ℕ
    form = form_of b

    events : List ℕ
    events = events_of b

    size : log_size form events ≡ length b
    size = size_again b l

    room : log_size form events ≤ length out
    room = omega (arith, size)

    again : take (log_size form events) (put_log out form events) ≡ b
    again = take_log form events out room ∙ ap (λ (x : List ℕ). x ++ form ++ events) (front_again b l h out p) ∙ parts b l

    behind : drop (log_size form events) (put_log out form events) ≡ drop (length b) out
    behind = drop_log form events out room ∙ ap (λ (n : ℕ). drop n out) size
