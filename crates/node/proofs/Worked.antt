-- 01's settled examples W1 to W10, about the definitions of the calls, with the flag of 02's A2 (the answers of W3 and W4 carry it) and
-- the firings of A6; and two runs whose last delivery fires as many rules and sends as many records as one can. One table, one claim.
-- A form is booted and frames are delivered one after the other, all as bytes. A line of W1 to W9 says the number given back, how many
-- rules fired, the bytes of the records sent, k and mode; W10 what 22 holds after echo 69, and after echo 70 instead.
-- Assumes nothing.
use mathlib.Core.Path.{◌≡◌, refl}
use mathlib.Core.List.{List, [], ◌∷◌}
use Prim.Native.Nat.{ℕ, zero, suc, ◌*◌}
use lib.ListN.{take, replicate}
use Rattle.fields.specs.Kind.{INIT, ECHO}
use Rattle.fields.specs.Field.{field, put_field, words}
use Rattle.forms.specs.Form.{lines_of, form_number}
use Rattle.forms.specs.Frame.{BROADCAST, ANSWER, frame_number, put_frame_bytes}
use Rattle.forms.specs.Column.{count, twins}
use Rattle.forms.specs.Roster.{roster_number}
use Rattle.sets.specs.Ticks.{Held, bit, raised, marked, holds, insert, insert_all, run, added, add, proper}
use Rattle.evidence.specs.Rows.{set_of, set_at, row_at, rows_at, put_set, put_row_bytes, put_rows}
use Rattle.evidence.specs.Rows.{credit_row, credit_of, credit, proper_set, proper_rows}
use Rattle.evidence.specs.Holders.{holders, held_under, first_down, best_of, best_among, greatest}
use Rattle.rules.specs.Describe.{window, last_tick, room, fresh_rows}
use Rattle.rules.specs.Record.{record_size, put_record_bytes, put_records}
use Rattle.rules.specs.Rules.{first_rule, fired, said, firing, settle}
use Rattle.rules.specs.Delivery.{answer, settled, delivered}
use Rattle.node.specs.Calls.{Outcome, boot_number, fresh_state, booted, number_before_a_frame, deliver_number, delivery_of, image_after}
use Rattle.node.specs.Calls.{deliver_outcome}
use Rattle.node.specs.Image.{node_of, rows_of, state_of, put_clock_bytes, put_fixed_bytes, put_node_bytes, put_state}
use Rattle.node.specs.Layout.{layout, image_size}
use Rattle.node.specs.Image.{fixed_header, headed, sound_state, sound_image}

-- ---- bytes, written out by 01's layouts; every number here is below 256

abbrev word : ℕ → List ℕ → List ℕ
word low more = 0 ∷ 0 ∷ 0 ∷ low ∷ more

-- n = 4, f = 1, offset 8, own serial 11, and the serials 11, 22, 33, 44
abbrev four : List ℕ
four = 4 ∷ 1 ∷ 0 ∷ 8 ∷ word 11 (word 11 (word 22 (word 33 (word 44 []))))

-- n = 1, f = 0, and the serial 11 alone
abbrev one : List ℕ
one = 1 ∷ 0 ∷ 0 ∷ 8 ∷ word 11 (word 11 [])

abbrev frame : ℕ → ℕ → ℕ → List ℕ → List ℕ
frame kind flag tick more = kind ∷ flag ∷ 0 ∷ 0 ∷ word tick more

-- an answer goes to one serial, with the flag; a broadcast to all, without it
abbrev answers : ℕ → ℕ → List ℕ → List ℕ
answers dest tick more = word dest (frame ECHO ANSWER tick more)

abbrev all : ℕ → ℕ → List ℕ → List ℕ
all kind tick more = word 0 (frame kind BROADCAST tick more)

-- ---- the play

record Event : Type 0 where
  port : ℕ
  frame : List ℕ

abbrev echo : ℕ → ℕ → Event
echo port tick = record { port = port; frame = frame ECHO BROADCAST tick [] }

abbrev init : ℕ → ℕ → Event
init port tick = record { port = port; frame = frame INIT BROADCAST tick [] }

-- what a line of the table says
record Line : Type 0 where
  number : ℕ
  fired : ℕ
  sent : List ℕ
  k : ℕ
  mode : ℕ

abbrev line : ℕ → List ℕ → ℕ → ℕ → Line
line fired sent k mode = record { number = 0; fired = fired; sent = sent; k = k; mode = mode }

abbrev line_of : Outcome → Line
line_of o =
    record {
      number = o.number;
      fired = o.fired;
      sent = take (record_size * o.records) o.out;
      k = (node_of o.image).tick;
      mode = (node_of o.image).mode;
    }

-- what a call reports, in short
record Figures : Type 0 where
  number : ℕ
  fired : ℕ
  records : ℕ

abbrev figures : ℕ → ℕ → Figures
figures fired records = record { number = 0; fired = fired; records = records }

abbrev figures_of : Outcome → Figures
figures_of o = record { number = o.number; fired = o.fired; records = o.records }

abbrev boots : List ℕ → Outcome
boots form = booted layout form (replicate (image_size layout (lines_of form)) 0) (replicate room 0)

abbrev deliver : List ℕ → Event → Outcome
deliver image e = deliver_outcome layout last_tick image e.port e.frame (replicate room 0)

-- a list turned round onto another: turned twice it is the list, and every byte of it is computed once, before it is used again
turned : List ℕ → List ℕ → List ℕ
turned [] more = more
turned (x ∷ xs) more = turned xs (x ∷ more)

-- what follows, on the image that is turned twice
onwards : {A : Type 0} → List ℕ → List ℕ → (List ℕ → A) → A
onwards [] more next = next (turned more [])
onwards (x ∷ xs) more next = onwards xs (x ∷ more) next

-- the echo ticks below n that a set holds, the greatest first
ticks_below : ℕ → Held → List ℕ
ticks_below zero s = []
ticks_below (suc n) s = elim (holds window s n) [ zero ↦ ticks_below n s | suc k ↦ n ∷ ticks_below n s ]

-- what a serial holds after a call
abbrev held_from : ℕ → Outcome → List ℕ
held_from serial o = ticks_below 140 (held_under (rows_of layout o.image) serial ECHO)

-- what is said of each call, one after the other, and of the image that is left
record Play (A B : Type 0) : Type 0 where
  calls : List A
  left : B

play : {A B : Type 0} → (Outcome → A) → (List ℕ → B) → List Event → Outcome → Play A B
play says ends [] o = record { calls = says o ∷ []; left = onwards o.image [] ends }
play says ends (e ∷ es) o =
    let rest = onwards o.image [] (λ image. play says ends es (deliver image e)) in
    record { calls = says o ∷ rest.calls; left = rest.left }

-- what 22 holds after one delivery more
record Held22 : Type 0 where
  with_69 : List ℕ
  with_133 : List ℕ
  with_134 : List ℕ

abbrev held22 : List ℕ → Held22
held22 image =
    record {
      with_69 = held_from 22 (deliver image (echo 22 69));
      with_133 = held_from 22 (deliver image (echo 22 133));
      with_134 = held_from 22 (deliver image (echo 22 134));
    }

-- W2 to W9
abbrev story : List Event
story = echo 11 0 ∷ echo 22 0 ∷ echo 33 0 ∷ init 11 1 ∷ init 22 1 ∷ echo 44 1 ∷ echo 33 5 ∷ echo 22 6 ∷ echo 44 4 ∷ []

-- the firings and records of a run from boot on
abbrev figures_over : List ℕ → List Event → List Figures
figures_over form events = (play figures_of (λ image. tt {0}) events (boots form)).calls

-- a node alone: the last echo gives it the ticks 5, 6 and 7, and it holds init 8
abbrev most_alone : List Event
most_alone = echo 11 0 ∷ init 11 4 ∷ echo 11 3 ∷ echo 11 4 ∷ init 11 8 ∷ echo 11 7 ∷ []

-- one of four: it is woken at 0, holds init 2 from two and echo 1 from three; the last echo 0 asks, and gives it tick 0 from three
abbrev most_together : List Event
most_together =
    init 22 1 ∷ init 33 1 ∷ init 22 2 ∷ init 33 2 ∷ echo 44 3 ∷ echo 11 1 ∷ echo 22 1 ∷ echo 33 0 ∷ []

record Examples : Type 0 where
  settled : Play Line Held22
  alone : List Figures
  together : List Figures

settled_examples :
    ◌≡◌ {A = Examples}
    (record {
      settled = play line_of held22 story (boots four);
      alone = figures_over one most_alone;
      together = figures_over four most_together;
    })
    (record {
      settled =
          record {
            calls =
                -- W1 to W4
                line 0 (all ECHO 0 []) 0 0
                ∷ line 0 [] 0 0
                ∷ line 0 (answers 22 0 []) 0 0
                ∷ line 1 (answers 33 0 (all INIT 1 [])) 1 0
                -- W5, W6: R1, and R5 without a record
                ∷ line 0 [] 1 0
                ∷ line 2 (all ECHO 1 []) 1 1
                -- W7, two deliveries
                ∷ line 0 [] 1 1
                ∷ line 0 [] 1 1
                -- W8, W9
                ∷ line 1 (all ECHO 4 []) 4 1
                ∷ line 2 (all INIT 5 (all ECHO 5 [])) 5 1
                ∷ [];
            -- W10, worked again with A8's window: the paper's echo 69 drops nothing now, and the edges are at 133 and 134
            left =
                record {
                  with_69 = 69 ∷ 68 ∷ 67 ∷ 6 ∷ 5 ∷ 4 ∷ 0 ∷ [];
                  with_133 = 133 ∷ 132 ∷ 131 ∷ 6 ∷ [];
                  with_134 = 134 ∷ 133 ∷ 132 ∷ [];
                };
          };
      -- A6: 7 firings and 7 records
      alone =
          figures 0 1
          ∷ figures 1 1
          ∷ figures 1 1
          ∷ figures 2 2
          ∷ figures 1 1
          ∷ figures 0 0
          ∷ figures 7 7
          ∷ [];
      -- A6: 4 firings and 5 records; the second init wakes the node, without a record
      together =
          figures 0 1
          ∷ figures 0 0
          ∷ figures 1 0
          ∷ figures 0 0
          ∷ figures 0 0
          ∷ figures 0 0
          ∷ figures 0 0
          ∷ figures 0 0
          ∷ figures 4 5
          ∷ [];
    })
unfolding turned onwards ticks_below play booted boot_number fresh_state deliver_outcome number_before_a_frame deliver_number delivery_of image_after
    form_number frame_number roster_number count twins sound_image headed sound_state fixed_header state_of node_of put_state put_node_bytes put_fixed_bytes put_clock_bytes
    fresh_rows field put_field words put_frame_bytes put_record_bytes put_records rows_at row_at set_at put_rows put_row_bytes put_set proper_rows proper_set
    proper delivered settled answer settle firing first_rule fired said credit credit_of credit_row set_of holders held_under greatest
    best_among best_of first_down holds bit insert insert_all raised marked run added add
settled_examples = refl
