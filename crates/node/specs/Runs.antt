-- What a truck sees of a node over its life (demand 3): boot, then any deliveries and reads, refused ones included; and after each
-- call the number, the records and output bytes, the rules fired, the clock and mode, and the evidence under each serial.
use Rattle.std.specs.Prelude.{ℕ, ◌+◌, List, [], ◌∷◌, cond, eqb}
use Rattle.sets.specs.Ticks.{holds}
use Rattle.evidence.specs.Rows.{Row, set_of}
use Rattle.node.specs.Calls.{Outcome, Reading, booted, deliver_outcome, reading}
use Rattle.node.specs.Image.{node_of, rows_of}
use Rattle.node.specs.declared.layout.Layout.{Layout}

-- a call: a frame delivered from a port, with the output lent to it; or a read
pub data Call : Type 0 where
  Deliver : ℕ → List ℕ → List ℕ → Call
  Read : Call

-- 1 where (kind, t) is held under a serial, else 0; the serials of an image stand once each
unfoldable pub under : ℕ → List Row → ℕ → ℕ → ℕ → ℕ
under w [] serial kind t = 0
under w (row ∷ rows) serial kind t = cond (eqb row.serial serial) (holds w (set_of kind row) t) 0 + under w rows serial kind t

-- what is seen after a call. `given` is the clock that a read gave
pub record Seen : Type 0 where
  pub number : ℕ
  pub records : ℕ
  pub fired : ℕ
  pub given : ℕ
  pub out : List ℕ
  pub clock : ℕ
  pub mode : ℕ
  pub evidence : ℕ → ℕ → ℕ → ℕ

unfoldable pub seen_by : Layout → Outcome → Seen
seen_by L o =
    record {
      number = o.number;
      records = o.records;
      fired = o.fired;
      given = 0;
      out = o.out;
      clock = (node_of o.image).tick;
      mode = (node_of o.image).mode;
      evidence = under L.window (rows_of L o.image);
    }

unfoldable pub seen_in : Layout → Reading → List ℕ → Seen
seen_in L r image =
    record {
      number = r.number;
      records = 0;
      fired = 0;
      given = r.clock;
      out = [];
      clock = (node_of image).tick;
      mode = (node_of image).mode;
      evidence = under L.window (rows_of L image);
    }

-- one call on an image: what is seen, and the image that is left
pub record Called : Type 0 where
  pub seen : Seen
  pub image : List ℕ

unfoldable pub called : Layout → ℕ → List ℕ → Call → Called
called L last image (Deliver port frame out) =
    record { seen = seen_by L (deliver_outcome L last image port frame out); image = (deliver_outcome L last image port frame out).image }
called L last image Read = record { seen = seen_in L (reading L last image) image; image = image }

unfoldable pub observed : Layout → ℕ → List ℕ → List Call → List Seen
observed L last image [] = []
observed L last image (call ∷ calls) = (called L last image call).seen ∷ observed L last (called L last image call).image calls

-- a whole life: boot from a form, then the calls
unfoldable pub life : Layout → ℕ → List ℕ → List ℕ → List ℕ → List Call → List Seen
life L last form image out calls = seen_by L (booted L form image out) ∷ observed L last (booted L form image out).image calls
