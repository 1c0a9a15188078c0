-- The rules of Figure 1 as document 01 fixes them ("One delivery"): R1 to R5 as conditions and effects, the first that can
-- fire, and firing until none can. While rules fire the evidence stands still, so a rule looks at rows through counts alone.
-- w is the window, last the last tick; p is the node (n lines, f faults, k its tick, the last echo sent).
use Rattle.std.specs.Prelude.{ℕ, zero, suc, ◌+◌, ◌-◌, max, List, [], ◌∷◌, ◌++◌, Bool, true, false, cond, ◌&&◌, ltb, leb, eqb}
use Rattle.fields.specs.Kind.{INIT, ECHO}
use Rattle.evidence.specs.Rows.{Row}
use Rattle.evidence.specs.Holders.{holders, greatest}
use Rattle.rules.specs.Record.{Outgoing, broadcast}
use Rattle.rules.specs.declared.node.Node.{Node}
use Rattle.rules.specs.declared.node.Rule.{Rule}
use Rattle.rules.specs.declared.node.Rule.TheVariants.{Rest, Echo, Tick, Jump, Wake}

-- ---- conditions

abbrev pub unsent : Node → Bool
unsent p = ltb p.sent p.tick

-- R1: (init, k) held by f + 1 and echo k unsent
abbrev pub can_r1 : ℕ → Node → List Row → Bool
can_r1 w p rows = leb (p.faults + 1) (holders w INIT p.tick rows) && unsent p

-- R2: (echo, k) held by f + 1 and echo k unsent
abbrev pub can_r2 : ℕ → Node → List Row → Bool
can_r2 w p rows = leb (p.faults + 1) (holders w ECHO p.tick rows) && unsent p

-- R3: (echo, k) held by n - f and k below the last tick
abbrev pub can_r3 : ℕ → ℕ → Node → List Row → Bool
can_r3 w last p rows = leb (p.lines - p.faults) (holders w ECHO p.tick rows) && ltb p.tick last

-- R4: the greatest l > k + 1 with (echo, l) held by f + 1, as l + 1; 0 where there is none
abbrev pub jump_to : ℕ → Node → List Row → ℕ
jump_to w p rows = greatest w ECHO (p.faults + 1) (p.tick + 2) rows

-- R5: passive, and the greatest x with (init, x) held by f + 1, as x + 1; 0 where there is none
abbrev pub wake_at : ℕ → Node → List Row → ℕ
wake_at w p rows = cond (eqb p.mode 0) (greatest w INIT (p.faults + 1) 0 rows) 0

abbrev pub or_wake : ℕ → Rule
or_wake zero = Rest
or_wake (suc x) = Wake x

abbrev pub or_jump : ℕ → Rule → Rule
or_jump zero rule = rule
or_jump (suc l) rule = Jump l

-- the first rule of the list that can fire. R1 and R2 have the same effect
unfoldable pub first_rule : ℕ → ℕ → List Row → Node → Rule
first_rule w last rows p =
    cond (can_r1 w p rows) Echo
    (cond (can_r2 w p rows) Echo
    (cond (can_r3 w last p rows) Tick
    (or_jump (jump_to w p rows) (or_wake (wake_at w p rows)))))

-- whether no rule fires
abbrev pub at_rest : Rule → Bool
at_rest Rest = true
at_rest Echo = false
at_rest Tick = false
at_rest (Jump l) = false
at_rest (Wake x) = false

-- ---- effects

-- the tick that R5 at x takes: the larger of x - 1 and k; x = 0 keeps k
abbrev pub woken : Node → ℕ → ℕ
woken p x = max (x - 1) p.tick

-- the node with this mode, tick and last echo
abbrev pub clocked : Node → ℕ → ℕ → ℕ → Node
clocked p mode tick sent = record { lines = p.lines; faults = p.faults; own = p.own; mode = mode; tick = tick; sent = sent }

unfoldable pub fired : Node → Rule → Node
fired p Rest = p
fired p Echo = clocked p p.mode p.tick p.tick
fired p Tick = clocked p p.mode (p.tick + 1) p.sent
fired p (Jump l) = clocked p p.mode (l - 1) (l - 1)
fired p (Wake x) = clocked p 1 (woken p x) (max p.sent (woken p x))

unfoldable pub said : Node → Rule → List Outgoing
said p Rest = []
said p Echo = broadcast ECHO p.tick ∷ []
said p Tick = broadcast INIT (p.tick + 1) ∷ []
said p (Jump l) = broadcast ECHO (l - 1) ∷ []
said p (Wake x) = cond (ltb p.sent (woken p x)) (broadcast ECHO (woken p x) ∷ []) []

-- ---- firing until none can

pub record Settled : Type 0 where
  pub node : Node
  pub records : List Outgoing
  pub firings : ℕ

-- a node at which nothing fires: it stays, and says nothing
abbrev pub still : Node → Settled
still p = record { node = p; records = []; firings = 0 }

-- a rule that has fired: what it says in front of what follows
abbrev pub follows : Node → Rule → Settled → Settled
follows p rule next = record { node = next.node; records = said p rule ++ next.records; firings = suc next.firings }

unfoldable pub firing : Node → Rule → Settled → Settled
firing p rule next = elim (at_rest rule) [ true ↦ still p | false ↦ follows p rule next ]

-- at most c firings. With `most_firings` the count never decides, from a sound image (proofs/AtRest.antt)
unfoldable pub settle : ℕ → ℕ → List Row → ℕ → Node → Settled
settle w last rows zero p = still p
settle w last rows (suc c) p =
    let rule = first_rule w last rows p in
    let next = settle w last rows c (fired p rule) in
    firing p rule next
