-- `image::sound_node` meets its contract: without its header an image is not sound, and with it its state decides.
use mathlib.Core.Path.{◌≡◌, refl, sym, ap, ◌∙◌}
use mathlib.Core.Bool.{Bool, true}
use mathlib.Core.List.{List}
use Prim.Native.Nat.{ℕ}
use Rattle.rules.specs.Describe.{window, last_tick}
use Rattle.rules.specs.declared.node.Node.{Node}
use Rattle.node.specs.Image.{node_of, state_of, state_with, headed, sound_state, sound_image}
use Rattle.node.specs.Layout.{layout}
use Rattle.node.specs.declared.layout.Layout.{Layout}
use Rattle.node.proofs.Sound.{Headed, headed_facts, rows_inside}
use Rattle.node.proofs.image.sound_node.Goals.{Else-not-has_header, After-is_sound_state}
use Rattle.node.proofs.image.sound_node.Goals as goal

-- the header is judged by the layout in service
judged : {L : Layout} {judgement : Bool} (b : List ℕ) → judgement ≡ headed L b → L ≡ layout → judgement ≡ headed layout b
judged b by in_service = by ∙ ap (λ (L : Layout). headed L b) in_service

-- past the first test the header is there
there : (c : Else-not-has_header) → headed layout c.args.b.now ≡ true
there c = sym (judged c.args.b.now c.has_header.ensures c.in_service.ensures) ∙ c.if-not-has_header.false

facts : (c : Else-not-has_header) → Headed layout c.args.b.now
facts c = headed_facts layout c.args.b.now (there c)

pub returns-then-not-has_header : goal.returns-then-not-has_header
unfolding sound_image
returns-then-not-has_header c =
    let no = sym (judged c.args.b.now c.has_header.ensures c.in_service.ensures) ∙ c.if-not-has_header.true in
    record { sound = tt; refused = (rw no, refl) }

pub read_node-node-requires : goal.read_node-node-requires
read_node-node-requires c = (facts (goal.at.read_node-node-requires c).Else-not-has_header).header

pub is_sound_state-requires : goal.is_sound_state-requires
unfolding node_of
is_sound_state-requires c =
    let header = facts (goal.at.is_sound_state-requires c).Else-not-has_header in
    rw c.read_node-node.ensures (rows_inside layout c.args.b.now header.fixed header.stated)

-- and the state decides
state : (c : After-is_sound_state) → headed layout c.args.b.now ≡ true → sound_image layout last_tick c.args.b.now ≡ c.is_sound_state.result
unfolding sound_image state_of node_of
state c there =
    let b = c.args.b.now in
    rw there
    (sym (c.is_sound_state.ensures ∙ ap (λ (p : Node). sound_state window last_tick (state_with layout p b)) c.read_node-node.ensures))

pub returns-then-not-is_sound_state : goal.returns-then-not-is_sound_state
returns-then-not-is_sound_state c =
    let at = goal.at.returns-then-not-is_sound_state c in
    record { sound = tt; refused = (state at.After-is_sound_state (there at.Else-not-has_header) ∙ c.if-not-is_sound_state.true, refl) }

pub returns : goal.returns
returns c =
    let at = goal.at.returns c in
    record {
      sound = (
        state at.After-is_sound_state (there at.Else-not-has_header) ∙ c.if-not-is_sound_state.false,
        c.read_node-node.ensures,
      );
      refused = tt;
    }
