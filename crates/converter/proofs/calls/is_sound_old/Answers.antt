-- `calls::is_sound_old` meets its contract: without an old header an image is not sound, and with it its state decides.
use mathlib.Core.Path.{◌≡◌, sym, ap, ◌∙◌}
use Rattle.node.specs.Image.{headed, sound_image}
use Rattle.node.specs.Layout.{old_layout}
use Rattle.node.specs.declared.layout.Layout.{Layout}
use Rattle.node.proofs.Sound.{headed_facts, rows_inside}
use Rattle.converter.proofs.calls.is_sound_old.Goals.{After-has_header}
use Rattle.converter.proofs.calls.is_sound_old.Goals as goal

-- the header is judged by the old layout
judged : (c : After-has_header) → c.has_header.result ≡ headed old_layout c.args.old.now
judged c =
    let old = c.args.old.now in
    c.has_header.ensures ∙ ap (λ (L : Layout). headed L old) c.old.ensures

pub is_sound_old_state-requires : goal.is_sound_old_state-requires
is_sound_old_state-requires c =
    let asked = (goal.at.is_sound_old_state-requires c).After-has_header in
    let old = c.args.old.now in
    let head = headed_facts old_layout old (sym (judged asked) ∙ c.if-has_header.true) in
    rows_inside old_layout old head.fixed head.stated

pub returns-then-has_header : goal.returns-then-has_header
unfolding sound_image
returns-then-has_header c =
    let asked = (goal.at.returns-then-has_header c).After-has_header in
    rw (sym (judged asked) ∙ c.if-has_header.true) c.is_sound_old_state.ensures

pub returns-else-has_header : goal.returns-else-has_header
unfolding sound_image
returns-else-has_header c =
    let asked = (goal.at.returns-else-has_header c).After-has_header in
    rw (sym (judged asked) ∙ c.if-has_header.false) c.if-has_header.false
