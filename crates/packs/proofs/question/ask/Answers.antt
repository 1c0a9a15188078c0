-- `question::ask` meets its contract: what the node refuses comes first, then what the sheet does, and else the entries say.
use Rattle.std.proofs.Common.{◌≡◌, ap, sym, ◌∙◌, ℕ}
use Rattle.std.proofs.lemmas.Result.{err_from_is_err_and}
use Rattle.rules.specs.Describe.{last_tick}
use Rattle.node.specs.Calls.{Reading, reading}
use Rattle.node.specs.Layout.{layout}
use Rattle.packs.specs.Question.{PackTold}
use Rattle.packs.proofs.Told.{told_unread, told_refused, pack_told_lem}
use Rattle.packs.proofs.question.ask.Goals.{In_ok-tick}
use Rattle.packs.proofs.question.ask.Goals as goal

pub returns-in_err-tick : goal.returns-in_err-tick
returns-in_err-tick c =
    let a = c.args in
    let why = c.in_err-tick.field-0.0 in
    let passed = err_from_is_err_and c.from_residual.result c.from_residual.ensures.1 in
    rw (passed.1, passed.2)
    (sym (told_unread layout last_tick a.sheet.now a.pack a.image.now why (sym (ap (λ (r : Reading). r.number) c.in_err-tick.ensures))))

-- past the first test the node tells its clock
active : (c : In_ok-tick) → (reading layout last_tick c.args.image.now).number ≡ 0
active c = sym (ap (λ (r : Reading). r.number) c.in_ok-tick.ensures)

pub returns-in_err-entries : goal.returns-in_err-entries
returns-in_err-entries c =
    let a = c.args in
    let why = c.in_err-entries.field-0.0 in
    let passed = err_from_is_err_and c.from_residual-in_err-entries.result c.from_residual-in_err-entries.ensures.1 in
    let clock = active (goal.at.returns-in_err-entries c).In_ok-tick in
    rw (passed.1, passed.2)
    (sym (told_refused layout last_tick a.sheet.now a.pack a.image.now clock why (sym c.in_err-entries.ensures.0)))

-- what is told with number 0 is how the pack stands
told : {k n : ℕ} → k ≡ n → ◌≡◌ {A = PackTold} (record { number = 0; licence = k }) (record { number = 0; licence = n })
told e d = record { number = 0; licence = e d }

pub returns : goal.returns
returns c =
    let a = c.args in
    let clock = active (goal.at.returns c).In_ok-tick in
    let tick = ap (λ (r : Reading). r.clock) c.in_ok-tick.ensures in
    rw (pack_told_lem layout last_tick a.sheet.now a.pack a.image.now clock (sym c.in_ok-entries.ensures.0))
    (told (c.licence.ensures ∙ rw (tick, c.in_ok-entries.ensures.1)))
