-- `calls::try_convert` meets its contract: a refusal writes nothing; past it the old image is sound and there is room, and the stores are
-- the definition's.
use mathlib.Core.Path.{sym}
use Prim.Native.Nat.{◌≤◌}
use native.Mathlib.Omega.{arith}
use lib.ListN.{get_or}
use Rattle.std.proofs.lemmas.Result.{err_from_is_err_and}
use Rattle.forms.specs.Roster.{most_lines}
use Rattle.rules.specs.Describe.{last_tick}
use Rattle.evidence.proofs.Layouts.{length_rows}
use Rattle.node.specs.Image.{node_of, state_of, put_state}
use Rattle.node.specs.Layout.{layout, old_layout, header_size}
use Rattle.node.proofs.Sound.{SoundBytes, sound_bytes, rows_inside, rows_limits}
use Rattle.node.proofs.Taken.{refusal}
use Rattle.converter.specs.Convert.{converted}
use Rattle.converter.proofs.Conversion.{Ready, number_ready}
use Rattle.converter.proofs.calls.try_convert.Goals.{In_ok-judge}
use Rattle.converter.proofs.calls.try_convert.Goals as goal

pub returns-in_err-judge : goal.returns-in_err-judge
unfolding converted
returns-in_err-judge c =
    let passed = err_from_is_err_and c.from_residual.result c.from_residual.ensures.1 in
    rw (passed.1, passed.2, ← c.in_err-judge.ensures, refusal c.in_err-judge.field-0.0)

-- past the refusals the old image is sound, and there is room
ready : (c : In_ok-judge) →
    let a = c.args in
    Ready old_layout layout last_tick a.old.now a.image.now
ready c =
    let a = c.args in
    number_ready old_layout layout last_tick a.old.now a.image.now (sym c.in_ok-judge.ensures)

facts : (c : In_ok-judge) → SoundBytes old_layout last_tick c.args.old.now
facts c = sound_bytes old_layout last_tick c.args.old.now (ready c).sound

-- n is at most 32
few : (c : In_ok-judge) → get_or c.args.old.now 0 0 ≤ most_lines
unfolding state_of node_of
few c =
    let old = c.args.old.now in
    omega (arith, rows_limits _ _ old_layout.masks (get_or old 0 0) old header_size (facts c).node.roster)

pub bounds-old-0 : goal.bounds-old-0
bounds-old-0 c = omega (arith, (facts (goal.at.bounds-old-0 c).In_ok-judge).header)

pub read_node-requires : goal.read_node-requires
read_node-requires c = (facts (goal.at.read_node-requires c).In_ok-judge).header

pub put_node-requires : goal.put_node-requires
unfolding node_of state_of
put_node-requires c =
    let there = (goal.at.put_node-requires c).In_ok-judge in
    let bytes = c.type_inv.old in
    rw c.read_node.ensures
    (record {
      inside = omega (arith, (ready there).room);
      lines = few there;
      faults = (bytes 1).fits;
      mode = (bytes 2).fits;
    })

pub new-requires : goal.new-requires
new-requires c =
    let h = facts (goal.at.new-requires c).In_ok-judge in
    rows_inside old_layout c.args.old.now h.fixed h.stated

pub widen-requires : goal.widen-requires
widen-requires c =
    let old = c.args.old.now in
    let n = get_or old 0 0 in
    rw (c.new.ensures, length_rows old_layout.masks n old header_size)
    (omega (arith, (ready (goal.at.widen-requires c).In_ok-judge).room, c.put_node.auto.b))

pub returns : goal.returns
unfolding converted put_state state_of node_of
returns c =
    rw (
      ← c.in_ok-judge.ensures,
      c.widen.ensures,
      c.new.ensures,
      c.put_node.ensures,
      c.read_node.ensures,
    )
