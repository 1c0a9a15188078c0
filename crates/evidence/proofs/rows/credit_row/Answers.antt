-- `rows::credit_row` meets its contract: where the serial has a row, one set of it is stored, and that is the list of rows
-- credited.
use mathlib.Core.Path.{◌≡◌, sym, ap, ◌∙◌}
use Prim.Native.Nat.{ℕ, suc, ◌+◌, ◌*◌, ◌≤◌}
use native.Mathlib.Omega.{arith}
use lib.ListN.{length}
use Rattle.fields.specs.Field.{Bytes}
use Rattle.sets.specs.Sets.{mask_bytes}
use Rattle.sets.specs.Ticks.{Held, add}
use Rattle.evidence.specs.Holders.{place_told, place_of}
use Rattle.evidence.specs.Rows.{row_bytes, rows_at, set_at, put_set, put_rows}
use Rattle.evidence.proofs.Credits.{credit_at, credit_none, place_none, place_le}
use Rattle.evidence.proofs.Layouts.{put_rows_lem}
use Rattle.evidence.proofs.rows.credit_row.Goals.{In-Some}
use Rattle.evidence.proofs.rows.credit_row.Goals as goal

-- the row was found at place k, which is one of the n
placed : (c : In-Some) →
    let a = c.args in
    place_of a.serial (rows_at mask_bytes a.n a.b.now a.i) ≡ suc c.in-Some.k
placed c = sym (c.find.ensures ∙ ap (place_of c.args.serial) c.new.ensures) ∙ ap place_told c.in-Some.is

room : (c : In-Some) →
    let a = c.args in
    a.i + row_bytes * c.in-Some.k + row_bytes ≤ length a.b.now
room c =
    let a = c.args in
    omega (arith, placed c, place_le a.serial mask_bytes a.n a.b.now a.i, c.requires.inside)

pub overflow_mul-at : goal.overflow_mul-at
overflow_mul-at c = omega (arith, room c)

pub overflow_add-at : goal.overflow_add-at
overflow_add-at c = omega (arith, room c)

pub overflow_add-at-in-Some : goal.overflow_add-at-in-Some
overflow_add-at-in-Some c =
    let row = (goal.at.overflow_add-at-in-Some c).In-Some in
    omega (arith, room row, c.set_place.ensures.1)

pub read_set-requires : goal.read_set-requires
read_set-requires c =
    let row = (goal.at.read_set-requires c).In-Some in
    omega (arith, room row, c.set_place.ensures.1)

pub store_set-requires : goal.store_set-requires
store_set-requires c =
    let row = (goal.at.store_set-requires c).In-Some in
    omega (arith, room row, c.set_place.ensures.1)

pub returns-in-Some : goal.returns-in-Some
returns-in-Some c =
    let found = (goal.at.returns-in-Some c).In-Some in
    let a = c.args in
    let b = a.b.now in
    let k = c.in-Some.k in
    let row = a.i + row_bytes * k in
    let place = c.set_place in
    let bytes : Bytes b = λ i. (c.slice_known-1.given i).fits in
    let read = c.read_set.ensures in
    let after = c.after-after.ensures ∙ ap (λ (s : Held). add a.w a.kind s a.j) read in
    c.store_set.ensures
    ∙ ap (put_set mask_bytes b (row + place.result)) after
    ∙ ap (λ (p : ℕ). put_set mask_bytes b (row + p) (add a.w a.kind (set_at mask_bytes b (row + p)) a.j)) place.ensures.0
    ∙ sym (credit_at mask_bytes a.w a.serial a.kind a.j a.n b a.i k bytes (placed found) c.requires.once)

pub returns-in_default : goal.returns-in_default
returns-in_default c =
    let a = c.args in
    let b = a.b.now in
    let nowhere = sym (c.find.ensures ∙ ap (place_of a.serial) c.new.ensures) ∙ ap place_told c.in_default.is in
    let none = place_none mask_bytes a.serial a.n b a.i nowhere in
    sym
    (ap (put_rows mask_bytes b a.i) (credit_none mask_bytes a.w a.serial a.kind a.j a.n b a.i none)
    ∙ put_rows_lem mask_bytes a.n b a.i (λ i. (c.slice_known-1.given i).fits))
