-- `rows::put_row` meets its contract: its three stores, one after the other, are the definition's.
use Rattle.evidence.specs.Rows.{put_row_bytes}
use Rattle.evidence.proofs.rows.put_row.Goals as goal

pub returns : goal.returns
unfolding put_row_bytes
returns c =
    let init = c in
    let echo = init in
    let serial = echo in
    rw (init.store_set-2.ensures, echo.store_set.ensures, serial.put_word.ensures)
