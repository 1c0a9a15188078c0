-- `player::play` meets its contract: where there is room for every listing the log's is put, and all that is put is the listing.
use mathlib.Core.Path.{◌≡◌, ap₂}
use mathlib.Core.List.{List}
use Prim.Native.Nat.{ℕ, ◌≤◌, ◌<◌}
use native.Mathlib.Omega.{arith}
use borrow.Author.Tests.{lt-ltb, le-ltb}
use lib.ListN.{length}
use Rattle.rules.specs.Describe.{last_tick}
use Rattle.node.specs.Layout.{layout}
use Rattle.logs.specs.Listing.{listing, listing_room, played}
use Rattle.forms.specs.Form.{done_write, refused_write}
use Rattle.text.specs.Puts.{Puts}
use Rattle.text.proofs.Pages.{wrote_from_start}
use Rattle.std.proofs.Common.{rules}
use Rattle.logs.proofs.player.play.Goals as goal

-- too little room
played_short : (log out : List ℕ) → length out < listing_room →
    refused_write 7 out ≡ played layout last_tick log out
unfolding played
played_short log out p = rw (lt-ltb (length out) listing_room p)

-- a listing laid from the start on
played_listed : (log out : List ℕ) {left : List ℕ} {size : ℕ} → listing_room ≤ length out →
    Puts out 0 (listing layout last_tick log) listing_room left size → done_write size left ≡ played layout last_tick log out
unfolding played
played_listed log out room put = rw (le-ltb (length out) listing_room room) (ap₂ done_write (omega (arith, put.behind)) put.left)

pub returns-then-out-lt-LISTING_ROOM-clause-told : goal.returns-then-out-lt-LISTING_ROOM-clause-told
returns-then-out-lt-LISTING_ROOM-clause-told c = played_short c.args.log.now c.args.out.now c.if-out-lt-LISTING_ROOM.true

pub returns-clause-told : goal.returns-clause-told
returns-clause-told c =
    let page = c.new-page.ensures in
    let put = wrote_from_start c.put_listing.ensures page.bytes page.len c.len.ensures (search rules) in
    played_listed _ _ c.if-out-lt-LISTING_ROOM.false put
