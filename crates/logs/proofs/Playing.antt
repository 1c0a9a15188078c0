-- Where a turn of the player begins: the lines put so far, with the lines that the events left have on the image and output of now,
-- are the lines of all events.
-- Assumes nothing.
use mathlib.Core.Path.{◌≡◌, refl}
use mathlib.Core.List.{List, ◌++◌, append_assoc, append-nil}
use Prim.Native.Nat.{ℕ, ◌+◌, ◌*◌, ◌-◌, ◌<◌}
use native.Mathlib.Omega.{arith}
use Rattle.rules.specs.Describe.{last_tick}
use Rattle.node.specs.Calls.{Outcome}
use Rattle.node.specs.Layout.{layout}
use Rattle.logs.specs.Listing.{line_room, line_of, event_call, event_lines}
use Rattle.logs.specs.Log.{event_size}
use Rattle.logs.specs.Played.{text_of, CallShown}
use Rattle.text.specs.Page.{Fits, Wrote}
use Rattle.text.specs.declared.page.Page.{Page}
use Rattle.logs.specs.declared.line.Line.{Line}
use Rattle.logs.proofs.Lines.{wrote_call, lines_step, lines_end}
use Rattle.text.proofs.Pages.{wrote_as, wrote_then}

-- the lines of events by the node's own description
abbrev pub lines : List ℕ → ℕ → ℕ → ℕ → List ℕ → List ℕ → List ℕ
lines = event_lines layout last_tick

-- where a turn begins, against the start: of n events, which stand in the log from `start` on, the first ones are played
pub record Playing
    (log : List ℕ) (start n : ℕ) (image₀ sent₀ : List ℕ) (page₀ : Page)
    (image sent : List ℕ) (page : Page) (event : ℕ) : Type 0 where
  pub done : List ℕ
  pub wrote : Wrote page₀ done (line_room * event) page
  pub all : done ++ lines log (n - event) (start + event_size * event) (event + 1) image sent ≡ lines log n start 1 image₀ sent₀

module _ {log : List ℕ} {start n : ℕ} {image₀ sent₀ : List ℕ} {page₀ : Page} {image sent : List ℕ} {page : Page} {event : ℕ}
    (h : Playing log start n image₀ sent₀ page₀ image sent page event) where
  -- a turn: the event's line behind those put
  pub plays : {shown : Line} {image₁ sent₁ : List ℕ} {after : Page} → Fits page₀ (line_room * n) → event < n →
      CallShown (event + 1) (event_call layout last_tick log (start + event_size * event) image sent) shown image₁ sent₁ →
      Wrote page (text_of shown) line_room after →
      Playing log start n image₀ sent₀ page₀ image₁ sent₁ after (event + 1)
  plays {shown} {image₁} {sent₁} {after} fits more p wrote =
      let place : ℕ = start + event_size * event in
      let o : Outcome = event_call layout last_tick log place image sent in
      let next : start + event_size * (event + 1) ≡ place + event_size = omega arith in
      record {
        done = h.done ++ line_of (event + 1) o;
        wrote = wrote_as (wrote_then h.wrote (omega arith) (wrote_call (event + 1) o p.line wrote)) refl (omega arith);
        all = rw (p.image_left_lem, p.out_left, next, append_assoc, lines_step layout last_tick log n event place image sent more) h.all;
      }

  -- past the last event all lines are put
  pub plays_all : event ≡ n → Wrote page₀ (lines log n start 1 image₀ sent₀) (line_room * n) page
  plays_all over =
      wrote_as h.wrote (rw (lines_end layout last_tick log n event _ image sent (omega arith), append-nil) at h.all) (omega arith)
