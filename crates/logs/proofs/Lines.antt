-- Laws of the listing's lines: the line of a call, the lines of the calls, and the lines of the events one by one. Over any layout
-- and last tick.
-- Assumes nothing.
use mathlib.Core.Path.{◌≡◌, subst}
use mathlib.Core.List.{List, [], ◌++◌, append-nil}
use Prim.Native.Nat.{ℕ, suc, ◌+◌, ◌-◌, ◌≤◌, ◌<◌}
use native.Mathlib.Omega.{arith}
use borrow.Author.Tests.{eq-eqb, ne_eqb}
use Rattle.node.specs.Calls.{Outcome}
use Rattle.node.specs.declared.layout.Layout.{Layout}
use Rattle.text.specs.Page.{Wrote}
use Rattle.text.specs.declared.page.Page.{Page}
use Rattle.logs.specs.Listing.{line_room, line_of, event_call, event_lines, call_lines}
use Rattle.logs.specs.Played.{text_of, call_line}
use Rattle.logs.specs.declared.line.Line.{Line}
use Rattle.logs.specs.Log.{event_size, count_of, events_at}

-- the text of a call's line
pub wrote_call : {old new : Page} {shown : Line} (e : ℕ) (o : Outcome) → shown ≡ call_line e o →
    Wrote old (text_of shown) line_room new → Wrote old (line_of e o) line_room new
unfolding line_of
wrote_call {old} {new} e o is wrote = subst (λ (l : Line). Wrote old (text_of l) line_room new) is wrote

module _ (L : Layout) (last : ℕ) (log : List ℕ) where
  -- a form that is refused has one line
  pub lines_refused : (o : Outcome) → (o.number ≡ 0 → ⊥) → call_lines L last log o ≡ line_of 0 o
  unfolding call_lines
  lines_refused o h = rw (ne_eqb o.number 0 h) (append-nil (line_of 0 o))

  -- behind a form that is taken stand the lines of the events
  pub lines_taken : (o : Outcome) → o.number ≡ 0 →
      call_lines L last log o ≡ line_of 0 o ++ event_lines L last log (count_of log) (events_at log) 1 o.image o.out
  unfolding call_lines
  lines_taken o h = rw (eq-eqb o.number 0 h)

  -- after i of n events, the line of the next and the lines of the others
  pub lines_step : (n i place : ℕ) (image sent : List ℕ) → i < n →
      let o = event_call L last log place image sent in
      line_of (i + 1) o ++ event_lines L last log (n - (i + 1)) (place + event_size) (i + 1 + 1) o.image o.out
      ≡ event_lines L last log (n - i) place (i + 1) image sent
  unfolding event_lines
  lines_step n i place image sent more =
      let left : n - i ≡ suc (n - (i + 1)) = omega arith in
      rw left

  -- past the last event no line is left
  pub lines_end : (n i place : ℕ) (image sent : List ℕ) → n ≤ i → event_lines L last log (n - i) place (i + 1) image sent ≡ []
  unfolding event_lines
  lines_end n i place image sent over =
      let none : n - i ≡ 0 = omega arith in
      rw none
