-- The question stopped early: its answer is the full count's, it reads at most all rows, and none exactly where m tells alone; nothing
-- beyond the rows read decides, and after fewer of them the answer is still open. So this is the earliest stop, not just an early one.
-- Assumes nothing.
use mathlib.Core.Path.{◌≡◌, refl, sym, ap, ◌∙◌, subst}
use mathlib.Core.Logic.{◌⊎◌, inl, inr}
use mathlib.Core.Bool.{Bool, true, false, cond, ◌&&◌, and-eq-true_iff}
use mathlib.Core.List.{List, [], ◌∷◌, Permᴰ}
use Prim.Native.Nat.{ℕ, zero, suc, ◌+◌, ◌-◌, ◌*◌, ◌≤◌, ◌<◌}
use native.Mathlib.Decide.{dec_le, dec_lt}
use native.Mathlib.Nat.{zero-mul, suc-mul, mul-zero, mul-one}
use native.Mathlib.Omega.{arith}
use borrow.Author.Tests.{lt-ltb, le-ltb, le-leb, lt-leb, eq-eqb, ne_eqb}
use lib.Dec.{leb, eqb}
use lib.ListN.{length, get_or, take, drop, length-drop}
use Rattle.fields.specs.Kind.{ECHO}
use Rattle.sets.specs.Ticks.{Held, empty, holds, insert, proper}
use Rattle.sets.proofs.Members.{holds_le, insert_new, insert_top, insert_proper, bare, proper_empty, proper_facts, proper_test}
use Rattle.evidence.specs.Early.{decided_as, one_more, decide, Open}
use Rattle.evidence.specs.Holders.{holders}
use Rattle.evidence.specs.Rows.{Row, no_row, row_with, set_of, proper_set, proper_rows}
use Rattle.evidence.specs.Serials.{serials_in}
use Rattle.evidence.specs.declared.early.Decided.{Decided}
use Rattle.evidence.proofs.Columns.{holders_few}
use Rattle.evidence.proofs.Lists.{row_and_rest}
use Rattle.evidence.proofs.Orders.{holders_order}

-- ---- one step

-- where k rows were read before
abbrev pub read_before : ℕ → Decided → Decided
read_before k d = decided_as d.held (k + d.read)

module _ (w kind t : ℕ) where
  pub decide_yes : (m : ℕ) (rows : List Row) → m ≡ 0 → decide w kind t m rows ≡ decided_as true 0
  unfolding decide
  decide_yes m [] e = rw (eq-eqb m 0 e)
  decide_yes m (row ∷ rows) e = rw (eq-eqb m 0 e)

  pub decide_no : (m : ℕ) (rows : List Row) → length rows < m → decide w kind t m rows ≡ decided_as false 0
  unfolding decide
  decide_no m [] p = rw (ne_eqb m 0 (λ e. omega arith))
  decide_no m (row ∷ rows) p = rw (ne_eqb m 0 (λ e. omega arith), lt-ltb (suc (length rows)) m p)

  decide_read :
      (m : ℕ) (row : Row) (rows : List Row) → 0 < m → m ≤ suc (length rows) →
      decide w kind t m (row ∷ rows) ≡ one_more (decide w kind t (m - holds w (set_of kind row) t) rows)
  unfolding decide
  decide_read m row rows p q = rw (ne_eqb m 0 (λ e. omega arith), le-ltb (suc (length rows)) m q)

  -- the same with k rows read before
  module _ (m k : ℕ) (rows : List Row) where
    pub decide_enough : m ≡ 0 → read_before k (decide w kind t m rows) ≡ decided_as true k
    decide_enough e = ap (read_before k) (decide_yes m rows e) ∙ ap (decided_as true) (omega arith)

    pub decide_too_few : length rows < m → read_before k (decide w kind t m rows) ≡ decided_as false k
    decide_too_few p = ap (read_before k) (decide_no m rows p) ∙ ap (decided_as false) (omega arith)

  -- and from row k of a list on, which is read
  pub decide_down :
      (m k : ℕ) (rows : List Row) → k < length rows → 0 < m → m + k ≤ length rows →
      read_before k (decide w kind t m (drop k rows))
      ≡ read_before (k + 1) (decide w kind t (m - holds w (set_of kind (get_or rows k no_row)) t) (drop (k + 1) rows))
  decide_down m k rows more p q =
      let rest = drop (k + 1) rows in
      let next = decide w kind t (m - holds w (set_of kind (get_or rows k no_row)) t) rest in
      ap (λ (rs : List Row). read_before k (decide w kind t m rs)) (row_and_rest rows k more)
      ∙ ap (read_before k) (decide_read m (get_or rows k no_row) rest p (omega (arith, length-drop (k + 1) rows)))
      ∙ ap (decided_as next.held) (omega arith)

  -- the way of a question: nothing is lacking, or the rows are too few, or a row is read and the way goes on
  data Way : ℕ → List Row → Type 0 where
    enough : {m : ℕ} {rows : List Row} → m ≡ 0 → Way m rows
    too_few : {m : ℕ} {rows : List Row} → length rows < m → Way m rows
    reads :
        {m : ℕ} {row : Row} {rows : List Row} → 0 < m → m ≤ suc (length rows) → Way (m - holds w (set_of kind row) t) rows →
        Way m (row ∷ rows)

  way : (m : ℕ) (rows : List Row) → Way m rows
  way m [] =
      elim (dec_lt 0 m) [ yes p ↦ too_few {m = m} {rows = []} p | no p ↦ enough {m = m} {rows = []} (omega arith) ]
  way m (row ∷ rows) =
      let next = way (m - holds w (set_of kind row) t) rows in
      elim (dec_lt 0 m) [
        | yes p ↦
            elim (dec_lt (suc (length rows)) m) [
              | yes q ↦ too_few {m = m} {rows = row ∷ rows} q
              | no q ↦ reads {m = m} {row = row} {rows = rows} p (omega arith) next
            ]
        | no p ↦ enough {m = m} {rows = row ∷ rows} (omega arith)
      ]

  -- ---- the answer is the full count's

  less_found : (m x h : ℕ) → x ≤ m → leb (m - x) h ≡ leb m (x + h)
  less_found m x h p =
      elim (dec_le (m - x) h) [
        | yes q ↦ le-leb (m - x) h q ∙ sym (le-leb m (x + h) (omega arith))
        | no q ↦ lt-leb (m - x) h (omega arith) ∙ sym (lt-leb m (x + h) (omega arith))
      ]

  pub early_is_full : (m : ℕ) (rows : List Row) → (decide w kind t m rows).held ≡ leb m (holders w kind t rows)
  unfolding holders
  early_is_full m rows = go m rows (way m rows)
    where
      go : (m : ℕ) (rows : List Row) → Way m rows → (decide w kind t m rows).held ≡ leb m (holders w kind t rows)
      go m rows (enough e) = rw (decide_yes m rows e) (sym (le-leb m (holders w kind t rows) (omega arith)))
      go m rows (too_few p) = rw (decide_no m rows p) (sym (lt-leb m (holders w kind t rows) (omega (arith, holders_few w kind t rows))))
      go m (row ∷ rows) (reads p q next) =
          let x = holds w (set_of kind row) t in
          ap (λ d. d.held) (decide_read m row rows p q) ∙ go (m - x) rows next
          ∙ less_found m x (holders w kind t rows) (omega (arith, holds_le w (set_of kind row) t))

  -- as it is asked of an answer in hand
  pub full_told :
      (m : ℕ) (rows : List Row) {d : Decided} → d ≡ decide w kind t m rows → leb m (holders w kind t rows) ≡ d.held
  full_told m rows e = sym (early_is_full m rows) ∙ ap (λ (d : Decided). d.held) (sym e)

  -- so the order of rows does not decide it
  pub early_order :
      (m : ℕ) {rows others : List Row} → Permᴰ rows others → (decide w kind t m rows).held ≡ (decide w kind t m others).held
  early_order m {rows} {others} p =
      early_is_full m rows ∙ ap (leb m) (holders_order w kind t p) ∙ sym (early_is_full m others)

  -- ---- how many rows are read

  pub read_most : (m : ℕ) (rows : List Row) → (decide w kind t m rows).read ≤ length rows
  read_most m rows = go m rows (way m rows)
    where
      go : (m : ℕ) (rows : List Row) → Way m rows → (decide w kind t m rows).read ≤ length rows
      go m rows (enough e) = omega (arith, ap (λ d. d.read) (decide_yes m rows e))
      go m rows (too_few p) = omega (arith, ap (λ d. d.read) (decide_no m rows p))
      go m (row ∷ rows) (reads p q next) =
          omega (arith, ap (λ d. d.read) (decide_read m row rows p q), go (m - holds w (set_of kind row) t) rows next)

  -- none, exactly where m is 0 or there are fewer rows
  pub none_read : (m : ℕ) (rows : List Row) → (m ≡ 0) ⊎ (length rows < m) → (decide w kind t m rows).read ≡ 0
  none_read m rows (inl e) = ap (λ d. d.read) (decide_yes m rows e)
  none_read m rows (inr p) = ap (λ d. d.read) (decide_no m rows p)

  pub only_then : (m : ℕ) (rows : List Row) → (decide w kind t m rows).read ≡ 0 → (m ≡ 0) ⊎ (length rows < m)
  only_then m rows none = go rows (way m rows) none
    where
      go : (rows : List Row) → Way m rows → (decide w kind t m rows).read ≡ 0 → (m ≡ 0) ⊎ (length rows < m)
      go rows (enough e) none = inl e
      go rows (too_few p) none = inr p
      go (row ∷ rows) (reads p q next) none = absurd (omega (arith, ap (λ d. d.read) (decide_read m row rows p q)))

  -- ---- nothing beyond the rows read decides

  abbrev first : Row → List Row → Row
  first row [] = row
  first row (head ∷ rows) = head

  abbrev rest : List Row → List Row
  rest [] = []
  rest (head ∷ rows) = rows

  pub no_more_needed :
      (m : ℕ) (rows others : List Row) →
      length others ≡ length rows →
      take (decide w kind t m rows).read others ≡ take (decide w kind t m rows).read rows →
      decide w kind t m others ≡ decide w kind t m rows
  no_more_needed m rows others long same = go m rows others (way m rows) long same
    where
      go :
          (m : ℕ) (rows others : List Row) → Way m rows → length others ≡ length rows →
          take (decide w kind t m rows).read others ≡ take (decide w kind t m rows).read rows →
          decide w kind t m others ≡ decide w kind t m rows
      go m rows others (enough e) long same = decide_yes m others e ∙ sym (decide_yes m rows e)
      go m rows others (too_few p) long same = decide_no m others (omega arith) ∙ sym (decide_no m rows p)
      go m (row ∷ rows) [] (reads p q next) long same = absurd (omega arith)
      go m (row ∷ rows) (other ∷ others) (reads p q next) long same =
          let x = holds w (set_of kind row) t in
          let read = (decide w kind t (m - x) rows).read in
          let here : take (suc read) (other ∷ others) ≡ take (suc read) (row ∷ rows) =
          subst (λ (r : ℕ). take r (other ∷ others) ≡ take r (row ∷ rows)) (ap (λ d. d.read) (decide_read m row rows p q)) same in
          let head : other ≡ row = ap (first row) here in
          decide_read m other others p (omega arith)
          ∙ ap (λ (r : Row). one_more (decide w kind t (m - holds w (set_of kind r) t) others)) head
          ∙ ap one_more (go (m - x) rows others next (omega arith) (ap rest here))
          ∙ sym (decide_read m row rows p q)

-- ---- after fewer rows the answer is still open

-- the rows from the r-th on with this set in place of both of theirs
go_on : Held → ℕ → List Row → List Row
go_on s r [] = []
go_on s zero (row ∷ rows) = row_with row.serial s s ∷ go_on s zero rows
go_on s (suc r) (row ∷ rows) = row ∷ go_on s r rows

module _ (s : Held) where
  kept : (r : ℕ) (rows : List Row) → take r (go_on s r rows) ≡ take r rows
  unfolding go_on
  kept zero rows = refl
  kept (suc r) [] = refl
  kept (suc r) (row ∷ rows) = ap (λ (rs : List Row). row ∷ rs) (kept r rows)

  same_serials : (r : ℕ) (rows : List Row) → serials_in (go_on s r rows) ≡ serials_in rows
  unfolding go_on
  same_serials r [] = refl
  same_serials zero (row ∷ rows) = ap (λ (l : List ℕ). row.serial ∷ l) (same_serials zero rows)
  same_serials (suc r) (row ∷ rows) = ap (λ (l : List ℕ). row.serial ∷ l) (same_serials r rows)

  -- every row from there on holds the tick as this set does
  module _ (w kind t : ℕ) where
    set_of_lem : (row : Row) → set_of kind (row_with row.serial s s) ≡ s
    unfolding set_of
    set_of_lem row = go (eqb kind ECHO)
      where
        go : (t : Bool) → cond t s s ≡ s
        go true = refl
        go false = refl

    all_hold : (rows : List Row) → holders w kind t (go_on s 0 rows) ≡ length rows * holds w s t
    unfolding go_on holders
    all_hold [] = omega (arith, zero-mul (holds w s t))
    all_hold (row ∷ rows) =
        omega (arith, ap (λ (r : Held). holds w r t) (set_of_lem row), all_hold rows, suc-mul (length rows) (holds w s t))

    in_two : (r : ℕ) (rows : List Row) → holders w kind t (go_on s r rows) ≡ holders w kind t (take r rows) + holders w kind t (go_on s 0 (drop r rows))
    unfolding go_on holders
    in_two zero rows = omega arith
    in_two (suc r) [] = refl
    in_two (suc r) (row ∷ rows) = omega (arith, in_two r rows)

    -- the holders among the first r rows, and either all others or none
    goes_on : (r : ℕ) (rows : List Row) (h : ℕ) →
        holds w s t ≡ h → holders w kind t (go_on s r rows) ≡ holders w kind t (take r rows) + length (drop r rows) * h
    goes_on r rows h e = omega (arith, in_two r rows, all_hold (drop r rows), ap (λ (x : ℕ). length (drop r rows) * x) e)

  module _ (w last : ℕ) (good : proper_set w last s ≡ true) where
    as_proper : (r : ℕ) (rows : List Row) → proper_rows w last rows ≡ true → proper_rows w last (go_on s r rows) ≡ true
    unfolding go_on proper_rows
    as_proper r [] e = refl
    as_proper zero (row ∷ rows) e =
        let echo_too = (and-eq-true_iff (proper_set w last row.echo) (proper_set w last row.init && proper_rows w last rows)).0 e in
        let init_too = (and-eq-true_iff (proper_set w last row.init) (proper_rows w last rows)).0 echo_too.1 in
        rw (good, as_proper zero rows init_too.1)
    as_proper (suc r) (row ∷ rows) e =
        let echo_too = (and-eq-true_iff (proper_set w last row.echo) (proper_set w last row.init && proper_rows w last rows)).0 e in
        let init_too = (and-eq-true_iff (proper_set w last row.init) (proper_rows w last rows)).0 echo_too.1 in
        rw (echo_too.0, init_too.0, as_proper r rows init_too.1)

-- empty, or with one tick, a set is proper
module _ (w last : ℕ) where
  proper_none : proper_set w last empty ≡ true
  unfolding proper_set
  proper_none = (and-eq-true_iff (leb 0 last) (proper w empty)).1 (le-leb 0 last (omega arith), proper_empty w empty refl)

  proper_alone : (t : ℕ) → 0 < w → t ≤ last → proper_set w last (insert w empty t) ≡ true
  unfolding proper_set
  proper_alone t wide p =
      let alone = insert w empty t in
      (and-eq-true_iff (leb alone.top last) (proper w alone)).1 (
        le-leb alone.top last (omega (arith, insert_top w empty t wide)),
        proper_test w alone (insert_proper w empty t wide (proper_facts w empty (proper_empty w empty refl))),
      )

module _ (w kind t : ℕ) where
  -- after fewer rows than are read, some holder is lacking, and the rows left could make it up
  still_open :
      (m r : ℕ) (rows : List Row) → r < (decide w kind t m rows).read →
      (holders w kind t (take r rows) < m) × (m ≤ holders w kind t (take r rows) + length (drop r rows))
  unfolding holders
  still_open m r rows p = go m r rows (way w kind t m rows) p
    where
      go :
          (m r : ℕ) (rows : List Row) → Way w kind t m rows → r < (decide w kind t m rows).read →
          (holders w kind t (take r rows) < m) × (m ≤ holders w kind t (take r rows) + length (drop r rows))
      go m r rows (enough e) p = absurd (omega (arith, none_read w kind t m rows (inl e)))
      go m r rows (too_few q) p = absurd (omega (arith, none_read w kind t m rows (inr q)))
      go m zero (row ∷ rows) (reads a q next) p = (omega arith, omega arith)
      go m (suc r) (row ∷ rows) (reads a q next) p =
          let x = holds w (set_of kind row) t in
          let h = go (m - x) r rows next (omega (arith, ap (λ d. d.read) (decide_read w kind t m row rows a q))) in
          (omega (arith, h.0), omega (arith, h.1))

  -- the set of this tick alone, or none
  abbrev rows_with : Bool → Held
  rows_with true = insert w empty t
  rows_with false = empty

  pub earliest :
      (m r : ℕ) (rows : List Row) →
      0 < w →
      r < (decide w kind t m rows).read →
      Open w kind t m r rows
  earliest m r rows wide early =
      record {
        way = λ yes. go_on (rows_with yes) r rows;
        begun = λ yes. kept (rows_with yes) r rows;
        same = λ yes. same_serials (rows_with yes) r rows;
        sound = sound;
        told = told;
      }
    where
      sound :
          (yes : Bool) (last : ℕ) → t ≤ last → proper_rows w last rows ≡ true →
          proper_rows w last (go_on (rows_with yes) r rows) ≡ true
      sound true last p h = as_proper (insert w empty t) w last (proper_alone w last t wide p) r rows h
      sound false last p h = as_proper empty w last (proper_none w last) r rows h

      told : (yes : Bool) → leb m (holders w kind t (go_on (rows_with yes) r rows)) ≡ yes
      told true =
          let one = insert_new w empty t wide (omega arith) in
          le-leb m (holders w kind t (go_on (insert w empty t) r rows))
          (omega (
            arith,
            still_open m r rows early,
            goes_on (insert w empty t) w kind t r rows 1 one,
            mul-one (length (drop r rows)),
          ))
      told false =
          lt-leb m (holders w kind t (go_on empty r rows))
          (omega (
            arith,
            still_open m r rows early,
            goes_on empty w kind t r rows 0 (bare w empty refl t),
            mul-zero (length (drop r rows)),
          ))
