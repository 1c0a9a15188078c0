-- The theorem that 01 asks for under "Evidence": what a sender's set becomes depends on the set at the start and on which of
-- its frames were accepted since, not on their order or repetition. Once for echo and init, over the window's width.
-- Assumes nothing.
use mathlib.Core.Path.{◌≡◌, refl, sym, ap, ◌∙◌, subst}
use mathlib.Core.Logic.{◌⊎◌, inl, inr, ◌↔◌}
use mathlib.Core.Bool.{Bool, true, false, cond}
use mathlib.Core.List.Memᴰ
use mathlib.Core.List.{List, [], ◌∷◌, ◌++◌, Memᴰ}
use Prim.Native.Nat.{ℕ, zero, suc, ◌+◌, ◌≤◌, ◌<◌, max}
use native.Mathlib.Decide.{dec_lt, ℕ_discrete}
use native.Mathlib.Omega.{arith}
use borrow.Author.Tests.{eq-eqb, eqb-true}
use lib.Dec.{eqb}
use Rattle.sets.specs.Ticks.{Held, holds, insert, insert_all, run, many_added, added, add}
use Rattle.sets.specs.History.{Sent, hear, heard, Brought}
use Rattle.sets.proofs.Members.{Proper, holds_below, insert_top, insert_new, insert_old, insert_late}
use Rattle.sets.proofs.Members.{insert_proper, members_same}

-- ---- ticks inserted one after the other

-- the greatest of a number and a list
greatest : ℕ → List ℕ → ℕ
greatest a [] = a
greatest a (t ∷ ts) = greatest (max a t) ts

greatest_first : (a : ℕ) (ts : List ℕ) → a ≤ greatest a ts
unfolding greatest
greatest_first a [] = omega arith
greatest_first a (t ∷ ts) = omega (arith, greatest_first (max a t) ts)

greatest_each : (a : ℕ) (ts : List ℕ) (u : ℕ) → Memᴰ u ts → u ≤ greatest a ts
unfolding greatest
greatest_each a [] u m = absurd (Memᴰ.not-nil m)
greatest_each a (t ∷ ts) u m = go (λ n. greatest_each (max a t) ts u n) (Memᴰ.cases_cons m)
  where
    go : (Memᴰ u ts → u ≤ greatest (max a t) ts) → (u ≡ t) ⊎ Memᴰ u ts → u ≤ greatest (max a t) ts
    go ih (inl e) = omega (arith, greatest_first (max a t) ts)
    go ih (inr n) = ih n

greatest_least : (a : ℕ) (ts : List ℕ) (b : ℕ) → a ≤ b → ((u : ℕ) → Memᴰ u ts → u ≤ b) → greatest a ts ≤ b
unfolding greatest
greatest_least a [] b p h = p
greatest_least a (t ∷ ts) b p h =
    greatest_least (max a t) ts b (omega (arith, h t (Memᴰ.head refl))) (λ u m. h u (Memᴰ.tail m))

greatest_same : (a : ℕ) (ts us : List ℕ) → ((u : ℕ) → Memᴰ u ts → Memᴰ u us) → greatest a ts ≤ greatest a us
greatest_same a ts us f = greatest_least a ts (greatest a us) (greatest_first a us) (λ u m. greatest_each a us u (f u m))

member_of : (u : ℕ) (ts : List ℕ) → Dec (Memᴰ u ts)
member_of u [] = no (λ m. Memᴰ.not-nil m)
member_of u (t ∷ ts) = go (ℕ_discrete u t) (member_of u ts)
  where
    go : Dec (u ≡ t) → Dec (Memᴰ u ts) → Dec (Memᴰ u (t ∷ ts))
    go (yes e) d = yes (Memᴰ.head e)
    go (no n) (yes m) = yes (Memᴰ.tail m)
    go (no n) (no k) = no (λ m. neither (Memᴰ.cases_cons m))
      where
        neither : (u ≡ t) ⊎ Memᴰ u ts → ⊥
        neither (inl e) = n e
        neither (inr m) = k m

module _ (w : ℕ) (wide : 0 < w) where
  all_top : (s : Held) (ts : List ℕ) → (insert_all w s ts).top ≡ greatest s.top ts
  unfolding insert_all greatest
  all_top s [] = refl
  all_top s (t ∷ ts) = all_top (insert w s t) ts ∙ ap (λ (a : ℕ). greatest a ts) (insert_top w s t wide)

  all_proper : (s : Held) (ts : List ℕ) → Proper w s → Proper w (insert_all w s ts)
  unfolding insert_all
  all_proper s [] g = g
  all_proper s (t ∷ ts) g = all_proper (insert w s t) ts (insert_proper w s t wide g)

  -- the greatest once t is in
  all_later :
      (s : Held) (t : ℕ) (ts : List ℕ) (u : ℕ) → greatest (max s.top t) ts < u + w → greatest (insert w s t).top ts < u + w
  all_later s t ts u p = subst (λ (a : ℕ). greatest a ts < u + w) (sym (insert_top w s t wide)) p

  -- t itself is in, where it stays in the window
  just_in :
      (s : Held) (t : ℕ) (ts : List ℕ) (u : ℕ) → greatest (max s.top t) ts < u + w → u ≡ t → holds w (insert w s t) u ≡ 1
  just_in s t ts u p e =
      subst (λ (x : ℕ). holds w (insert w s t) x ≡ 1) (sym e)
      (insert_new w s t wide (omega (arith, greatest_first (max s.top t) ts)))

  -- a tick that is in, and stays in the window, stays
  all_kept :
      (s : Held) (ts : List ℕ) (u : ℕ) → holds w s u ≡ 1 → greatest s.top ts < u + w → holds w (insert_all w s ts) u ≡ 1
  unfolding insert_all greatest
  all_kept s [] u e p = e
  all_kept s (t ∷ ts) u e p =
      all_kept (insert w s t) ts u
      (elim (ℕ_discrete u t) [
        | yes q ↦ just_in s t ts u p q
        | no n ↦ insert_old w s t u wide n (omega (arith, greatest_first (max s.top t) ts)) ∙ e
      ])
      (all_later s t ts u p)

  all_new :
      (s : Held) (ts : List ℕ) (u : ℕ) → Memᴰ u ts → greatest s.top ts < u + w → holds w (insert_all w s ts) u ≡ 1
  unfolding insert_all greatest
  all_new s [] u m p = absurd (Memᴰ.not-nil m)
  all_new s (t ∷ ts) u m p = go (λ n. all_new (insert w s t) ts u n (all_later s t ts u p)) (Memᴰ.cases_cons m)
    where
      go :
          (Memᴰ u ts → holds w (insert_all w (insert w s t) ts) u ≡ 1) → (u ≡ t) ⊎ Memᴰ u ts →
          holds w (insert_all w (insert w s t) ts) u ≡ 1
      go ih (inl e) = all_kept (insert w s t) ts u (just_in s t ts u p e) (all_later s t ts u p)
      go ih (inr n) = ih n

  all_old :
      (s : Held) (ts : List ℕ) (u : ℕ) → (Memᴰ u ts → ⊥) → greatest s.top ts < u + w →
      holds w (insert_all w s ts) u ≡ holds w s u
  unfolding insert_all greatest
  all_old s [] u n p = refl
  all_old s (t ∷ ts) u n p =
      all_old (insert w s t) ts u (λ m. n (Memᴰ.tail m)) (all_later s t ts u p)
      ∙ insert_old w s t u wide (λ e. n (Memᴰ.head e)) (omega (arith, greatest_first (max s.top t) ts))

  all_below : (s : Held) (ts : List ℕ) (u : ℕ) → u + w ≤ greatest s.top ts → holds w (insert_all w s ts) u ≡ 0
  all_below s ts u p = holds_below w (insert_all w s ts) u (omega (arith, all_top s ts))

  -- the same ticks, in any order and however often
  all_same :
      (s : Held) (ts us : List ℕ) → Proper w s →
      ((u : ℕ) → Memᴰ u ts → Memᴰ u us) →
      ((u : ℕ) → Memᴰ u us → Memᴰ u ts) →
      insert_all w s ts ≡ insert_all w s us
  all_same s ts us g f b =
      members_same w (insert_all w s ts) (insert_all w s us) wide (all_proper s ts g) (all_proper s us g) same
    where
      tops : greatest s.top ts ≡ greatest s.top us
      tops = omega (arith, greatest_same s.top ts us f, greatest_same s.top us ts b)

      seen :
          (u : ℕ) → greatest s.top ts < u + w → Dec (Memᴰ u ts) →
          holds w (insert_all w s ts) u ≡ holds w (insert_all w s us) u
      seen u p (yes m) = all_new s ts u m p ∙ sym (all_new s us u (f u m) (omega (arith, tops)))
      seen u p (no n) = all_old s ts u n p ∙ sym (all_old s us u (λ m. n (b u m)) (omega (arith, tops)))

      same : (u : ℕ) → holds w (insert_all w s ts) u ≡ holds w (insert_all w s us) u
      same u =
          elim (dec_lt (greatest s.top ts) (u + w)) [
            | yes p ↦ seen u p (member_of u ts)
            | no p ↦ all_below s ts u (omega arith) ∙ sym (all_below s us u (omega (arith, tops)))
          ]

-- ---- from ticks to frames

all_append : (w : ℕ) (s : Held) (ts us : List ℕ) → insert_all w s (ts ++ us) ≡ insert_all w (insert_all w s ts) us
unfolding insert_all
all_append w s [] us = refl
all_append w s (t ∷ ts) us = all_append w (insert w s t) ts us

-- the ticks that a frame, and a history, bring to the set of a kind
brings_one : ℕ → Sent → List ℕ
brings_one kind frame = cond (eqb frame.kind kind) (added kind frame.tick) []

brings : ℕ → List Sent → List ℕ
brings kind [] = []
brings kind (frame ∷ frames) = brings_one kind frame ++ brings kind frames

heard_all : (w kind : ℕ) (s : Held) (frames : List Sent) → heard w kind s frames ≡ insert_all w s (brings kind frames)
unfolding heard hear brings brings_one insert_all add
heard_all w kind s [] = refl
heard_all w kind s (frame ∷ frames) =
    go (eqb frame.kind kind) (λ r. heard_all w kind r frames)
    ∙ sym (all_append w s (cond (eqb frame.kind kind) (added kind frame.tick) []) (brings kind frames))
  where
    go :
        (same : Bool) → ((r : Held) → heard w kind r frames ≡ insert_all w r (brings kind frames)) →
        heard w kind (cond same (insert_all w s (added kind frame.tick)) s) frames
        ≡ insert_all w (insert_all w s (cond same (added kind frame.tick) [])) (brings kind frames)
    go true ih = ih (insert_all w s (added kind frame.tick))
    go false ih = ih s

one_brought :
    (kind : ℕ) (frame : Sent) (u : ℕ) → Memᴰ u (brings_one kind frame) →
    (frame.kind ≡ kind) × Memᴰ u (added kind frame.tick)
unfolding brings_one
one_brought kind frame u m = go (eqb frame.kind kind) refl m
  where
    go :
        (same : Bool) → eqb frame.kind kind ≡ same → Memᴰ u (cond same (added kind frame.tick) []) →
        (frame.kind ≡ kind) × Memᴰ u (added kind frame.tick)
    go true e m = (eqb-true frame.kind kind e, m)
    go false e m = absurd (Memᴰ.not-nil m)

brought : (kind : ℕ) (frames : List Sent) (u : ℕ) → Memᴰ u (brings kind frames) → Brought kind frames u
unfolding brings
brought kind [] u m = absurd (Memᴰ.not-nil m)
brought kind (frame ∷ frames) u m =
    go (λ n. brought kind frames u n) (Memᴰ.append_cases (brings_one kind frame) m)
  where
    go :
        (Memᴰ u (brings kind frames) → Brought kind frames u) →
        Memᴰ u (brings_one kind frame) ⊎ Memᴰ u (brings kind frames) →
        Brought kind (frame ∷ frames) u
    go ih (inl n) =
        let o = one_brought kind frame u n in
        record { frame = frame; among = Memᴰ.head refl; alike = o.0; adds = o.1 }
    go ih (inr n) =
        let r = ih n in
        record { frame = r.frame; among = Memᴰ.tail r.among; alike = r.alike; adds = r.adds }

bring :
    (kind : ℕ) (frames : List Sent) (u : ℕ) (frame : Sent) → Memᴰ frame frames → frame.kind ≡ kind →
    Memᴰ u (added kind frame.tick) → Memᴰ u (brings kind frames)
unfolding brings brings_one
bring kind [] u frame m e a = absurd (Memᴰ.not-nil m)
bring kind (first ∷ frames) u frame m e a = go (λ n. bring kind frames u frame n e a) (Memᴰ.cases_cons m)
  where
    here : frame ≡ first → Memᴰ u (cond (eqb first.kind kind) (added kind first.tick) [])
    here q =
        subst (λ (x : Bool). Memᴰ u (cond x (added kind first.tick) []))
        (sym (eq-eqb first.kind kind (ap (λ (f : Sent). f.kind) (sym q) ∙ e)))
        (subst (λ (f : Sent). Memᴰ u (added kind f.tick)) q a)

    go :
        (Memᴰ frame frames → Memᴰ u (brings kind frames)) → (frame ≡ first) ⊎ Memᴰ frame frames →
        Memᴰ u (cond (eqb first.kind kind) (added kind first.tick) [] ++ brings kind frames)
    go ih (inl q) = Memᴰ.append_left (brings kind frames) (here q)
    go ih (inr n) = Memᴰ.append_right (cond (eqb first.kind kind) (added kind first.tick) []) (ih n)

-- ---- the theorem

-- two histories with the same frames, whatever their order and repetition, leave the same set
pub heard_same :
    (w kind : ℕ) (s : Held) (frames others : List Sent) →
    0 < w →
    Proper w s →
    ((f : Sent) → Memᴰ f frames → Memᴰ f others) →
    ((f : Sent) → Memᴰ f others → Memᴰ f frames) →
    heard w kind s frames ≡ heard w kind s others
heard_same w kind s frames others wide g there back =
    heard_all w kind s frames
    ∙ all_same w wide s (brings kind frames) (brings kind others) g (moved frames others there) (moved others frames back)
    ∙ sym (heard_all w kind s others)
  where
    moved :
        (x y : List Sent) → ((f : Sent) → Memᴰ f x → Memᴰ f y) →
        (u : ℕ) → Memᴰ u (brings kind x) → Memᴰ u (brings kind y)
    moved x y f u m =
        let r = brought kind x u m in
        bring kind y u r.frame (f r.frame r.among) r.alike r.adds

-- a tick is in the set exactly when it was there or was brought, and lies in the window of the greatest, which is the top
pub heard_member :
    (w kind : ℕ) (s : Held) (frames : List Sent) (t : ℕ) →
    0 < w →
    (holds w (heard w kind s frames) t ≡ 1) ↔ (((holds w s t ≡ 1) ⊎ Brought kind frames t) × ((heard w kind s frames).top < t + w))
heard_member w kind s frames t wide = (there, back)
  where
    e : heard w kind s frames ≡ insert_all w s (brings kind frames)
    e = heard_all w kind s frames

    top : (heard w kind s frames).top ≡ greatest s.top (brings kind frames)
    top = ap (λ (r : Held). r.top) e ∙ all_top w wide s (brings kind frames)

    seen :
        greatest s.top (brings kind frames) < t + w → Dec (Memᴰ t (brings kind frames)) →
        holds w (heard w kind s frames) t ≡ 1 → (holds w s t ≡ 1) ⊎ Brought kind frames t
    seen p (yes m) h = inr (brought kind frames t m)
    seen p (no n) h = inl (sym (all_old w wide s (brings kind frames) t n p) ∙ ap (λ (r : Held). holds w r t) (sym e) ∙ h)

    there :
        holds w (heard w kind s frames) t ≡ 1 →
        ((holds w s t ≡ 1) ⊎ Brought kind frames t) × ((heard w kind s frames).top < t + w)
    there h =
        elim (dec_lt (heard w kind s frames).top (t + w)) [
          | yes p ↦ (seen (subst (λ (x : ℕ). x < t + w) top p) (member_of t (brings kind frames)) h, p)
          | no p ↦ absurd (omega (arith, holds_below w (heard w kind s frames) t (omega arith)))
        ]

    back :
        ((holds w s t ≡ 1) ⊎ Brought kind frames t) × ((heard w kind s frames).top < t + w) →
        holds w (heard w kind s frames) t ≡ 1
    back h = ap (λ (r : Held). holds w r t) e ∙ go h.0
      where
        room : greatest s.top (brings kind frames) < t + w
        room = subst (λ (x : ℕ). x < t + w) top h.1

        go : (holds w s t ≡ 1) ⊎ Brought kind frames t → holds w (insert_all w s (brings kind frames)) t ≡ 1
        go (inl p) = all_kept w wide s (brings kind frames) t p room
        go (inr r) =
            all_new w wide s (brings kind frames) t (bring kind frames t r.frame r.among r.alike r.adds) room

pub heard_proper : (w kind : ℕ) (s : Held) (frames : List Sent) → 0 < w → Proper w s → Proper w (heard w kind s frames)
heard_proper w kind s frames wide g =
    subst (Proper w) (sym (heard_all w kind s frames)) (all_proper w wide s (brings kind frames) g)

run_late : (w : ℕ) (s : Held) (c i : ℕ) → 0 < w → i + w ≤ s.top → insert_all w s (run c i) ≡ s
unfolding insert_all run
run_late w s zero i wide p = refl
run_late w s (suc c) zero wide p = insert_late w s 0 p wide
run_late w s (suc c) (suc i) wide p =
    ap (λ (r : Held). insert_all w r (run c i)) (insert_late w s (suc i) p wide) ∙ run_late w s c i wide (omega arith)

-- a frame below the window changes nothing
pub add_late : (w kind : ℕ) (s : Held) (j : ℕ) → 0 < w → j + w ≤ s.top → add w kind s j ≡ s
unfolding add added
add_late w kind s j wide p = run_late w s (many_added kind) j wide p

-- a history behind a history
pub heard_append : (w kind : ℕ) (s : Held) (frames others : List Sent) →
    heard w kind s (frames ++ others) ≡ heard w kind (heard w kind s frames) others
unfolding heard
heard_append w kind s [] others = refl
heard_append w kind s (frame ∷ frames) others = heard_append w kind (hear w kind s frame) frames others
