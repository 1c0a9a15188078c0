-- Each number is given exactly when the paper says, and in no other case (01, "Numbers given back", and 02, A7). The rows of the
-- table are propositions (specs/Table.antt), and each theorem says for every k that the number given is k exactly where the first
-- row that applies has number k, and 0 where none applies.
-- Assumes nothing.
use mathlib.Core.Path.{◌≡◌, refl, sym, ◌∙◌, subst}
use mathlib.Core.Logic.Iff
use mathlib.Core.Logic.{◌↔◌, ◌≢◌, inl, inr, ⊎_map, ⊎_elim}
use mathlib.Core.Bool.{Bool, true, false, cond, not, ◌||◌, ◌&&◌, false≢true}
use mathlib.Core.List.Memᴰ
use mathlib.Core.List.{List, [], ◌∷◌, ◌++◌, Memᴰ}
use Prim.Native.Nat.{ℕ, zero, suc, ◌+◌, ◌*◌, ◌<◌}
use native.Mathlib.Decide.{dec_lt, ℕ_discrete}
use native.Mathlib.Omega.{arith}
use lib.ListN.{length, get_or}
use lib.Dec.{ltb, leb, eqb, eqb-suc-zero}
use borrow.Author.Tests.{ltb-true, lt-ltb, leb-true, le-leb, eqb-true, eqb-false, eq-eqb}
use Rattle.forms.specs.Number.{or_else}
use Rattle.fields.specs.Field.{field}
use Rattle.fields.specs.Kind.{INIT, ECHO}
use Rattle.forms.specs.Column.{count, twins}
use Rattle.forms.specs.Roster.{most_lines, full_faults, limits_then, roster_number}
use Rattle.forms.specs.Form.{serials_place, form_size, lines_of, faults_of, own_of, serials_of, misplaced, form_number}
use Rattle.forms.specs.Form.{FormTold, form_told, WriteTold, write_told, form_written}
use Rattle.forms.specs.Frame.{frame_size, BROADCAST, ANSWER, known_head, misshapen, FrameTold, frame_number, frame_told, frame_written}
use Rattle.forms.specs.declared.frame.Frame.{Frame}
use Rattle.forms.specs.Table.{limits_checks, ◌or◌, Misplaced, HasZero, Twice, Beyond, Understated, KnownHead, BadHead, Misshapen}
use Rattle.forms.specs.Table.{Check, ◌when◌, Given, Says, roster_checks, form_checks, frame_checks, room_check}
use Rattle.fields.proofs.Words.{length_words}

-- ---- what the counts mean

counted : {x : ℕ} {l : List ℕ} → Memᴰ x l → 0 < count x l
unfolding count
counted {x} (Memᴰ.head {x = y} e) = rw (eq-eqb y x (sym e)) (omega arith)
counted (Memᴰ.tail m) = omega (arith, counted m)

found : (x : ℕ) (l : List ℕ) → 0 < count x l → Memᴰ x l
unfolding count
found x [] p = absurd (omega arith)
found x (y ∷ l) p = go (eqb y x) refl (found x l) p
  where
    go : (t : Bool) → eqb y x ≡ t → (0 < count x l → Memᴰ x l) → 0 < cond t 1 0 + count x l → Memᴰ x (y ∷ l)
    go true e below q = Memᴰ.head (sym (eqb-true y x e))
    go false e below q = Memᴰ.tail (below (omega arith))

-- a serial is counted exactly where it stands in the list
pub member_says : (x : ℕ) (l : List ℕ) → (0 < count x l) ↔ Memᴰ x l
member_says x l = (found x l, counted)

place : {x : ℕ} {l : List ℕ} → Memᴰ x l → (i : ℕ) × (i < length l) × (x ≡ get_or l i 0)
place (Memᴰ.head e) = (0, omega arith, e)
place (Memᴰ.tail m) = let p = place m in (suc p.0, omega (arith, p.1), p.2)

at_place : (l : List ℕ) (i : ℕ) → i < length l → Memᴰ (get_or l i 0) l
at_place [] i p = absurd (omega arith)
at_place (x ∷ l) zero p = Memᴰ.head refl
at_place (x ∷ l) (suc i) p = Memᴰ.tail (at_place l i (omega arith))

twins_lines : (l : List ℕ) → 0 < twins l → Twice l
unfolding twins
twins_lines [] p = absurd (omega arith)
twins_lines (x ∷ l) p = go (dec_lt 0 (count x l)) (twins_lines l)
  where
    go : Dec (0 < count x l) → (0 < twins l → Twice l) → Twice (x ∷ l)
    go (yes q) below =
        let m = place (found x l q) in
        record { first = 0; second = suc m.0; apart = omega arith; listed = omega (arith, m.1); same = m.2 }
    go (no q) below =
        let t = below (omega arith) in
        record { first = suc t.first; second = suc t.second; apart = omega arith; listed = omega arith; same = t.same }

lines_twins : (l : List ℕ) (i j : ℕ) → i < j → j < length l → get_or l i 0 ≡ get_or l j 0 → 0 < twins l
unfolding twins
lines_twins [] i j p q e = absurd (omega arith)
lines_twins (x ∷ l) zero zero p q e = absurd (omega arith)
lines_twins (x ∷ l) zero (suc j) p q e = omega (arith, counted (Memᴰ.cast e (at_place l j (omega arith))))
lines_twins (x ∷ l) (suc i) zero p q e = absurd (omega arith)
lines_twins (x ∷ l) (suc i) (suc j) p q e = omega (arith, lines_twins l i j (omega arith) (omega arith) e)

-- pairs of equal serials are counted exactly where two different lines hold the same serial
pub twice_says : (l : List ℕ) → (0 < twins l) ↔ Twice l
twice_says l = (twins_lines l, λ t. lines_twins l t.first t.second t.apart t.listed t.same)

-- ---- tests

-- the test passes exactly where the proposition holds
abbrev pub Decides : Bool → Type 0 → Type 0
Decides t C = (t ≡ true) ↔ C

pub less : (a b : ℕ) → Decides (ltb a b) (a < b)
less a b = (ltb-true a b, lt-ltb a b)

pub equal : (a b : ℕ) → Decides (eqb a b) (a ≡ b)
equal a b = (eqb-true a b, eq-eqb a b)

-- numbers that are not apart are equal
pub not_apart : (a b : ℕ) → (a ≢ b → ⊥) → a ≡ b
not_apart a b h = elim (ℕ_discrete a b) [ yes e ↦ e | no n ↦ absurd (h n) ]

pub opposite : (t : Bool) {C : Type 0} → Decides t C → Decides (not t) (C → ⊥)
opposite true d = (λ e. absurd (false≢true e), λ n. absurd (n (d.0 refl)))
opposite false d = (λ e c. false≢true (d.1 c), λ n. refl)

pub either : (s t : Bool) {A B : Type 0} → Decides s A → Decides t B → Decides (s || t) (A or B)
either true t c d = (λ e. inl (c.0 refl), λ x. refl)
either false true c d = (λ e. inr (d.0 refl), λ x. refl)
either false false {A} {B} c d = (λ e. absurd (false≢true e), none)
  where
    none : A or B → false ≡ true
    none (inl a) = c.1 a
    none (inr b) = d.1 b

pub both : (s t : Bool) {A B : Type 0} → Decides s A → Decides t B → Decides (s && t) (A × B)
both true t c d = (λ e. (c.0 refl, d.0 e), λ x. d.1 x.1)
both false t c d = (λ e. absurd (false≢true e), λ x. c.1 x.0)

-- a check in front of others, if none of those gives its number
pub in_front : (n : ℕ) {C : Type 0} {t : Bool} {rest : ℕ} {checks : List Check} →
    Decides t C → (Given checks n → ⊥) → Says rest checks → Says (cond t n rest) (n when C ∷ checks)
in_front n {C} {t} {rest} {checks} d fresh says = record { exactly = λ k. go k (eqb k n) refl t d }
  where
    go : (k : ℕ) (s : Bool) → eqb k n ≡ s → (t : Bool) → Decides t C → (cond t n rest ≡ k) ↔ cond s C ((C → ⊥) × Given checks k)
    go k true e true d = (λ _. d.0 refl, λ _. sym (eqb-true k n e))
    go k true e false d =
        (λ r. absurd (fresh (subst (λ (m : ℕ). Given checks m) (eqb-true k n e) ((says.exactly k).0 r))), λ c. absurd (false≢true (d.1 c)))
    go k false e true d = (λ r. absurd (eqb-false k n e (sym r)), λ g. absurd (g.0 (d.0 refl)))
    go k false e false d = (λ r. (λ c. false≢true (d.1 c), (says.exactly k).0 r), λ g. (says.exactly k).1 g.1)

pub none : Says 0 []
none = record { exactly = λ k. (sym, sym) }

-- ---- the roster

zeros : (own : ℕ) (serials : List ℕ) → (0 < count 0 (own ∷ serials)) ↔ HasZero own serials
zeros own serials = (
  λ p. ⊎_map sym (λ m. m) (Memᴰ.cases_cons (found 0 (own ∷ serials) p)),
  ⊎_elim (λ e. counted (Memᴰ.head (sym e))) (λ m. counted (Memᴰ.tail m)),
)

-- a serial's count is 0 exactly where it is not in the list
pub absent : (x : ℕ) (l : List ℕ) → Decides (eqb (count x l) 0) (Memᴰ x l → ⊥)
absent x l =
    Iff.trans (equal (count x l) 0)
    (λ e m. omega (arith, counted m), λ n. elim (dec_lt 0 (count x l)) [ yes p ↦ absurd (n (found x l p)) | no q ↦ omega arith ])

beyond_says : (n f : ℕ) → Decides (ltb n 1 || ltb most_lines n || ltb n (3 * f + 1)) (Beyond n f)
beyond_says n f = either _ _ (either _ _ (less n 1) (less most_lines n)) (less n (3 * f + 1))

-- the numbers of n and f, with other checks behind
pub limits_then_lem : (n f : ℕ) {next : ℕ} {checks : List Check} →
    (Given checks 2 → ⊥) → (Given checks 21 → ⊥) → Says next checks → Says (limits_then n f next) (limits_checks n f checks)
limits_then_lem n f two understated says = in_front 2 (beyond_says n f) (λ g. two g.1) (in_front 21 (less f (full_faults n)) understated says)

-- other checks behind come after the last of these
pub past : (t : Bool) (n rest next : ℕ) → or_else (cond t (suc n) rest) next ≡ cond t (suc n) (or_else rest next)
past true n rest next = refl
past false n rest next = refl

-- a roster's number, with other checks behind
pub roster_then : (f own : ℕ) (serials : List ℕ) {next : ℕ} {checks : List Check} →
    Says next checks →
    (Given checks 2 → ⊥) × (Given checks 21 → ⊥) × (Given checks 3 → ⊥) × (Given checks 4 → ⊥) × (Given checks 5 → ⊥) →
    Says (or_else (roster_number f own serials) next) (roster_checks (length serials) f own serials ++ checks)
unfolding roster_number
roster_then f own serials {next} {checks} says fresh =
    rw (past, past, past, past, past)
    (limits_then_lem (length serials) f (λ g. fresh.0 g.1.1.1) (λ g. fresh.1 g.1.1.1)
    (in_front 3 (Iff.trans (less 0 (count 0 (own ∷ serials))) (zeros own serials)) (λ g. fresh.2 g.1.1)
    (in_front 4 (Iff.trans (less 0 (twins serials)) (twice_says serials)) (λ g. fresh.3 g.1)
    (in_front 5 (absent own serials) fresh.4
    says))))

else_zero : (n : ℕ) → or_else n 0 ≡ n
else_zero zero = refl
else_zero (suc n) = refl

-- a roster's number is what rows 2, 21, 3, 4 and 5 give
pub roster_says : (f own : ℕ) (serials : List ℕ) → Says (roster_number f own serials) (roster_checks (length serials) f own serials)
roster_says f own serials = rw (else_zero (roster_number f own serials)) at (roster_then f own serials none (omega arith))

-- ---- the readers

-- the number that an answer tells, where it is one with number 0 or a refusal with number n
pub told : {A : Type 0} (number : A → ℕ) (taken refused : A) (n : ℕ) →
    number taken ≡ 0 → number refused ≡ n → number (cond (eqb n 0) taken refused) ≡ n
told number taken refused n p q = go (eqb n 0) refl
  where
    go : (t : Bool) → eqb n 0 ≡ t → number (cond t taken refused) ≡ n
    go true e = p ∙ sym (eqb-true n 0 e)
    go false e = q

-- the form reader tells `form_number`
pub form_told_lem : (b : List ℕ) → (form_told b).number ≡ form_number b
unfolding form_told
form_told_lem b = told (λ (t : FormTold). t.number) _ _ (form_number b) refl refl

misplaced_says : (b : List ℕ) → Decides (misplaced b) (Misplaced b)
misplaced_says b =
    either _ _ (either _ _ (less (length b) serials_place) (opposite _ (equal (field 2 b 2) serials_place)))
    (opposite _ (equal (length b) (form_size (lines_of b))))

-- the form reader's number is what row 1 and the roster's rows give
pub form_says : (b : List ℕ) → Says (form_told b).number (form_checks b)
unfolding form_number
form_says b =
    rw (form_told_lem b)
    (in_front 1 (misplaced_says b) (omega arith)
    (rw (length_words (lines_of b) 4 b serials_place) at (roster_says (faults_of b) (own_of b) (serials_of b))))

-- a form's number, with other checks behind
pub form_then : (b : List ℕ) {next : ℕ} {checks : List Check} →
    Says next checks → (Given checks 1 → ⊥) ×
    (Given checks 2 → ⊥) × (Given checks 21 → ⊥) × (Given checks 3 → ⊥) × (Given checks 4 → ⊥) × (Given checks 5 → ⊥) →
    Says (or_else (form_number b) next) (form_checks b ++ checks)
unfolding form_number
form_then b {next} {checks} says fresh =
    rw past
    (in_front 1 (misplaced_says b) (λ g. fresh.0 g.1.1.1.1.1)
    (rw (length_words (lines_of b) 4 b serials_place) at
    (roster_then (faults_of b) (own_of b) (serials_of b) says (fresh.1, fresh.2, fresh.3, fresh.4, fresh.5))))

upto : (flag : ℕ) → Decides (leb flag ANSWER) ((flag ≡ BROADCAST) or (flag ≡ ANSWER))
upto flag = (
  λ e. let p = leb-true flag ANSWER e in elim (ℕ_discrete flag BROADCAST) [ yes q ↦ inl q | no n ↦ inr (omega arith) ],
  λ h. le-leb flag ANSWER (⊎_elim (λ e. omega arith) (λ e. omega arith) h),
)

-- kind and flag are known exactly where the paper knows them
pub head_says : (kind flag : ℕ) → Decides (known_head kind flag) (KnownHead kind flag)
head_says kind flag =
    either _ _ (both _ _ (equal kind INIT) (equal flag BROADCAST))
    (both _ _ (equal kind ECHO) (upto flag))

bad : (kind flag : ℕ) → Decides (not (known_head kind flag)) (BadHead kind flag)
bad kind flag = opposite _ (head_says kind flag)

-- the frame reader tells `frame_number`
pub frame_told_lem : (last : ℕ) (b : List ℕ) → (frame_told last b).number ≡ frame_number last b
unfolding frame_told
frame_told_lem last b = told (λ (t : FrameTold). t.number) _ _ (frame_number last b) refl refl

-- the frame reader's number is what rows 10 and 11 give
pub frame_says : (last : ℕ) (b : List ℕ) → Says (frame_told last b).number (frame_checks last b)
unfolding frame_number
frame_says last b =
    rw (frame_told_lem last b)
    (in_front 10 shape (omega arith) (in_front 11 (less last (field 4 b 4)) (omega arith) none))
  where
    is0 : (i : ℕ) → Decides (not (eqb (get_or b i 0) 0)) (get_or b i 0 ≢ 0)
    is0 i = opposite _ (equal (get_or b i 0) 0)

    shape : Decides (misshapen b) (Misshapen b)
    shape =
        either _ _ (either _ _ (either _ _ (opposite _ (equal (length b) frame_size)) (bad (get_or b 0 0) (get_or b 1 0))) (is0 2)) (is0 3)

-- ---- the writers

room : (size : ℕ) (out : List ℕ) → Says (cond (ltb (length out) size) 7 0) (room_check size out ∷ [])
room size out = in_front 7 (less (length out) size) (omega arith) none

-- the number of one of two answers
either_number : {A : Type 0} (number : A → ℕ) (t : Bool) (x y : A) → number (cond t x y) ≡ cond t (number x) (number y)
either_number number true x y = refl
either_number number false x y = refl

-- a writer tells the number of its checks, and else 7 or 0
pub write_number_lem : (number size : ℕ) (before after : List ℕ) →
    (write_told number size before after).number ≡ or_else number (cond (ltb (length before) size) 7 0)
write_number_lem zero size before after = either_number (λ (t : WriteTold). t.number) (ltb (length before) size) _ _
write_number_lem (suc n) size before after = rw (eqb-suc-zero n)

-- the form writer's number is what the roster's rows give, and 7 last
pub form_writer_says : (f own : ℕ) (serials out : List ℕ) →
    Says (form_written f own serials out).number
    (roster_checks (length serials) f own serials ++ room_check (form_size (length serials)) out ∷ [])
unfolding form_written
form_writer_says f own serials out = rw write_number_lem (roster_then f own serials (room (form_size (length serials)) out) (omega arith))

-- the frame writer's number is 10 for kind and flag, then 11, and 7 last
pub frame_writer_says : (last : ℕ) (frame : Frame) (out : List ℕ) →
    Says (frame_written last frame out).number
    (10 when BadHead frame.kind frame.flag ∷ 11 when (last < frame.tick) ∷ room_check frame_size out ∷ [])
unfolding frame_written
frame_writer_says last frame out =
    rw (write_number_lem, past, past)
    (in_front 10 (bad frame.kind frame.flag) (omega arith)
    (in_front 11 (less last frame.tick) (omega arith) (room frame_size out)))

-- ---- single rows

-- each row of the table is one instance of these; so 21 and 4 of a roster, 11 of a frame, and 7 of the frame writer
row_21 : (f own : ℕ) (serials : List ℕ) →
    (roster_number f own serials ≡ 21) ↔ ((Beyond (length serials) f → ⊥) × Understated (length serials) f)
row_21 f own serials = (roster_says f own serials).exactly 21

row_4 : (f own : ℕ) (serials : List ℕ) →
    (roster_number f own serials ≡ 4)
    ↔ ((Beyond (length serials) f → ⊥) × ((Understated (length serials) f → ⊥) × ((HasZero own serials → ⊥) × Twice serials)))
row_4 f own serials = (roster_says f own serials).exactly 4

row_11 : (last : ℕ) (b : List ℕ) → ((frame_told last b).number ≡ 11) ↔ ((Misshapen b → ⊥) × (last < field 4 b 4))
row_11 last b = (frame_says last b).exactly 11

row_7 : (last : ℕ) (frame : Frame) (out : List ℕ) →
    ((frame_written last frame out).number ≡ 7)
    ↔ ((BadHead frame.kind frame.flag → ⊥) × ((last < frame.tick → ⊥) × (length out < frame_size)))
row_7 last frame out = (frame_writer_says last frame out).exactly 7
