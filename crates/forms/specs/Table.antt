-- The rows of the table of numbers that forms and frames give (01, "Numbers given back", and 02, A7), as plain propositions with no
-- test and no count in them; and what it means that checks, made one after the other, give a number. proofs/Meaning.antt shows that readers
-- and writers give just these numbers.
use Rattle.std.specs.Prelude.{◌≡◌, ◌↔◌, ◌≢◌, ◌⊎◌, cond, ℕ, ◌+◌, ◌*◌, ◌<◌, length, get_or, eqb}
use mathlib.Core.List.{List, [], ◌∷◌, Memᴰ}
use Rattle.fields.specs.Field.{field}
use Rattle.fields.specs.Kind.{INIT, ECHO}
use Rattle.forms.specs.Form.{serials_place, form_size, lines_of, faults_of, own_of, serials_of}
use Rattle.forms.specs.Frame.{frame_size, BROADCAST, ANSWER}
use Rattle.forms.specs.Roster.{most_lines, full_faults}

infixl 2 ◌or◌
infix 70 ◌when◌
-- grouped to the left, as the tests are
abbrev pub ◌or◌ : Type 0 → Type 0 → Type 0
A or B = A ⊎ B

-- ---- the paper's table

-- 1: shorter than 8, offset not 8, or length not 8 + 4n
abbrev pub Misplaced : List ℕ → Type 0
Misplaced b = (length b < serials_place) or (field 2 b 2 ≢ serials_place) or (length b ≢ form_size (lines_of b))

-- 2: n not 1..32, or n < 3f + 1
abbrev pub Beyond : ℕ → ℕ → Type 0
Beyond n f = (n < 1) or (most_lines < n) or (n < 3 * f + 1)

-- 21: f less than n allows (02, A7)
abbrev pub Understated : ℕ → ℕ → Type 0
Understated n f = f < full_faults n

-- 3: a serial or the own serial is 0
abbrev pub HasZero : ℕ → List ℕ → Type 0
HasZero own serials = (own ≡ 0) or Memᴰ 0 serials

-- 4: a serial stands twice, on two different lines
pub record Twice (serials : List ℕ) : Type 0 where
  pub first : ℕ
  pub second : ℕ
  pub apart : first < second
  pub listed : second < length serials
  pub same : get_or serials first 0 ≡ get_or serials second 0

-- 5: own serial not in the list
abbrev pub Stranger : ℕ → List ℕ → Type 0
Stranger own serials = Memᴰ own serials → ⊥

-- kind 1 with flag 0, or kind 2 with flag 0 or 1
abbrev pub KnownHead : ℕ → ℕ → Type 0
KnownHead kind flag = ((kind ≡ INIT) × (flag ≡ BROADCAST)) or ((kind ≡ ECHO) × ((flag ≡ BROADCAST) or (flag ≡ ANSWER)))

-- 10, of the writer: kind not 1 or 2, or flag not 0 for init, not 0 or 1 for echo
abbrev pub BadHead : ℕ → ℕ → Type 0
BadHead kind flag = KnownHead kind flag → ⊥

-- 10: not 8 long, kind or flag bad, or bytes 2 and 3 not zero
abbrev pub Misshapen : List ℕ → Type 0
Misshapen b = (length b ≢ frame_size) or BadHead (get_or b 0 0) (get_or b 1 0) or (get_or b 2 0 ≢ 0) or (get_or b 3 0 ≢ 0)

-- ---- the first check that applies

pub record Check : Type 1 where
  pub number : ℕ
  pub applies : Type 0

abbrev pub ◌when◌ : ℕ → Type 0 → Check
n when C = record { number = n; applies = C }

-- what it means that the checks, made one after the other, give k. If k is the number of the first: that it applies. If not:
-- that it does not apply, and the others give k. Where no check is left, k is 0. At a numeral this computes: of a roster,
-- 4 is given where the conditions of 2, 21 and 3 fail and that of 4 holds
abbrev pub Given : List Check → ℕ → Type 0
Given [] k = k ≡ 0
Given (check ∷ others) k = cond (eqb k check.number) check.applies ((check.applies → ⊥) × Given others k)

-- the number is what the checks give: it is k in the case that gives k, and in no other case
pub record Says (number : ℕ) (checks : List Check) : Type 0 where
  pub exactly : (k : ℕ) → (number ≡ k) ↔ Given checks k

-- ---- the checks of a roster, a form, a frame and a writer

-- numbers 2 and 21, which look at n and f alone, and the checks behind them
abbrev pub limits_checks : ℕ → ℕ → List Check → List Check
limits_checks n f behind = 2 when Beyond n f ∷ 21 when Understated n f ∷ behind

-- numbers 2, 21, 3, 4 and 5
abbrev pub roster_checks : ℕ → ℕ → ℕ → List ℕ → List Check
roster_checks n f own serials =
    2 when Beyond n f
    ∷ 21 when Understated n f
    ∷ 3 when HasZero own serials
    ∷ 4 when Twice serials
    ∷ 5 when Stranger own serials
    ∷ []

-- number 1, then those of the roster
abbrev pub form_checks : List ℕ → List Check
form_checks b = 1 when Misplaced b ∷ roster_checks (lines_of b) (faults_of b) (own_of b) (serials_of b)

-- numbers 10 and 11
abbrev pub frame_checks : ℕ → List ℕ → List Check
frame_checks last b = 10 when Misshapen b ∷ 11 when (last < field 4 b 4) ∷ []

-- 7, last, when the output is shorter than what would be written
abbrev pub room_check : ℕ → List ℕ → Check
room_check size out = 7 when (length out < size)
