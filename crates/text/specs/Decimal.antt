-- A number in decimal digits, as ASCII codes: how it is written, and how it is read.
use Rattle.std.specs.Prelude.{ℕ, zero, suc, ◌+◌, ◌-◌, ◌*◌, ◌/◌, ◌%◌, List, [], ◌∷◌, ◌++◌, Bool, true, cond, ◌&&◌}
use Rattle.std.specs.Prelude.{Option, Some, None, length, leb, ltb, eqb}

-- the greatest number of 32 bits
abbrev pub most_number : ℕ
most_number = 4294967295

-- it has ten digits
abbrev pub most_digits : ℕ
most_digits = 10

-- the character of a digit
abbrev pub digit : ℕ → ℕ
digit d = 48 + d

-- ---- written: no leading zeros, 0 as "0". The counter is a number of digits that is never reached by a number of 64 bits

unfoldable pub decimal_in : ℕ → ℕ → List ℕ
decimal_in zero n = digit (n % 10) ∷ []
decimal_in (suc c) n =
    let more = decimal_in c (n / 10) ++ (digit (n % 10) ∷ []) in
    cond (ltb n 10) (digit n ∷ []) more

unfoldable pub decimal : ℕ → List ℕ
decimal n = decimal_in 19 n

-- ---- read: one or more digits and nothing else, leading zeros allowed, of a number of 32 bits

abbrev pub is_digit_byte : ℕ → Bool
is_digit_byte x = leb (digit 0) x && leb x (digit 9)

unfoldable pub all_digits : List ℕ → Bool
all_digits [] = true
all_digits (x ∷ xs) = is_digit_byte x && all_digits xs

-- the number whose digits are those of n and then these
unfoldable pub value_from : ℕ → List ℕ → ℕ
value_from n [] = n
value_from n (x ∷ xs) = value_from (n * 10 + (x - digit 0)) xs

-- what is read behind the digits of n
unfoldable pub read_from : ℕ → List ℕ → Option ℕ
read_from n text = cond (all_digits text && leb (value_from n text) most_number) (Some (value_from n text)) None

unfoldable pub decimal_of : List ℕ → Option ℕ
decimal_of text = cond (eqb (length text) 0) None (read_from 0 text)
