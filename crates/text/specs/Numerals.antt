-- TEXT-3: decimal numerals without leading zeros and without a negative zero.
use Rattle.std.specs.Prelude.{Bool, true, false, cond, not, ◌&&◌, List, [], ◌∷◌, ◌++◌, ℕ, zero, suc, ◌+◌, ◌-◌, ◌*◌, ◌/◌, ◌%◌, ◌^◌, ltb, leb, eqb, ℤ, pos, negsuc, neg_ℤ, length, get_or, drop}

-- ---- the signs, in ASCII

-- TEXT-3: the digit 0 in ASCII
abbrev pub zero_sign : ℕ
zero_sign = 48

-- TEXT-3: the digit 9
abbrev pub nine_sign : ℕ
nine_sign = 57

-- TEXT-3: the minus
abbrev pub minus_sign : ℕ
minus_sign = 45

-- ---- written

-- TEXT-3: the last k digits of a number
unfoldable pub digits : (k n : ℕ) → List ℕ
digits zero n = []
digits (suc k) n = digits k (n / 10) ++ (zero_sign + n % 10) ∷ []

-- TEXT-3: how many digits a number has; no field needs more than ten
unfoldable pub width : ℕ → ℕ
width n =
    cond (ltb n 10) 1
    (cond (ltb n 100) 2
    (cond (ltb n 1000) 3
    (cond (ltb n 10000) 4
    (cond (ltb n 100000) 5
    (cond (ltb n 1000000) 6
    (cond (ltb n 10000000) 7
    (cond (ltb n 100000000) 8
    (cond (ltb n 1000000000) 9 10))))))))

-- TEXT-3: a number as digits
abbrev pub numeral : ℕ → List ℕ
numeral n = digits (width n) n

-- TEXT-2: a number as digits, with a minus if it is negative
abbrev pub signed_numeral : ℤ → List ℕ
signed_numeral (pos n) = numeral n
signed_numeral (negsuc n) = minus_sign ∷ numeral (suc n)

-- ---- read

-- TEXT-3: is it a digit?
abbrev pub is_digit : ℕ → Bool
is_digit c = leb zero_sign c && leb c nine_sign

-- TEXT-3: are all of them digits?
unfoldable pub all_digits : List ℕ → Bool
all_digits [] = true
all_digits (c ∷ rest) = is_digit c && all_digits rest

-- TEXT-3: one digit, or several of which the first is not zero
unfoldable pub is_numeral : List ℕ → Bool
is_numeral [] = false
is_numeral (c ∷ []) = is_digit c
is_numeral (c ∷ d ∷ rest) = not (eqb c zero_sign) && all_digits (c ∷ d ∷ rest)

-- TEXT-3: the number that digits mean, however many there are
unfoldable pub value : List ℕ → ℕ
value [] = 0
value (c ∷ rest) = (c - zero_sign) * 10 ^ length rest + value rest

-- TEXT-2: is there a minus before?
abbrev pub is_negative : List ℕ → Bool
is_negative w = eqb (get_or w 0 0) minus_sign

-- TEXT-3: is it a numeral with an optional minus, but not a negative zero?
unfoldable pub is_signed : List ℕ → Bool
is_signed w = cond (is_negative w) (is_numeral (drop 1 w) && not (eqb (value (drop 1 w)) 0)) (is_numeral w)

-- TEXT-2: the number that it means
unfoldable pub signed_value : List ℕ → ℤ
signed_value w = cond (is_negative w) (neg_ℤ (pos (value (drop 1 w)))) (pos (value w))
