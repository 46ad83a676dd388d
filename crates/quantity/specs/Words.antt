-- QTY-4: signed 16-bit words of milliseconds, over the width w in bits.
use Rattle.std.specs.Prelude.{Bool, cond, ℕ, suc, ◌-◌, ◌%◌, ◌^◌, ltb, eqb, ℤ, pos, negsuc, nat_abs}
use Rattle.quantity.specs.declared.Millis.{Millis}
use Rattle.quantity.specs.declared.Word.{Word}
use Rattle.quantity.specs.Quantity.{millis}

-- QTY-4: the low w bits of a number: its remainder modulo 2 ^ w
abbrev pub low_bits : (w : ℕ) → ℤ → ℕ
low_bits w (pos n) = n % 2 ^ w
low_bits w (negsuc n) = 2 ^ w - suc (n % 2 ^ w)

-- QTY-4: w bits, read as a signed number in two's complement
abbrev pub signed_bits : (w : ℕ) → ℕ → ℤ
signed_bits w n = cond (ltb n (2 ^ (w - 1))) (pos n) (negsuc (2 ^ w - suc n))

-- QTY-4: a number kept to w bits, signed
abbrev pub wrap : (w : ℕ) → ℤ → ℤ
wrap w z = signed_bits w (low_bits w z)

-- ---- signed 16-bit words

-- QTY-4: a signed 16-bit word
abbrev pub word : ℤ → Word
word z = record { 0 = z }

-- QTY-4: milliseconds kept to a signed 16-bit word
abbrev pub to_word : Millis → Word
to_word m = word (wrap 16 m.0)

-- QTY-4: a word as milliseconds
abbrev pub of_word : Word → Millis
of_word v = millis v.0

-- QTY-4: is a word zero?
abbrev pub zero_word : Word → Bool
zero_word v = eqb (nat_abs v.0) 0

-- QTY-4: the 16 bits of a number, unsigned
abbrev pub bits16 : ℤ → ℕ
bits16 z = low_bits 16 z

-- QTY-4: 16 bits, read as a signed number
abbrev pub signed16 : ℕ → ℤ
signed16 n = signed_bits 16 n
