-- By induction on the width: the last octet is the number's remainder by 256, and the octets before it are those of the quotient.
use mathlib.Core.Path.{◌≡◌, refl, sym, ap, ◌∙◌}
use mathlib.Core.List.{List, [], ◌∷◌, ◌++◌, append_assoc, append-nil}
use Prim.Native.Nat.{ℕ, zero, suc, ◌+◌, ◌*◌, ◌/◌, ◌%◌, ◌^◌, ◌<◌}
use native.Mathlib.Nat.{add-zero, zero-add, add-suc, mul_assoc, pow-suc, div-add-mod', mod-lt}
use native.Mathlib.Omega.{arith}
use lib.ListN.{length, length-append}
use lib.Seq.{get_or_at}
use Rattle.std.specs.Int.{byte_at, bytes_high_first}
use Rattle.lists.proofs.Parts.{part_more}
use Rattle.octets.specs.Octets.{Octets, number_octets, octet_at, number_at}
use Rattle.octets.specs.ReadBack.{ReadBack, WrittenBack}
use Rattle.octets.proofs.Each.{at_place, joined}

-- ---- one octet more

pub one_more : (s : List ℕ) (i n : ℕ) → number_at s i (suc n) ≡ number_at s i n * 256 + octet_at s (i + n)
one_more s i zero = rw add-zero (omega arith)
one_more s i (suc n) = refl

quotient_fits : (n number : ℕ) → number < 256 ^ suc n → number / 256 < 256 ^ n
quotient_fits n number h = omega (arith, pow-suc 256 n)

-- ---- what is written

pub width : (n number : ℕ) → length (number_octets n number) ≡ n
width zero number = refl
width (suc n) number = rw (length-append, width n (number / 256)) (omega arith)

pub are_octets : (n number : ℕ) → Octets (number_octets n number)
are_octets zero number = tt
are_octets (suc n) number = joined (number_octets n (number / 256)) (number % 256 ∷ []) (are_octets n (number / 256)) (omega arith, tt)

-- ---- there and back

pub read_back : ReadBack
unfolding ReadBack
read_back zero number before after h = omega arith
read_back (suc n) number before after h =
    let front = number_octets n (number / 256) in
    let last = number % 256 in
    let all : before ++ (front ++ (last ∷ [])) ++ after ≡ before ++ front ++ last ∷ after = simp append_assoc in
    let there : length (before ++ front) ≡ length before + n = rw (length-append, width n (number / 256)) in
    let quotient : number_at (before ++ front ++ last ∷ after) (length before) n ≡ number / 256 =
    read_back n (number / 256) before (last ∷ after) (quotient_fits n number h) in
    let remainder : octet_at (before ++ front ++ last ∷ after) (length before + n) ≡ last = get_or_at (before ++ front) last after 0 (length before + n) there in
    ap (λ (l : List ℕ). number_at l (length before) (suc n)) all ∙ one_more (before ++ front ++ last ∷ after) (length before) n ∙ rw (quotient, remainder) (omega arith)

pub back : (n number : ℕ) → number < 256 ^ n → number_at (number_octets n number) 0 n ≡ number
unfolding ReadBack
back n number h = ap (λ (l : List ℕ). number_at l 0 n) (sym (append-nil (number_octets n number))) ∙ read_back n number [] [] h

pub written_back : WrittenBack
unfolding WrittenBack
written_back s i zero o h = refl
written_back s i (suc n) o h =
    let octet : octet_at s (i + n) < 256 = at_place s o (i + n) in
    let quotient : (number_at s i n * 256 + octet_at s (i + n)) / 256 ≡ number_at s i n = omega arith in
    let remainder : (number_at s i n * 256 + octet_at s (i + n)) % 256 ≡ octet_at s (i + n) = omega arith in
    rw (one_more s i n, quotient, remainder, written_back s i n o (omega arith)) (sym (part_more i n s 0 (omega arith)))

-- ---- two numbers side by side

pub joined_number : (s : List ℕ) (i m n : ℕ) → number_at s i (m + n) ≡ number_at s i m * 256 ^ n + number_at s (i + m) n
joined_number s i m zero = rw (add-zero m) (omega arith)
joined_number s i m (suc n) =
    let place : i + (m + n) ≡ i + m + n = omega arith in
    rw (add-suc m n, one_more s i (m + n), one_more s (i + m) n, joined_number s i m n, place, pow-suc 256 n) (omega arith)

pub joined_octets : (m n high low : ℕ) → low < 256 ^ n → number_octets (m + n) (high * 256 ^ n + low) ≡ number_octets m high ++ number_octets n low
joined_octets m zero high low h =
    let same : high * 256 ^ 0 + low ≡ high = omega arith in
    rw (add-zero m, same, append-nil (number_octets m high))
joined_octets m (suc n) high low h =
    let number = high * 256 ^ suc n + low in
    let split : number ≡ high * 256 ^ n * 256 + low = rw (pow-suc 256 n, mul_assoc high (256 ^ n) 256) in
    let quotient : number / 256 ≡ high * 256 ^ n + low / 256 = rw split (omega arith) in
    let remainder : number % 256 ≡ low % 256 = rw split (omega arith) in
    rw (add-suc m n, quotient, remainder, joined_octets m n high (low / 256) (quotient_fits n low h))
    (append_assoc (number_octets m high) (number_octets n (low / 256)) (low % 256 ∷ []))

power_positive : (n : ℕ) → 0 < 256 ^ n
power_positive zero = omega arith
power_positive (suc n) = omega (arith, pow-suc 256 n, power_positive n)

-- the octets of a number are those of its last bits
pub last_bits : (n number : ℕ) → number_octets n (number % 256 ^ n) ≡ number_octets n number
last_bits n number =
    let quotient = number / 256 ^ n in
    let remainder = number % 256 ^ n in
    sym (joined_octets 0 n quotient remainder (mod-lt number (power_positive n)))
    ∙ ap (λ (m : ℕ). number_octets m (quotient * 256 ^ n + remainder)) (zero-add n)
    ∙ ap (number_octets n) (div-add-mod' number (256 ^ n))

-- ---- as std writes a number

byte : (k number : ℕ) → byte_at k number ≡ number / 256 ^ k % 256
byte zero number = omega arith
byte (suc k) number = refl

pub be_bytes : (k number : ℕ) → bytes_high_first k number ≡ number_octets k number
be_bytes zero number = refl
be_bytes (suc k) number =
    let first = number / 256 ^ k in
    let rest = number % 256 ^ k in
    let width : 1 + k ≡ suc k = omega arith in
    ap (λ (b : ℕ). b ∷ bytes_high_first k number) (byte k number)
    ∙ ap (λ (l : List ℕ). first % 256 ∷ l) (be_bytes k number ∙ sym (last_bits k number))
    ∙ sym (joined_octets 1 k first rest (mod-lt number (power_positive k)))
    ∙ ap (λ (m : ℕ). number_octets m (first * 256 ^ k + rest)) width
    ∙ ap (number_octets (suc k)) (div-add-mod' number (256 ^ k))
