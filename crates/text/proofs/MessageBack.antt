-- A message there and back: its octets hold its numbers and its numbers its octets; and what the theorems say of the two together.
use mathlib.Core.Path.{◌≡◌, refl, sym, ap, ◌∙◌}
use mathlib.Core.Bool.{Bool, true, false, cond}
use mathlib.Core.List.{List, [], ◌∷◌, ◌++◌}
use Prim.Native.Nat.{ℕ, zero, suc, ◌+◌, ◌-◌, ◌*◌, ◌/◌, ◌%◌, ◌≤◌, ◌<◌}
use native.Mathlib.Omega.{arith}
use borrow.Author.Tests.{leb-true, le-leb, lt-ltb, le-ltb, ltb-true, ltb-false, eq-eqb}
use lib.Dec.{leb, ltb}
use lib.IntN.{ℤ, pos, negsuc}
use lib.ListN.{length}
use Rattle.lists.proofs.Tests.{both}
use Rattle.quantity.specs.Words.{bits16, signed16}
use Rattle.checksum.specs.Checksum.{checksum_of}
use Rattle.wire.specs.Octets.{two, four, octet_at}
use Rattle.wire.specs.Hello.{fixed_length, nhosts_place, hello_length, hello_form}
use Rattle.text.specs.Numbers.{Row, Numbers, fits_two, fits_signed, row_fits, rows_fit, numbers_fit, rows_of, numbers_of, rows_octets, octets_rest, message_of}
use Rattle.text.specs.Back.{Octets, SendersChecksum}
use Rattle.text.proofs.Rows.{good_length}
use Rattle.text.proofs.RowsLoop.{octets_length}
use Rattle.text.proofs.TextBack.{AllFit}

-- ---- two and four octets

two_of : (n : ℕ) → n < 65536 → n / 256 % 256 * 256 + n % 256 ≡ n
two_of n h = omega arith

four_of : (n : ℕ) → n < 4294967296 → ((n / 256 / 256 / 256 % 256 * 256 + n / 256 / 256 % 256) * 256 + n / 256 % 256) * 256 + n % 256 ≡ n
four_of n h = omega arith

two_back : (a b : ℕ) → a < 256 → b < 256 → two (a * 256 + b) ≡ a ∷ b ∷ []
two_back a b h k =
    let p : (a * 256 + b) / 256 % 256 ≡ a = omega arith in
    let q : (a * 256 + b) % 256 ≡ b = omega arith in
    rw (p, q)

four_back : (a b c d : ℕ) → a < 256 → b < 256 → c < 256 → d < 256 → four (((a * 256 + b) * 256 + c) * 256 + d) ≡ a ∷ b ∷ c ∷ d ∷ []
four_back a b c d h i j k =
    let e₁ : (((a * 256 + b) * 256 + c) * 256 + d) / 256 ≡ (a * 256 + b) * 256 + c = omega arith in
    let e₂ : ((a * 256 + b) * 256 + c) / 256 ≡ a * 256 + b = omega arith in
    let e₃ : (a * 256 + b) / 256 ≡ a = omega arith in
    let q₀ : (((a * 256 + b) * 256 + c) * 256 + d) % 256 ≡ d = omega arith in
    let q₁ : ((a * 256 + b) * 256 + c) % 256 ≡ c = omega arith in
    let q₂ : (a * 256 + b) % 256 ≡ b = omega arith in
    let q₃ : a % 256 ≡ a = omega arith in
    rw (e₁, e₂, e₃, q₀, q₁, q₂, q₃)

bits_below : (z : ℤ) → bits16 z < 65536
bits_below (pos n) = omega arith
bits_below (negsuc n) = omega arith

signed_bits_lem : (z : ℤ) → fits_signed z ≡ true → signed16 (bits16 z) ≡ z
signed_bits_lem (pos n) e =
    let h = leb-true n 32767 e in
    let m : n % 65536 ≡ n = omega arith in
    rw (m, lt-ltb n 32768 (omega arith))
signed_bits_lem (negsuc n) e =
    let h = leb-true n 32767 (both (leb n 32767) true e).0 in
    let m : n % 65536 ≡ n = omega arith in
    let k : 32768 ≤ 65536 - suc n = omega arith in
    rw (m, le-ltb (65536 - suc n) 32768 k) (ap negsuc (omega arith))

bits_signed : (n : ℕ) → n < 65536 → (bits16 (signed16 n) ≡ n) × (fits_signed (signed16 n) ≡ true)
bits_signed n h = go (ltb n 32768) refl
  where
    go : (b : Bool) → ltb n 32768 ≡ b → (bits16 (cond b (pos n) (negsuc (65536 - suc n))) ≡ n) × (fits_signed (cond b (pos n) (negsuc (65536 - suc n))) ≡ true)
    go true e = let l = ltb-true n 32768 e in (omega arith, le-leb n 32767 (omega arith))
    go false e = let l = ltb-false n 32768 e in (omega arith, rw (le-leb (65536 - suc n) 32767 (omega arith)))

-- ---- numbers to octets and back

rows_there : (rs : List Row) → rows_fit rs ≡ true → rows_of (rows_octets rs) ≡ rs
unfolding rows_of rows_octets rows_fit
rows_there [] e = refl
rows_there (r ∷ rs) e =
    let p = both (row_fits r) (rows_fit rs) e in
    let q = both (fits_two r.delay) (fits_signed r.offset) p.0 in
    rw (two_of r.delay (omega (arith, leb-true r.delay 65535 q.0)), two_of (bits16 r.offset) (bits_below r.offset), signed_bits_lem r.offset q.1, rows_there rs p.1)

module _ (s : Numbers) (f : AllFit s) where
  pub numbers_there : numbers_of (message_of s) ≡ s
  unfolding numbers_of message_of
  numbers_there =
      rw (two_of s.date (omega (arith, f.date)), four_of s.time (omega (arith, f.time)), two_of s.tsp (omega (arith, f.tsp)), rows_there s.rows f.rows)

  pub message_formed : s.count ≡ length s.rows → hello_form (message_of s) ≡ true
  unfolding hello_form message_of
  message_formed c =
      let l = octets_length s.rows in
      let n : length (message_of s) ≡ 12 + length (rows_octets s.rows) = omega arith in
      rw (le-leb 12 (length (message_of s)) (omega arith), eq-eqb (length (message_of s)) (hello_length s.count) (omega arith))

-- ---- octets to numbers and back

record RowsThere (l : List ℕ) (k : ℕ) : Type 0 where
  same : rows_octets (rows_of l) ≡ l
  fit : rows_fit (rows_of l) ≡ true
  number : length (rows_of l) ≡ k

rows_octets_lem : (k : ℕ) (l : List ℕ) → length l ≡ 4 * k → Octets l → RowsThere l k
unfolding rows_of rows_octets rows_fit
rows_octets_lem zero [] e o = record { same = refl; fit = refl; number = refl }
rows_octets_lem zero (a ∷ l) e o = absurd (omega arith)
rows_octets_lem (suc k) [] e o = absurd (omega arith)
rows_octets_lem (suc k) (a ∷ []) e o = absurd (omega arith)
rows_octets_lem (suc k) (a ∷ b ∷ []) e o = absurd (omega arith)
rows_octets_lem (suc k) (a ∷ b ∷ c ∷ []) e o = absurd (omega arith)
rows_octets_lem (suc k) (a ∷ b ∷ c ∷ d ∷ l) e o =
    let h = rows_octets_lem k l (omega arith) o.1.1.1.1 in
    let n : c * 256 + d < 65536 = omega (arith, o.1.1.0, o.1.1.1.0) in
    let m : a * 256 + b ≤ 65535 = omega (arith, o.0, o.1.0) in
    let p = bits_signed (c * 256 + d) n in
    record {
      same = ap (λ (x : ℕ). two (a * 256 + b) ++ two x ++ rows_octets (rows_of l)) p.0
          ∙ ap (λ (x : List ℕ). x ++ two (c * 256 + d) ++ rows_octets (rows_of l)) (two_back a b o.0 o.1.0)
          ∙ ap (λ (x : List ℕ). a ∷ b ∷ [] ++ x ++ rows_octets (rows_of l)) (two_back c d o.1.1.0 o.1.1.1.0)
          ∙ ap (λ (x : List ℕ). a ∷ b ∷ c ∷ d ∷ x) h.same;
      fit = rw (le-leb (a * 256 + b) 65535 m, p.1, h.fit);
      number = ap suc h.number;
    }

pub record MessageThere (m : List ℕ) : Type 0 where
  pub same : SendersChecksum m → message_of (numbers_of m) ≡ m
  pub fit : numbers_fit (numbers_of m) ≡ true
  pub counts : (numbers_of m).count ≡ length (numbers_of m).rows

pub message_there : (m : List ℕ) → Octets m → hello_form m ≡ true → MessageThere m
unfolding message_of numbers_of numbers_fit
message_there m o e = go m o (good_length m e)
  where
    go : (m : List ℕ) → Octets m → (fixed_length ≤ length m) × (length m ≡ hello_length (octet_at m nhosts_place)) → MessageThere m
    go [] o g = absurd (omega arith)
    go (a ∷ []) o g = absurd (omega arith)
    go (a ∷ b ∷ []) o g = absurd (omega arith)
    go (a ∷ b ∷ c ∷ []) o g = absurd (omega arith)
    go (a ∷ b ∷ c ∷ d ∷ []) o g = absurd (omega arith)
    go (a ∷ b ∷ c ∷ d ∷ f ∷ []) o g = absurd (omega arith)
    go (a ∷ b ∷ c ∷ d ∷ f ∷ h ∷ []) o g = absurd (omega arith)
    go (a ∷ b ∷ c ∷ d ∷ f ∷ h ∷ i ∷ []) o g = absurd (omega arith)
    go (a ∷ b ∷ c ∷ d ∷ f ∷ h ∷ i ∷ j ∷ []) o g = absurd (omega arith)
    go (a ∷ b ∷ c ∷ d ∷ f ∷ h ∷ i ∷ j ∷ k ∷ []) o g = absurd (omega arith)
    go (a ∷ b ∷ c ∷ d ∷ f ∷ h ∷ i ∷ j ∷ k ∷ n ∷ []) o g = absurd (omega arith)
    go (a ∷ b ∷ c ∷ d ∷ f ∷ h ∷ i ∷ j ∷ k ∷ n ∷ p ∷ []) o g = absurd (omega arith)
    go (a ∷ b ∷ c ∷ d ∷ f ∷ h ∷ i ∷ j ∷ k ∷ n ∷ p ∷ q ∷ l) o g =
        let oc = o.1.1.0 in
        let od = o.1.1.1.0 in
        let o₄ = o.1.1.1.1 in
        let r = rows_octets_lem q l (omega arith) o₄.1.1.1.1.1.1.1.1 in
        let date : c * 256 + d ≤ 65535 = omega arith in
        let time : ((f * 256 + h) * 256 + i) * 256 + j ≤ 4294967295 = omega (arith, o₄.0, o₄.1.0, o₄.1.1.0, o₄.1.1.1.0) in
        let tsp : k * 256 + n ≤ 65535 = omega (arith, o₄.1.1.1.1.0, o₄.1.1.1.1.1.0) in
        let base : p ≤ 255 = omega (arith, o₄.1.1.1.1.1.1.0) in
        let count : q ≤ 255 = omega (arith, o₄.1.1.1.1.1.1.1.0) in
        let behind : octets_rest (numbers_of (a ∷ b ∷ c ∷ d ∷ f ∷ h ∷ i ∷ j ∷ k ∷ n ∷ p ∷ q ∷ l)) ≡ c ∷ d ∷ f ∷ h ∷ i ∷ j ∷ k ∷ n ∷ p ∷ q ∷ l =
        ap (λ x. x ++ four (((f * 256 + h) * 256 + i) * 256 + j) ++ two (k * 256 + n) ++ p ∷ q ∷ [] ++ rows_octets (rows_of l)) (two_back c d oc od)
        ∙ ap (λ x. c ∷ d ∷ [] ++ x ++ two (k * 256 + n) ++ p ∷ q ∷ [] ++ rows_octets (rows_of l)) (four_back f h i j o₄.0 o₄.1.0 o₄.1.1.0 o₄.1.1.1.0)
        ∙ ap (λ x. c ∷ d ∷ f ∷ h ∷ i ∷ j ∷ [] ++ x ++ p ∷ q ∷ [] ++ rows_octets (rows_of l)) (two_back k n o₄.1.1.1.1.0 o₄.1.1.1.1.1.0)
        ∙ ap (λ x. c ∷ d ∷ f ∷ h ∷ i ∷ j ∷ k ∷ n ∷ p ∷ q ∷ x) r.same in
        record {
          same = λ s. ap (λ z. two (checksum_of z) ++ z) behind ∙ ap (λ z. z ++ c ∷ d ∷ f ∷ h ∷ i ∷ j ∷ k ∷ n ∷ p ∷ q ∷ l) (sym s);
          fit = rw (le-leb (c * 256 + d) 65535 date, le-leb (((f * 256 + h) * 256 + i) * 256 + j) 4294967295 time, le-leb (k * 256 + n) 65535 tsp, le-leb p 255 base, le-leb q 255 count, r.fit);
          counts = sym r.number;
        }
