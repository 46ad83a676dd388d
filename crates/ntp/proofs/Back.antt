-- Each field is at its place, and its octets give back the number. Each octet is in one field, and the field gives back the octet.
use Rattle.std.proofs.Common.{◌≡◌, ℕ, suc, ◌+◌, ◌-◌, ◌*◌, ◌/◌, ◌%◌, ◌<◌, ◌≤◌, Bool, true, false, cond, not, eqb, ltb, List, [], ◌∷◌, ◌++◌, length, take, ℤ, pos, negsuc, sym, refl, ap, ◌∙◌, ap₂, arith, take_all, take-suc, take-add, ltb-false, ltb-true, eqb-true, leb-true, le-leb}
use Rattle.std.specs.Prelude.{Result, Ok, Err}
use Rattle.lists.specs.Lists.{part}
use Rattle.lists.proofs.Tests.{both}
use Rattle.octets.specs.Octets.{Octets, number_octets, octet_at, number_at}
use Rattle.octets.specs.ReadBack.{WrittenBack as WidthsBack}
use Rattle.octets.proofs.Each.{at_place}
use Rattle.octets.proofs.Widths.{back, written_back as widths-back}
use Rattle.quantity.specs.Words.{low_bits, signed_bits}
use Rattle.quantity.proofs.Wrap.{wrap_fits}
use Rattle.ntp.specs.declared.Answer.{Answer}
use Rattle.ntp.specs.declared.Header.{Header}
use Rattle.ntp.specs.Octets.{exponent, timestamp}
use Rattle.ntp.specs.Header.{header_length, version_good, mode_good, leap_good, fields, read, octets_of, write}
use Rattle.ntp.specs.code.Passed.{HeaderPasses}
use Rattle.ntp.specs.Laws.{SignedOctet, HeaderFits, ReadBack, WrittenBack}

-- ---- numbers back from their octets

signed_back : (z : ℤ) → SignedOctet z → signed_bits 8 (low_bits 8 z) ≡ z
signed_back (pos n) f = wrap_fits 8 (omega arith) (pos n) (omega (arith, f)) (omega arith)
signed_back (negsuc n) f = wrap_fits 8 (omega arith) (negsuc n) (omega arith) (omega (arith, f))

-- ---- octets back from their numbers

signed_forth : (n : ℕ) → n < 256 → low_bits 8 (signed_bits 8 n) ≡ n
signed_forth n h = go (ltb n 128) refl
  where
    go : (t : Bool) → ltb n 128 ≡ t → low_bits 8 (cond t (pos n) (negsuc (256 - suc n))) ≡ n
    go true e = omega (arith, ltb-true n 128 e)
    go false e = omega (arith, ltb-false n 128 e)

front_forth : (n : ℕ) → n < 256 → n / 64 * 64 + n / 8 % 8 * 8 + n % 8 ≡ n
front_forth n h = omega arith

-- ---- the fields of what was written

mode_most : (mode : ℕ) → mode_good mode ≡ true → mode ≤ 5
mode_most mode e = let b = both _ _ e in leb-true mode 5 b.1

fields_back : (h : Header) → HeaderFits h → HeaderPasses h → h ≡ fields (octets_of h)
unfolding fields octets_of
fields_back h f p =
    let leap : h.leap ≤ 3 = leb-true _ _ p.leap in
    let version : h.version ≡ 4 = eqb-true _ _ p.version in
    let mode : h.mode ≤ 5 = mode_most h.mode p.mode in
    let leap-back : (h.leap * 64 + h.version * 8 + h.mode) / 64 ≡ h.leap = omega arith in
    let version-back : (h.leap * 64 + h.version * 8 + h.mode) / 8 % 8 ≡ h.version = omega arith in
    let mode-back : (h.leap * 64 + h.version * 8 + h.mode) % 8 ≡ h.mode = omega arith in
    sym
    (λ i.
    record {
      leap = leap-back i;
      version = version-back i;
      mode = mode-back i;
      stratum = h.stratum;
      poll = exponent (signed_back h.poll.0 f.poll i);
      precision = exponent (signed_back h.precision.0 f.precision i);
      root_delay = back 4 h.root_delay f.root_delay i;
      root_dispersion = back 4 h.root_dispersion f.root_dispersion i;
      reference_id = back 4 h.reference_id f.reference_id i;
      reference = timestamp (back 8 h.reference.0 f.reference i);
      origin = timestamp (back 8 h.origin.0 f.origin i);
      receive = timestamp (back 8 h.receive.0 f.receive i);
      transmit = timestamp (back 8 h.transmit.0 f.transmit i);
    })

length_of : (h : Header) → length (octets_of h) ≡ header_length
unfolding octets_of
length_of h = refl

-- an `Ok` says that the test before it passed
passed : {A : Type 0} (t : Bool) (e : Answer) (r : Result A Answer) (x : A) → cond (not t) (Err e) r ≡ Ok x → (t ≡ true) × (r ≡ Ok x)
passed true e r x is = (refl, is)
passed false e r x is = let z : ◌≡◌ {A = ℕ} 0 1 = cc in absurd (omega arith)

same_value : {A : Type 0} (x y : A) → ◌≡◌ {A = Result A Answer} (Ok x) (Ok y) → x ≡ y
same_value x y e = cc

pub read_back : ReadBack
unfolding ReadBack read write
read_back h s f e =
    let v = passed _ _ _ _ e in
    let m = passed _ _ _ _ v.1 in
    let b = both _ _ m.0 in
    let back = fields_back h f record { version = v.0; mode = b.0; leap = b.1 } in
    let is : octets_of h ≡ s = same_value _ _ m.1 in
    rw (sym is, length_of h, ← back, v.0, b.0)

-- ---- the octets of what was read: each number gives its part of them

module _ (s : List ℕ) (o : Octets s) (long : length s ≡ 48) where
  octet : (i : ℕ) → octet_at s i < 256
  octet = at_place s o

  number : (i n : ℕ) → i + n ≤ 48 → number_octets n (number_at s i n) ≡ part i n s
  unfolding WidthsBack
  number i n h = widths-back s i n o (omega (arith, long))

  first_four : octet_at s 0 ∷ octet_at s 1 ∷ octet_at s 2 ∷ octet_at s 3 ∷ [] ≡ take 4 s
  first_four =
      sym
      (rw (take-suc s 3 0 (omega (arith, long)), take-suc s 2 0 (omega (arith, long)), take-suc s 1 0 (omega (arith, long)), take-suc s 0 0 (omega (arith, long))) refl)

  all_parts : (front : List ℕ) → front ≡ take 4 s
      → front ++ part 4 4 s ++ part 8 4 s ++ part 12 4 s ++ part 16 8 s ++ part 24 8 s ++ part 32 8 s ++ part 40 8 s ≡ s
  all_parts front e =
      rw (e, ← take-add 4 4 s, ← take-add 8 4 s, ← take-add 12 4 s, ← take-add 16 8 s, ← take-add 24 8 s, ← take-add 32 8 s, ← take-add 40 8 s)
      (take_all 48 s (omega (arith, long)))

  octets_forth : octets_of (fields s) ≡ s
  unfolding octets_of fields
  octets_forth =
      ap₂ ◌∷◌ (front_forth (octet_at s 0) (octet 0))
      (ap (λ (l : List ℕ). octet_at s 1 ∷ l)
      (ap₂ ◌∷◌ (signed_forth (octet_at s 2) (octet 2))
      (ap₂ ◌∷◌ (signed_forth (octet_at s 3) (octet 3))
      (ap₂ ◌++◌
      (ap₂ ◌++◌
      (ap₂ ◌++◌
      (ap₂ ◌++◌ (ap₂ ◌++◌ (ap₂ ◌++◌ (number 4 4 (omega arith)) (number 8 4 (omega arith))) (number 12 4 (omega arith))) (number 16 8 (omega arith)))
      (number 24 8 (omega arith)))
      (number 32 8 (omega arith)))
      (number 40 8 (omega arith))))))
      ∙ all_parts (octet_at s 0 ∷ octet_at s 1 ∷ octet_at s 2 ∷ octet_at s 3 ∷ []) first_four

  leap_is : leap_good (fields s).leap ≡ true
  unfolding fields
  leap_is = le-leb (octet_at s 0 / 64) 3 (omega (arith, octet 0))

pub written_back : WrittenBack
unfolding WrittenBack read write
written_back s h o e =
    let l = passed (eqb (length s) header_length) _ _ _ e in
    let v = passed (version_good (fields s).version) _ _ _ l.1 in
    let m = passed (mode_good (fields s).mode) _ _ _ v.1 in
    let long : length s ≡ 48 = eqb-true _ _ l.0 in
    let is : fields s ≡ h = same_value _ _ m.1 in
    rw (sym is, v.0, m.0, leap_is s o long, octets_forth s o long)
