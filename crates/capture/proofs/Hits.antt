-- What a hit shows in its first octets, because a packet that passes answers 3 to 7 passes each of their tests.
use Rattle.std.specs.Prelude.{Ok, Err}
use mathlib.Core.Path.{◌≡◌, refl, sym, ap, ◌∙◌}
use mathlib.Core.Bool.{Bool, true, false, cond, not, ◌&&◌, false≢true}
use mathlib.Core.List.{List}
use Prim.Native.Nat.{ℕ, zero, suc, ◌+◌, ◌-◌, ◌%◌, ◌≤◌, ◌<◌}
use native.Mathlib.Omega.{arith}
use lib.Dec.{leb}
use borrow.Author.Tests.{leb-true, le-leb, eqb-true, eq-eqb}
use lib.ListN.{length, take, drop, length-drop}
use lib.Seq.{get_or-take, get_or-drop, length-take-le, take_all, take-take, take-add, drop_at}
use Rattle.answer.specs.declared.Answer.{Answer}
use Rattle.answer.specs.declared.Answer.TheVariants.{IpForm, IpChecksum, Protocol, HelloForm, HelloChecksum}
use Rattle.lists.proofs.Tests.{both}
use Rattle.checksum.specs.Checksum.{checksum_good}
use Rattle.wire.specs.declared.Packet.{Packet}
use Rattle.wire.specs.Octets.{octet_at, two_at}
use Rattle.wire.specs.Ip.{header_length, version_and_length, version_place, fragment_place, protocol_place, hello_protocol, ip_form, ip_checksum, protocol}
use Rattle.wire.specs.Hello.{fixed_length, nhosts_place, hello_length, hello_form, hello_checksum}
use Rattle.wire.specs.Packet.{hello_of, fields, parse, packet_length}
use Rattle.capture.specs.Search.{is_good, passes, total_length, hit}

-- ---- the tests that a packet passed

all_passed : (a₃ a₄ a₅ a₆ a₇ : Answer) (p : Packet) (t₃ t₄ t₅ t₆ t₇ : Bool)
    → is_good (cond (not t₃) (Err a₃) (cond (not t₄) (Err a₄) (cond (not t₅) (Err a₅) (cond (not t₆) (Err a₆) (cond (not t₇) (Err a₇) (Ok p)))))) ≡ true
    → (t₃ ≡ true) × (t₄ ≡ true) × (t₅ ≡ true) × (t₆ ≡ true) × (t₇ ≡ true)
all_passed a₃ a₄ a₅ a₆ a₇ p false t₄ t₅ t₆ t₇ e = absurd (false≢true e)
all_passed a₃ a₄ a₅ a₆ a₇ p true false t₅ t₆ t₇ e = absurd (false≢true e)
all_passed a₃ a₄ a₅ a₆ a₇ p true true false t₆ t₇ e = absurd (false≢true e)
all_passed a₃ a₄ a₅ a₆ a₇ p true true true false t₇ e = absurd (false≢true e)
all_passed a₃ a₄ a₅ a₆ a₇ p true true true true false e = absurd (false≢true e)
all_passed a₃ a₄ a₅ a₆ a₇ p true true true true true e = (refl, refl, refl, refl, refl)

forms : (p : List ℕ) → passes p ≡ true
    → (ip_form p ≡ true) × (ip_checksum p ≡ true) × (protocol p ≡ true) × (hello_form (hello_of p) ≡ true) × (hello_checksum (hello_of p) ≡ true)
unfolding passes parse
forms p e = all_passed IpForm IpChecksum Protocol HelloForm HelloChecksum (fields p) (ip_form p) (ip_checksum p) (protocol p) (hello_form (hello_of p)) (hello_checksum (hello_of p)) e

-- the octets after the header of a packet with which octets begin
abbrev pub body_of : List ℕ → List ℕ
body_of s = take (total_length s - header_length) (hello_of s)

-- what the octets of a packet show that passes
pub record Shows (s : List ℕ) : Type 0 where
  pub fits : total_length s ≤ length s
  pub long : packet_length 0 ≤ total_length s
  pub version : octet_at s version_place ≡ version_and_length
  pub fragment : two_at s fragment_place % 16384 ≡ 0
  pub kind : octet_at s protocol_place ≡ hello_protocol
  pub hosts : total_length s ≡ packet_length (octet_at s (header_length + nhosts_place))
  pub header_sum : checksum_good (take header_length s) ≡ true
  pub body_sum : checksum_good (body_of s) ≡ true

module _ (p : List ℕ) (e : passes p ≡ true) where
  ip_shows : (header_length ≤ length p) × (octet_at p version_place ≡ version_and_length) × (total_length p ≡ length p) × (two_at p fragment_place % 16384 ≡ 0)
  unfolding ip_form
  ip_shows =
      let f = both _ _ (forms p e).0 in
      let g = both _ _ f.0 in
      let h = both _ _ g.0 in
      (leb-true _ _ h.0, eqb-true _ _ h.1, eqb-true _ _ g.1, eqb-true _ _ f.1)

  kind_shows : octet_at p protocol_place ≡ hello_protocol
  unfolding protocol
  kind_shows = eqb-true _ _ (forms p e).2

  hello_shows : (fixed_length ≤ length (hello_of p)) × (length (hello_of p) ≡ hello_length (octet_at (hello_of p) nhosts_place))
  unfolding hello_form
  hello_shows =
      let f = both _ _ (forms p e).3 in
      (leb-true _ _ f.0, eqb-true _ _ f.1)

  sums_show : (checksum_good (take header_length p) ≡ true) × (checksum_good (hello_of p) ≡ true)
  unfolding ip_checksum hello_checksum
  sums_show = ((forms p e).1, (forms p e).4)

  pub packet_shows : Shows p
  packet_shows =
      let i = ip_shows in
      let h = hello_shows in
      let d = length-drop header_length p in
      let n : octet_at (hello_of p) nhosts_place ≡ octet_at p (header_length + nhosts_place) = get_or-drop header_length p nhosts_place 0 in
      record {
        fits = omega arith;
        long = omega arith;
        version = i.1;
        fragment = i.3;
        kind = kind_shows;
        hosts = omega arith;
        header_sum = sums_show.0;
        body_sum = rw (take_all (total_length p - header_length) (hello_of p) (omega arith)) sums_show.1;
      }

  pub packet_total : total_length p ≡ length p
  packet_total = ip_shows.2

drop_take : (k n : ℕ) (s : List ℕ) → k ≤ n → k ≤ length s → drop k (take n s) ≡ take (n - k) (drop k s)
drop_take k n s h l =
    let e : k + (n - k) ≡ n = omega arith in
    ap (λ m. drop k (take m s)) (sym e) ∙ ap (drop k) (take-add k (n - k) s) ∙ drop_at (take k s) (take (n - k) (drop k s)) k (length-take-le k s l)

body_begins : (s : List ℕ) (n : ℕ) → n ≤ length s → total_length (take n s) ≡ total_length s → total_length s ≤ n → header_length ≤ total_length s → body_of (take n s) ≡ body_of s
body_begins s n h t fits long =
    rw (t, drop_take header_length n s (omega arith) (omega arith)) (take-take (total_length s - header_length) (n - header_length) (hello_of s) (omega arith))

-- the same of the octets that begin with it
begins : (s : List ℕ) (n : ℕ) → n ≤ length s → Shows (take n s) → Shows s
begins s n h w =
    let l : length (take n s) ≡ n = length-take-le n s h in
    let e : (i : ℕ) → i < n → octet_at (take n s) i ≡ octet_at s i = λ i k. get_or-take n s i 0 k in
    let m : 32 ≤ n = omega (arith, w.fits, w.long) in
    let z : 0 < n = omega arith in
    let e₂ = e 2 (omega arith) in
    let e₃ = e 3 (omega arith) in
    let e₆ = e 6 (omega arith) in
    let e₇ = e 7 (omega arith) in
    let e₃₁ = e 31 (omega arith) in
    let t : total_length (take n s) ≡ total_length s = omega arith in
    record {
      fits = omega (arith, w.fits);
      long = omega (arith, w.long);
      version = sym (e 0 z) ∙ w.version;
      fragment = rw (e₆, e₇) at w.fragment;
      kind = sym (e 9 (omega arith)) ∙ w.kind;
      hosts = omega (arith, w.hosts);
      header_sum = ap checksum_good (sym (take-take header_length n s (omega arith))) ∙ w.header_sum;
      body_sum = ap checksum_good (sym (body_begins s n h t (omega (arith, w.fits)) (omega (arith, w.long)))) ∙ w.body_sum;
    }

-- ---- the length of a hit

chosen : (b : Bool) (n : ℕ) → 0 < cond b n 0 → (b ≡ true) × (cond b n 0 ≡ n)
chosen true n h = (refl, refl)
chosen false n h = absurd (omega arith)

module _ (s : List ℕ) (h : 0 < hit s) where
  tested : (leb (total_length s) (length s) && passes (take (total_length s) s) ≡ true) × (hit s ≡ total_length s)
  unfolding hit
  tested = chosen _ _ h

  pub hit_size : hit s ≡ total_length s
  hit_size = tested.1

  pub hit_passes : passes (take (total_length s) s) ≡ true
  hit_passes = (both (leb (total_length s) (length s)) _ tested.0).1

  pub hit_shows : Shows s
  hit_shows = begins s (total_length s) (leb-true _ _ (both _ _ tested.0).0) (packet_shows _ hit_passes)

nothing : (n : ℕ) → (0 < n → ⊥) → n ≡ 0
nothing zero h = refl
nothing (suc n) h = absurd (h (omega arith))

pub hit_none : (s : List ℕ) → (Shows s → ⊥) → hit s ≡ 0
hit_none s f = nothing (hit s) (λ h. f (hit_shows s h))

-- a packet that fits and passes
pub hit_is : (s : List ℕ) (n : ℕ) → n ≡ total_length s → n ≤ length s → passes (take n s) ≡ true → hit s ≡ n
unfolding hit
hit_is s n e h g = rw (← e, le-leb _ _ h, g)

-- ---- octets that show all of it begin with a packet

module _ (s : List ℕ) (w : Shows s) where
  abbrev packet : List ℕ
  packet = take (total_length s) s

  packet_long : length packet ≡ total_length s
  packet_long = length-take-le (total_length s) s w.fits

  octet : (i : ℕ) → i < 32 → octet_at packet i ≡ octet_at s i
  octet i k = get_or-take (total_length s) s i 0 (omega (arith, w.long))

  hello_octets : hello_of packet ≡ body_of s
  hello_octets = drop_take header_length (total_length s) s (omega (arith, w.long)) (omega (arith, w.fits, w.long))

  ip_passes : ip_form packet ≡ true
  unfolding ip_form
  ip_passes =
      let e₂ = octet 2 (omega arith) in
      let e₃ = octet 3 (omega arith) in
      let e₆ = octet 6 (omega arith) in
      let e₇ = octet 7 (omega arith) in
      rw (packet_long, le-leb header_length (total_length s) (omega (arith, w.long)), octet 0 (omega arith), w.version, e₂, e₃, eq-eqb (total_length s) (total_length s) refl, e₆, e₇, w.fragment)

  sum_passes : ip_checksum packet ≡ true
  unfolding ip_checksum
  sum_passes = ap checksum_good (take-take header_length (total_length s) s (omega (arith, w.long))) ∙ w.header_sum

  kind_passes : protocol packet ≡ true
  unfolding protocol
  kind_passes = rw (octet 9 (omega arith), w.kind)

  hello_passes : hello_form (hello_of packet) ≡ true
  unfolding hello_form
  hello_passes =
      let n : octet_at (hello_of packet) nhosts_place ≡ octet_at s (header_length + nhosts_place) = get_or-drop header_length packet nhosts_place 0 ∙ octet 31 (omega arith) in
      let l : length (hello_of packet) ≡ total_length s - header_length = length-drop header_length packet ∙ ap (λ k. k - header_length) packet_long in
      let e : total_length s - header_length ≡ hello_length (octet_at s (header_length + nhosts_place)) = omega (arith, w.hosts) in
      rw (l, n, le-leb fixed_length (total_length s - header_length) (omega (arith, w.long)), eq-eqb _ _ e)

  body_passes : hello_checksum (hello_of packet) ≡ true
  unfolding hello_checksum
  body_passes = ap checksum_good hello_octets ∙ w.body_sum

  pub shown_hit : hit s ≡ total_length s
  unfolding passes parse
  shown_hit = hit_is s (total_length s) refl w.fits (rw (ip_passes, sum_passes, kind_passes, hello_passes, body_passes))
