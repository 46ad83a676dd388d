-- A message as a list: how long it is, that it is made of octets, and where a report stands in it.
use mathlib.Core.Path.{◌≡◌, refl, sym, ap, ◌∙◌}
use mathlib.Core.List.{List, [], ◌∷◌, ◌++◌}
use Prim.Native.Nat.{ℕ, zero, suc, ◌+◌, ◌*◌, ◌<◌}
use native.Mathlib.Omega.{arith}
use lib.ListN.{length, get_or, drop}
use lib.Seq.{drop-nil, drop-drop, drop-cons, get_or-drop}
use Rattle.octets.specs.Octets.{Octets}
use Rattle.wire.specs.declared.Address.{Address}
use Rattle.wire.specs.declared.Packet.{Packet}
use Rattle.wire.specs.declared.Report.{Report}
use Rattle.wire.specs.Ip.{header_start, header_back, header}
use Rattle.wire.specs.Hello.{report_length, report_place, hello_length, report_octets, reports_octets, hello_rest, hello}
use Rattle.wire.specs.Packet.{packet_length, message}
use Rattle.wire.specs.code.Ranges.{AddressFits}

-- ---- lengths

pub reports_length : (rs : List Report) → length (reports_octets rs) ≡ report_length * length rs
reports_length [] = refl
reports_length (r ∷ rs) = omega (arith, reports_length rs)

pub hello_length_lem : (p : Packet) (rs : List Report) → length (hello p rs) ≡ hello_length (length rs)
unfolding hello
hello_length_lem p rs = omega (arith, reports_length rs)

pub message_length : (destination : Address) (p : Packet) (rs : List Report) → length (message destination p rs) ≡ packet_length (length rs)
unfolding message header
message_length destination p rs = omega (arith, hello_length_lem p rs)

-- ---- octets

pub front_octets : (total : ℕ) → Octets (header_start total)
front_octets total = omega arith

pub back_octets : (source destination : Address) → AddressFits source → AddressFits destination → Octets (header_back source destination)
back_octets source destination f g =
    (f.first, (f.second, (f.third, (f.fourth, (g.first, (g.second, (g.third, (g.fourth, tt))))))))

pub reports_octets_lem : (rs : List Report) → Octets (reports_octets rs)
reports_octets_lem [] = tt
reports_octets_lem (r ∷ rs) = (omega arith, (omega arith, (omega arith, (omega arith, reports_octets_lem rs))))

pub after_octets : (p : Packet) (rs : List Report) → p.address_offset < 256 → p.nhosts < 256 → Octets (hello_rest p rs)
after_octets p rs a n =
    (omega arith, (omega arith, (omega arith, (omega arith, (omega arith, (omega arith, (omega arith, (omega arith, (a, (n, reports_octets_lem rs))))))))))

-- ---- the reports

pub reports_append : (rs : List Report) (r : Report) → reports_octets (rs ++ r ∷ []) ≡ reports_octets rs ++ report_octets r
reports_append [] r = refl
reports_append (x ∷ rs) r = ap (λ l. report_octets x ++ l) (reports_append rs r)

drop_reports : (i : ℕ) (rs : List Report) → drop (report_length * i) (reports_octets rs) ≡ reports_octets (drop i rs)
drop_reports zero rs = refl
drop_reports (suc i) [] = drop-nil (report_length * suc i)
drop_reports (suc i) (r ∷ rs) =
    let e : report_length * suc i ≡ suc (suc (suc (suc (report_length * i)))) = omega arith in
    rw e (drop_reports i rs)

-- the octets of a HELLO from a report on
pub octet_of_report : (p : Packet) (rs : List Report) (i j : ℕ) (none : Report) → i < length rs
    → get_or (hello p rs) (report_place i + j) 0 ≡ get_or (reports_octets (get_or rs i none ∷ drop (suc i) rs)) j 0
unfolding hello
octet_of_report p rs i j none h =
    sym (get_or-drop (report_place i) (hello p rs) j 0) ∙ ap (λ l. get_or l j 0) from
  where
    from : drop (report_place i) (hello p rs) ≡ reports_octets (get_or rs i none ∷ drop (suc i) rs)
    from = sym (drop-drop (report_length * i) 12 (hello p rs)) ∙ drop_reports i rs ∙ ap reports_octets (drop-cons rs i none h)
