-- The laws of sealing: with the reports put in their places, what is sealed is the message, and the rest is as it was.
use mathlib.Core.Path.{◌≡◌, ◌∙◌}
use mathlib.Core.List.{List, [], ◌∷◌, ◌++◌, append_assoc}
use Prim.Native.Nat.{ℕ, suc, ◌+◌, ◌*◌, ◌≤◌}
use native.Mathlib.Omega.{arith}
use lib.ListN.{length, take, drop}
use lib.Seq.{drop-drop, paste-zero}
use Rattle.lists.specs.Lists.{over}
use Rattle.lists.proofs.Parts.{over_there, over_rest, over_twice, over_length}
use Rattle.wire.specs.declared.Address.{Address}
use Rattle.wire.specs.declared.Packet.{Packet}
use Rattle.wire.specs.declared.Report.{Report}
use Rattle.wire.specs.Ip.{header_length, header}
use Rattle.wire.specs.Hello.{fixed_length, report_length, report_place, hello_length, report_octets, reports_octets, hello}
use Rattle.wire.specs.Packet.{packet_length, message}
use Rattle.wire.specs.code.Sealing.{sealed_hello, sealed, with_report, with_reports}
use Rattle.wire.proofs.Messages.{reports_length, reports_append}

-- with its reports in their places, what is sealed is the message
pub sealed_message : (destination : Address) (p : Packet) (rs : List Report) (b : List ℕ)
    → take (report_length * p.nhosts) (drop (packet_length 0) b) ≡ reports_octets rs
    → sealed destination p b ≡ message destination p rs ++ drop (packet_length p.nhosts) b
unfolding sealed sealed_hello message hello
sealed_message destination p rs b e =
    rw (drop-drop fixed_length header_length b, e, drop-drop (hello_length p.nhosts) header_length b, append_assoc (header (packet_length p.nhosts) p.source destination))

-- the reports of all hosts so far, and one more
pub one_more : (rs : List Report) (r : Report) (b : List ℕ) → packet_length 0 ≤ length b
    → with_report (length rs) r (over b (packet_length 0) (reports_octets rs)) ≡ over b (packet_length 0) (reports_octets (rs ++ r ∷ []))
unfolding with_report
one_more rs r b h =
    let e : header_length + report_place (length rs) ≡ packet_length 0 + length (reports_octets rs) = omega (arith, reports_length rs) in
    rw (e, over_twice (packet_length 0) b (reports_octets rs) h (report_octets r), ← reports_append rs r)

-- the reports of a list, put one after the other: they stand in their places, and nothing else is changed
pub all_put : (i : ℕ) (rs : List Report) (b : List ℕ) → packet_length (i + length rs) ≤ length b
    → with_reports i rs b ≡ over b (packet_length i) (reports_octets rs)
unfolding with_report with_reports
all_put i [] b h = paste-zero b (packet_length i) []
all_put i (r ∷ rs) b h =
    let k = packet_length i in
    let n : length (with_report i r b) ≡ length b = over_length k b (report_octets r) (omega arith) in
    let e : packet_length (suc i) ≡ k + length (report_octets r) = omega arith in
    all_put (suc i) rs (with_report i r b) (rw n (omega arith)) ∙ rw e (over_twice k b (report_octets r) (omega arith) (reports_octets rs))

-- so a packet whose reports were put and that was then sealed is the message, with what was there behind it
pub put_and_sealed : (destination : Address) (p : Packet) (rs : List Report) (b : List ℕ) → p.nhosts ≡ length rs → packet_length (length rs) ≤ length b
    → sealed destination p (over b (packet_length 0) (reports_octets rs)) ≡ message destination p rs ++ drop (packet_length (length rs)) b
put_and_sealed destination p rs b c h =
    let k = packet_length 0 in
    let xs = reports_octets rs in
    let l : k ≤ length b = omega arith in
    let n : length xs ≡ report_length * p.nhosts = omega (arith, reports_length rs) in
    let e₁ : packet_length p.nhosts ≡ k + length xs = omega arith in
    let e₂ : packet_length (length rs) ≡ k + length xs = omega arith in
    sealed_message destination p rs (over b k xs) (over_there k b xs l (report_length * p.nhosts) n) ∙ rw (e₁, e₂, over_rest k b xs l)
