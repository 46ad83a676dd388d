-- Steps 2 to 4 of an arrival go one of three ways, a send writes its own link, and lines (a) to (c) of an update go one of five ways.
use Rattle.std.specs.Prelude.{Option, Some, None, Result, Ok, Err}
use mathlib.Core.Path.{◌≡◌, refl, sym, ap, subst, ◌∙◌}
use mathlib.Core.Bool.{Bool, true, false, true≢false, false≢true, cond, not, ◌||◌}
use mathlib.Core.List.{List}
use Prim.Native.Nat.{ℕ, ◌-◌, ◌<◌}
use native.Mathlib.Omega.{arith}
use lib.Dec.{T, ltb, eqb}
use lib.IntN.{◌+ℤ◌}
use lib.ListN.{length}
use lib.Seq.{get_or-set_same}
use Rattle.lists.proofs.Tests.{either, is_so, neither}
use Rattle.quantity.specs.Words.{zero_word}
use Rattle.answer.specs.declared.Answer.{Answer}
use Rattle.answer.specs.declared.Answer.TheVariants.{Done, DelayNotValid}
use Rattle.answer.specs.Answer.{number}
use Rattle.clock.specs.declared.Clock.{Clock}
use Rattle.clock.specs.declared.Counter.{Counter}
use Rattle.clock.specs.Clock.{count_used}
use Rattle.wire.specs.declared.Address.{Address}
use Rattle.wire.specs.declared.Packet.{Packet}
use Rattle.wire.specs.Octets.{same_address}
use Rattle.wire.specs.Ip.{ip_form, ip_checksum, protocol}
use Rattle.wire.specs.Hello.{hello_form, hello_checksum}
use Rattle.wire.specs.Packet.{packet_length, hello_of, fields, parse}
use Rattle.table.specs.Forms.{Stage, on, end}
use Rattle.host.specs.declared.Settings.{Settings}
use Rattle.host.specs.declared.Link.{Link}
use Rattle.host.specs.declared.guard.Scope.{Scope}
use Rattle.host.specs.declared.guard.Scope.TheVariants.{OnLink}
use Rattle.host.specs.Guard.{out_of_range, in_walk, guard, done}
use Rattle.host.specs.Inspection.{other_layout, looped, inspect}
use Rattle.host.specs.Inspection as inspection
use Rattle.host.specs.declared.Host.{Host}
use Rattle.host.specs.CallState.{CallState, host, our_reading}
use Rattle.host.specs.Settings.{found_for, settings_fit}
use Rattle.host.specs.State.{host_count, broadcast, link_of, no_link, with_link, fresh_link, unset}
use Rattle.arrival.specs.declared.Flight.{Flight}
use Rattle.arrival.specs.declared.Arrived.{Arrived}
use Rattle.arrival.specs.Steps.{measured, new_neighbor, step2, step3, step4, steps2to4, tsp_of}
use Rattle.arrival.specs.Arrival.{no_table, step5, concluded, action, inspected}
use Rattle.calls.specs.Perform.{Call, receive, act, Outcome, sent_by, updated_by, perform}
use Rattle.calls.proofs.Pair.{receive_acts}
use Rattle.network_laws.specs.Demand3.{timed}
use Rattle.network_laws.proofs.Arrivals.{same_address_lem}
use Rattle.network_laws.specs.HostAfter.{message_of}
use Rattle.quantity.specs.Quantity.{add_millis, less_millis}
use Rattle.table.specs.Entry.{min_delay}
use Rattle.table.specs.Entry as entry
use Rattle.table.specs.Update.{line_a, line_b, line_c, lines, left}
use Rattle.host.proofs.Guarded.{passed, counted}
use Rattle.network_laws.specs.Slots.{Slots}
use Rattle.network_laws.proofs.Performs.{performs, there}
use Rattle.network_laws.proofs.Sends.{reports, sent_message_lem}
use Rattle.network_laws.proofs.Demand3.Near.{Fits16}
use Rattle.sending.specs.declared.Sending.{Sending}
use Rattle.sending.specs.Message.{table_goes, sent_tsp, link_sent, packet_sent}
use Rattle.sending.specs.Send.{report_count}
use Rattle.wire.proofs.ReadBack.{nhosts_back, tsp_back}
use Rattle.quantity.specs.declared.Word.{Word}
use Rattle.quantity.proofs.Wrap.{wrap_range}
use Rattle.liveness_laws.specs.Handshake.{Hears, Speaks, Believes, accepts, storing, Learns, Handshake}

-- no answer of the inspection, and none of the guard but 0, has a time
parse_untimed : (P : Result Packet Answer → Type 0) (octets : List ℕ) → ((x : Answer) → timed x ≡ false → P (Err x)) → P (Ok (fields octets)) → P (parse octets)
unfolding parse
parse_untimed P octets bad good =
    either P (not (ip_form octets)) _ _ (λ _. bad _ refl)
    (λ _.
    either P (not (ip_checksum octets)) _ _ (λ _. bad _ refl)
    (λ _.
    either P (not (protocol octets)) _ _ (λ _. bad _ refl)
    (λ _.
    either P (not (hello_form (hello_of octets))) _ _ (λ _. bad _ refl)
    (λ _. either P (not (hello_checksum (hello_of octets))) _ _ (λ _. bad _ refl) (λ _. good)))))

inspect_untimed : (P : Result Packet Answer → Type 0) (s : Settings) (i : ℕ) (octets : List ℕ) → ((x : Answer) → timed x ≡ false → P (Err x)) → P (Ok (fields octets)) → P (inspect s i octets)
unfolding inspect
inspect_untimed P s i octets bad good =
    parse_untimed (λ (x : Result Packet Answer). P (inspection.inspected s i x)) octets bad
    (either P (other_layout s (fields octets)) _ _ (λ _. bad _ refl) (λ ours. either P (looped s i (fields octets)) _ _ (λ _. bad _ refl) (λ _. good)))

guard_untimed : (a : Scope) (x : CallState) → done (guard a x) ≡ false → timed (guard a x) ≡ false
unfolding guard
guard_untimed a x =
    either Q (out_of_range a x) _ _ (λ _ _. refl) (λ _. either Q (in_walk a x.walk) _ _ (λ _ _. refl) (λ _. either Q (not (settings_fit x.nets x.host.settings)) _ _ (λ _ _. refl) (λ _ z. absurd (true≢false z))))
  where
    Q : Answer → Type 0
    Q z = done z ≡ false → timed z ≡ false

-- a link that is in range has a slot
slot_of : (i : ℕ) (x : CallState) → Slots x.host.settings x.host.links → no_link x.host.settings i ≡ false → i - 1 < length x.host.links.all
slot_of i x slots linked = omega (arith, slots, (counted x.host.settings i linked).at_place)

module _ (i : ℕ) (k : Counter) (packet : List ℕ) (x : CallState) (point : broadcast x.host.settings i ≡ false) where
  abbrev p : Packet
  p = fields packet

  abbrev l : Link
  l = link_of x.host.links i

  abbrev learnt : Link
  learnt = record { neighbor = p.source; keep_alive = 4; tsp = tsp_of p.time (our_reading k x.host).time }

  abbrev clock : Clock
  clock = (our_reading k x.host).clock

  -- what is so of the ways that an arrival can go that has a time
  module _ (P : Outcome → Type 0) (goes : no_link x.host.settings i ≡ false → P (updated_by (action k x.nets x.host i p) packet x)) where
    timed_cases : (T (timed (perform (receive i k packet) x).reply.answer) → P (perform (receive i k packet) x))
    timed_cases =
        subst (λ (o : Outcome). T (timed o.reply.answer) → P o) (sym (receive_acts i k packet x))
        (performs (act i k packet) x (λ (o : Outcome). T (timed o.reply.answer) → P o)
        (λ no t. absurd (subst T (guard_untimed (OnLink i) x no) t))
        (λ d.
        inspect_untimed (λ (q : Result Packet Answer). T (timed (inspected k x.nets x.host i q).reply.answer) → P (updated_by (inspected k x.nets x.host i q) packet x)) x.host.settings i packet
        (λ z no t. absurd (subst T no t)) (λ _. goes ((passed (OnLink i) x d).link i refl))))

  -- H1
  hears : Slots x.host.settings x.host.links → T (timed (perform (receive i k packet) x).reply.answer) → link_of (perform (receive i k packet) x).links i ≡ learnt
  unfolding steps2to4 step2 step3 step4
  hears slots =
      timed_cases (λ (o : Outcome). link_of o.links i ≡ learnt)
      (λ linked.
      rw point
      (either Kept (not (same_address p.source l.neighbor)) _ _ (λ _. stored_on linked (new_neighbor p arrived) refl)
      (λ t.
      let same = same_address_lem p.source l.neighbor (is_so _ t) in
      either Kept (zero_word p.tsp || not (eqb clock.hold.0 0)) _ _ (λ _. stored linked arrived.link ∙ ap named (sym same)) (λ _. stored_on linked arrived (ap named (sym same))))))
    where
      arrived : Flight
      arrived = measured false p (our_reading k x.host).time l

      named : Address → Link
      named n = record { neighbor = n; keep_alive = 4; tsp = tsp_of p.time (our_reading k x.host).time }

      Kept : Stage Flight → Type 0
      Kept g = link_of (concluded x.nets (host x.host.settings clock x.host.links) i (count_used k) p g).links i ≡ learnt

      stored : no_link x.host.settings i ≡ false → (z : Link) → link_of (with_link i z x.host.links) i ≡ z
      stored linked z = get_or-set_same x.host.links.all (i - 1) z (fresh_link unset) (slot_of i x slots linked)

      fifth_links : (g : Host) (f : Flight) → (step5 x.nets g i (count_used k) p f).links ≡ g.links
      fifth_links g f = either (λ (e : Arrived). e.links ≡ g.links) (eqb p.nhosts 0) _ _ (λ _. found (found_for x.nets g.settings f.link.neighbor)) (λ _. refl)
        where
          found : (q : Option ℕ) → (no_table g i (count_used k) p f q).links ≡ g.links
          found None = refl
          found (Some id) = refl

      stored_on : no_link x.host.settings i ≡ false → (f : Flight) → f.link ≡ learnt → Kept (on f)
      stored_on linked f is = ap (λ ls. link_of ls i) (fifth_links (host x.host.settings clock (with_link i f.link x.host.links)) f) ∙ stored linked f.link ∙ is

  -- H3
  module _ (some : eqb p.nhosts 0 ≡ false) (known : same_address p.source l.neighbor ≡ true) where
    -- the answer, by TSP and HOLD
    answer_is : T (timed (perform (receive i k packet) x).reply.answer) → (perform (receive i k packet) x).reply.answer ≡ cond (zero_word p.tsp || not (eqb clock.hold.0 0)) DelayNotValid Done
    unfolding steps2to4 step2 step3 step4
    answer_is =
        timed_cases (λ (o : Outcome). o.reply.answer ≡ cond (zero_word p.tsp || not (eqb clock.hold.0 0)) DelayNotValid Done)
        (λ _. rw (point, known) (go (zero_word p.tsp || not (eqb clock.hold.0 0)) _))
      where
        go : (t : Bool) (f : Flight) → (concluded x.nets (host x.host.settings clock x.host.links) i (count_used k) p (cond t (end f) (on f))).reply.answer ≡ cond t DelayNotValid Done
        go true f = refl
        go false f = rw some refl

    believes : T (timed (perform (receive i k packet) x).reply.answer)
        → ((perform (receive i k packet) x).reply.answer ≡ Done → (zero_word p.tsp ≡ false) × (eqb clock.hold.0 0 ≡ true))
        × (zero_word p.tsp ≡ false → eqb clock.hold.0 0 ≡ true → (perform (receive i k packet) x).reply.answer ≡ Done)
    believes t =
        let is = answer_is t in (
          (λ done-now. let z = only (zero_word p.tsp || not (eqb clock.hold.0 0)) (sym is ∙ done-now) in let n = neither (zero_word p.tsp) _ z in (n.0, is_so _ n.1)),
          (λ word hold. is ∙ rw (word, hold) refl),
        )
      where
        only : (t : Bool) → cond t DelayNotValid Done ≡ Done → t ≡ false
        only true e = absurd (let z : ◌≡◌ {A = ℕ} (number DelayNotValid) (number Done) = ap number e in omega arith)
        only false e = refl

pub hears_hold : Hears
unfolding Hears
hears_hold i k packet x slots point t = hears i k packet x point slots t

pub believes_hold : Believes
unfolding Believes
believes_hold i k packet x point t some known = believes i k packet x point some known t

-- H4: the entry after lines (a) to (c), by the four tests that they make
pub learns_hold : Learns
unfolding Learns lines line_a line_b line_c
learns_hold u e low = go (eqb u.pid e.pid) (less_millis e.delay (add_millis u.delay min_delay)) (entry.up e) (eqb e.ttl.0 0) refl refl refl refl
  where
    go : (p q v z : Bool) → eqb u.pid e.pid ≡ p → less_millis e.delay (add_millis u.delay min_delay) ≡ q → entry.up e ≡ v → eqb e.ttl.0 0 ≡ z
        → left (lines u e) ≡ cond (accepts u e) (storing u e) e
    go true q true z a b c d = rw (a, c, low) refl
    go true q false true a b c d = rw (a, c, d, low) refl
    go true q false false a b c d = rw (a, c, d, low) refl
    go false true v z a b c d = rw (a, b) refl
    go false false true z a b c d = rw (a, b, c, low) refl
    go false false false true a b c d = rw (a, b, c, d, low) refl
    go false false false false a b c d = rw (a, b, c, d, low) refl

-- H2
module _ (i : ℕ) (k : Counter) (buffer : List ℕ) (x : CallState) (slots : Slots x.host.settings x.host.links) where
  abbrev y : Link
  y = link_of x.host.links i

  record Out (o : Outcome) : Type 0 where
    pub tsp : (fields (message_of o)).tsp ≡ sent_tsp y (our_reading k x.host).time
    pub falls : (link_of o.links i).keep_alive ≡ y.keep_alive - 1
    pub keeps : (link_of o.links i).neighbor ≡ y.neighbor
    pub table : eqb (fields (message_of o)).nhosts 0 ≡ false → table_goes x.host.settings y ≡ true

  tsp_fits : Fits16 (sent_tsp y (our_reading k x.host).time).0
  tsp_fits =
      either (λ (v : Word). Fits16 v.0) (eqb y.keep_alive 0) _ _ (λ _. omega arith)
      (λ _. let w = wrap_range 16 (omega arith) (y.tsp.0 +ℤ (our_reading k x.host).time.0) in record { high = w.0; low = w.1 })

  says : (perform (Call.send i k buffer) x).reply.answer ≡ Done → Out (perform (Call.send i k buffer) x)
  says =
      performs (Call.send i k buffer) x (λ (o : Outcome). o.reply.answer ≡ Done → Out o)
      (λ no is. absurd (false≢true (sym no ∙ ap done is)))
      (λ d.
      let held = there (Call.send i k buffer) x d in
      either (λ (q : Sending). (sent_by q buffer x).reply.answer ≡ Done → Out (sent_by q buffer x)) (ltb (length buffer) (packet_length (report_count x.host.settings y))) _ _
      (λ _ z. absurd (false≢true (ap done z)))
      (λ _ _.
      let stored = get_or-set_same x.host.links.all (i - 1) (link_sent y) (fresh_link unset) (slot_of i x slots ((passed (OnLink i) x d).link i refl)) in
      let message-is = sent_message_lem x held i k buffer in
      record {
        tsp = ap (λ (o : List ℕ). (fields o).tsp) message-is ∙ tsp_back y.neighbor (packet_of_lem) (reports x held i) tsp_fits.high tsp_fits.low;
        falls = ap (λ (w : Link). w.keep_alive) stored;
        keeps = ap (λ (w : Link). w.neighbor) stored;
        table = λ some. goes_out (table_goes x.host.settings y) refl (sym (ap (λ (o : List ℕ). eqb (fields o).nhosts 0) message-is ∙ ap (λ (n : ℕ). eqb n 0) (nhosts_back y.neighbor packet_of_lem (reports x held i))) ∙ some);
      }))
    where
      packet_of_lem : Packet
      packet_of_lem = packet_sent x.host.settings y (our_reading k x.host).time (our_reading k x.host).clock.date (report_count x.host.settings y)

      goes_out : (t : Bool) → table_goes x.host.settings y ≡ t → eqb (report_count x.host.settings y) 0 ≡ false → t ≡ true
      goes_out true e n = refl
      goes_out false e n = absurd (true≢false (sym (ap (λ (t : Bool). eqb (cond t (host_count x.host.settings) 0) 0) e) ∙ n))

pub handshake_holds : Handshake
unfolding Speaks
handshake_holds =
    record {
      hears = hears_hold;
      speaks = λ i k buffer x slots is. let o = says i k buffer x slots is in record { tsp = o.tsp; falls = o.falls; keeps = o.keeps; table = o.table };
      believes = believes_hold;
      learns = learns_hold;
    }
