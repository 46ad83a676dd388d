-- Every packet in a slot was sent in the network, and each event keeps that. So an arrival gets a copy of a message that was sent at the other end of its cable.
use mathlib.Core.Path.{◌≡◌, refl, sym, ◌∙◌, ap, subst}
use mathlib.Core.Bool.{Bool, true, false, cond, ◌&&◌, false≢true}
use mathlib.Core.List.{List, ◌∷◌, Memᴰ}
use Prim.Native.Nat.{ℕ, ◌-◌, ◌≤◌, ◌<◌}
use native.Mathlib.Omega.{arith}
use borrow.Author.Tests.{ltb-true, leb-true, eqb-true, eqb-false, eq-eqb, ne_eqb}
use lib.Dec.{T, ltb, leb, eqb}
use lib.IntN.{ℤ, pos, ◌+ℤ◌}
use lib.ListN.{length}
use Rattle.lists.specs.Lists.{part}
use Rattle.lists.proofs.Tests.{both}
use Rattle.lists.proofs.Parts.{part_length}
use Rattle.answer.specs.declared.Answer.TheVariants.{Done, IpForm}
use Rattle.clock.specs.declared.Counter.{Counter}
use Rattle.net_table.specs.declared.NetTable.{NetTable}
use Rattle.host.specs.Guard.{done}
use Rattle.host.specs.Guard as guards
use Rattle.calls.specs.Perform.{Outcome, send, perform, in_turn}
use Rattle.bench_file.specs.declared.Header.{Header}
use Rattle.bench_file.specs.declared.End as declared
use Rattle.bench_file.specs.declared.Event.{Event}
use Rattle.bench_file.specs.declared.Event.TheVariants.{Tick, Adjust, Set, Second, SelfReport, Send, Arrival, Unknown}
use Rattle.bench_file.specs.Records.{end_at}
use Rattle.bench_file.specs.Absent.{slots, mark_good, event_good}
use Rattle.bench.specs.declared.slots.Label.{Label}
use Rattle.bench.specs.Bench.{Bench, state_at}
use Rattle.bench.specs.Slots.{room_place, label_of, packet_of, room_of, empty, far_end, with_room, with_label}
use Rattle.bench.specs.Event.{after_at, sent, taken, carried}
use Rattle.bench.specs.Run.{header}
use Rattle.network_laws.specs.HostAfter.{message_of}
use Rattle.network_laws.specs.History.{put}
use Rattle.network_laws.specs.Network.{Network, End, at}
use Rattle.network_laws.specs.Demand3.{NetworkCall, call_of, Message, mail_after, result, step, timed, Timely}
use Rattle.network_laws.specs.Demand3 as rooms
use Rattle.network_laws.specs.SharedTable.{SharedStep, SharedWorld, call_state, shared_step, SharedAllowed}
use Rattle.network_laws.proofs.Pair.{pair_holds}
use Rattle.bench_laws.specs.Bound.{file_network, Wired, ReadsAt, LaterThan, OnTime, since_then}
use Rattle.bench_laws.proofs.Guards.{Ready}
use Rattle.bench.proofs.Named.{cables_good_lem, end_host, filled}
use Rattle.calls.proofs.SendKeeps.{keeps}
use Rattle.bench_laws.proofs.Called.{Plain, plain}
use Rattle.bench_laws.proofs.Packets as packets
use Rattle.bench_laws.proofs.Tracks as tracking

module _ (file : List ℕ) (t : NetTable) (first : Bench) (f : ℕ → ℤ) (cable : ℕ → ℕ → End) (longest : ℕ) where
  abbrev r : Network
  r = file_network file t first f cable longest

  abbrev h : Header
  h = header file t

  abbrev Tracks : Bench → SharedWorld → Type 0
  Tracks b w = tracking.Tracks file t first f cable longest b w

  -- the end that a slot's packet was sent from
  abbrev near_end : List ℕ → ℕ → declared.End
  near_end o s = end_at file h (label_of s o).cable (label_of s o).end

  pub record Held (o : List ℕ) (mail : List Message) (since : ℕ → ℤ) (s : ℕ) : Type 0 where
    pub message : Message
    pub earlier : Memᴰ message mail
    pub a_copy : packet_of s o ≡ message.octets
    pub from_node : (near_end o s).host ≡ message.node
    pub from_link : (near_end o s).link ≡ message.link
    pub sent_at_lem : since s ≡ message.ms

  abbrev pub AllHeld : List ℕ → List Message → (ℕ → ℤ) → Type 0
  AllHeld o mail since = (s : ℕ) → s < slots → empty s o ≡ false → Held o mail since s

  pub record Stands (b : Bench) (w : SharedWorld) (since : ℕ → ℤ) : Type 0 where
    pub tracks : Tracks b w
    pub held : AllHeld b.slots w.world.mail since

  -- slots, answers and what is done are not tracked
  pub again : (b : Bench) (w : SharedWorld) (slots answers : List ℕ) (done : ℕ) → Tracks b w
      → Tracks record { hosts = b.hosts; copies = b.copies; entries = b.entries; slots = slots; answers = answers; done = done } w
  again b w slots answers done tr = record { clock = tr.clock; links = tr.links; walk = tr.walk; copy = tr.copy; entries = tr.entries }

  -- an event that was no call, or one that the network allows
  pub data Went (w : SharedWorld) (b : Bench) (since : ℕ → ℤ) : Type 0 where
    stayed : Stands b w since → Went w b since
    went : (x : SharedStep) → SharedAllowed r w x → Stands b (shared_step r w x) since → Went w b since

  module _ (u : NetTable) (b : Bench) (ready : Ready u file b) (w : SharedWorld) (since : ℕ → ℤ) (st : Stands b w since) where
    there : {k : ℕ} → k < h.hosts → k < length b.hosts
    there l = omega (arith, l, ready.long.hosts)

    -- ---- a call that sends nothing

    module _ (k : ℕ) (here : k < h.hosts) (q : NetworkCall) (p : Plain (call_of q)) where
      abbrev x : SharedStep
      x = tracking.taken file t first f cable longest u b w st.tracks k here (there here) q p

      silent : ((z : Outcome) → mail_after k z q w.world.mail ≡ w.world.mail) → AllHeld b.slots (shared_step r w x).world.mail since
      unfolding shared_step step
      silent quiet s l e = subst (λ (m : List Message). Held b.slots m since s) (sym (quiet (result r w.world (call_state w x)))) (st.held s l e)

      quiet_call : ((z : Outcome) → mail_after k z q w.world.mail ≡ w.world.mail) → Timely r w.world k (result r w.world (call_state w x)) q
          → Went w (after_at k (perform (call_of q) (state_at file u k b)) b) since
      quiet_call quiet timely =
          went x (tracking.allowed file t first f cable longest u b w st.tracks k here (there here) q p timely)
          record { tracks = tracking.tracks file t first f cable longest u b w st.tracks k here (there here) q p; held = silent quiet }

    -- ---- a send

    module _ (c i n : ℕ) (k : Counter) (ms : ℤ) (lc : c < h.cables) (li : i ≤ 1) (ln : n < slots) where
      abbrev e : declared.End
      e = end_at file h c i

      here : e.host < h.hosts
      here = end_host file h (cables_good_lem u file h ready.records) c i lc li

      abbrev q : NetworkCall
      q = rooms.sends e.link k (room_of n b.slots) ms

      abbrev y : SharedStep
      y = tracking.taken file t first f cable longest u b w st.tracks e.host here (there here) q (plain (call_of q) refl)

      abbrev o : Outcome
      o = perform (send e.link k (room_of n b.slots)) (state_at file u e.host b)

      abbrev put_there : List ℕ
      put_there = with_room n o.buffer b.slots

      abbrev new : Message
      new = record { node = e.host; link = e.link; ms = ms; octets = message_of o }

      room : length (room_of n b.slots) ≡ guards.longest
      room = part_length (room_place n) guards.longest b.slots (omega (arith, ready.long.slots))

      full : length o.buffer ≡ guards.longest
      full = (keeps (state_at file u e.host b) e.link k (room_of n b.slots)).room ∙ room

      few : done o.reply.answer ≡ true → o.reply.length ≤ guards.longest
      few d = omega (arith, (keeps (state_at file u e.host b) e.link k (room_of n b.slots)).fits d, room)

      -- refused: the slots are as they were
      slots_kept : done o.reply.answer ≡ false → put_there ≡ b.slots
      slots_kept d =
          ap (λ (z : List ℕ). with_room n z b.slots) (packets.refused_keeps (state_at file u e.host b) e.link k (room_of n b.slots) d)
          ∙ packets.room_back b.slots n ln ready.long.slots

      -- sent: it is in its slot
      module _ (d : done o.reply.answer ≡ true) where
        abbrev after : List ℕ
        after = with_label n o.reply.length c i put_there

        label : label_of n after ≡ record { length = o.reply.length; cable = c; end = i }
        label = packets.own_label b.slots n ln ready.long.slots o.buffer full o.reply.length c i (few d)

        own : Held after (new ∷ w.world.mail) (put n ms since) n
        own =
            record {
              message = new;
              earlier = Memᴰ.head refl;
              a_copy =
                  ap (λ (l : Label). part (room_place n) l.length after) label
                  ∙ packets.own_packet b.slots n ln ready.long.slots o.buffer full o.reply.length c i (few d);
              from_node = ap (λ (l : Label). (end_at file h l.cable l.end).host) label;
              from_link = ap (λ (l : Label). (end_at file h l.cable l.end).link) label;
              sent_at_lem = rw (eq-eqb n n refl);
            }

        other : (s : ℕ) → s < slots → empty s after ≡ false → (s ≡ n → ⊥) → Held after (new ∷ w.world.mail) (put n ms since) s
        other s l g apart =
            let lab = packets.label_kept b.slots n ln ready.long.slots o.buffer full o.reply.length c i (few d) s apart l in
            let was : empty s b.slots ≡ false = ap (λ (z : Label). eqb z.length 0) (sym lab) ∙ g in
            let old = st.held s l was in
            record {
              message = old.message;
              earlier = Memᴰ.tail old.earlier;
              a_copy =
                  packets.packet_kept b.slots n ln ready.long.slots o.buffer full o.reply.length c i (few d) s apart l (filled h b.slots ready.slots_good_lem s l was).0
                  ∙ old.a_copy;
              from_node = ap (λ (z : Label). (end_at file h z.cable z.end).host) lab ∙ old.from_node;
              from_link = ap (λ (z : Label). (end_at file h z.cable z.end).link) lab ∙ old.from_link;
              sent_at_lem = rw (ne_eqb s n apart) old.sent_at_lem;
            }

      slots_held : (d : Bool) → done o.reply.answer ≡ d
          → AllHeld (cond d (with_label n o.reply.length c i put_there) put_there) (cond d (new ∷ w.world.mail) w.world.mail) (cond d (put n ms since) since)
      slots_held false d s l g =
          subst (λ (z : List ℕ). Held z w.world.mail since s) (sym (slots_kept d)) (st.held s l (ap (empty s) (sym (slots_kept d)) ∙ g))
      slots_held true d s l g = go (eqb s n) refl
        where
          go : (v : Bool) → eqb s n ≡ v → Held (with_label n o.reply.length c i put_there) (new ∷ w.world.mail) (put n ms since) s
          go true v = subst (Held (with_label n o.reply.length c i put_there) (new ∷ w.world.mail) (put n ms since)) (sym (eqb-true s n v)) (own d)
          go false v = other d s l g (eqb-false s n v)

      sends : (o.reply.answer ≡ Done → ReadsAt file u r b e.host k ms)
          → Went w (sent file u h e c i n k b).bench (cond (done o.reply.answer) (put n ms since) since)
      unfolding shared_step step
      sends on_time =
          let same = tracking.same_result file t first f cable longest u b w st.tracks e.host here (there here) q (plain (call_of q) refl) in
          went y
          (tracking.allowed file t first f cable longest u b w st.tracks e.host here (there here) q (plain (call_of q) refl)
          (λ z. tracking.reads file t first f cable longest u b w st.tracks e.host here (there here) k ms (on_time (ap (λ (v : Outcome). v.reply.answer) (sym same) ∙ z))))
          record {
            tracks = again _ _ _ _ _ (tracking.tracks file t first f cable longest u b w st.tracks e.host here (there here) q (plain (call_of q) refl));
            held = λ s l g.
                subst (λ (m : List Message). Held (sent file u h e c i n k b).bench.slots m (cond (done o.reply.answer) (put n ms since) since) s)
                (ap (λ (z : Outcome). mail_after e.host z q w.world.mail) (sym same)) (slots_held (done o.reply.answer) refl s l g);
          }

    -- ---- an arrival from a slot that is filled

    module _ (n : ℕ) (k : Counter) (ms : ℤ) (ln : n < slots) (wired : Wired file t cable) (is-full : empty n b.slots ≡ false) where
      abbrev far : declared.End
      far = far_end file h n b.slots

      abbrev packet : List ℕ
      packet = packet_of n b.slots

      abbrev arrive : NetworkCall
      arrive = rooms.arrives far.link k packet ms

      far_here : far.host < h.hosts
      far_here = end_host file h (cables_good_lem u file h ready.records) (label_of n b.slots).cable (1 - (label_of n b.slots).end) (filled h b.slots ready.slots_good_lem n ln is-full).1 (omega arith)

      abbrev z : SharedStep
      z = tracking.taken file t first f cable longest u b w st.tracks far.host far_here (there far_here) arrive (plain (call_of arrive) refl)

      in_turn_lem : result r w.world (call_state w z) ≡ in_turn far.link k packet (state_at file u far.host b)
      in_turn_lem =
          tracking.same_result file t first f cable longest u b w st.tracks far.host far_here (there far_here) arrive (plain (call_of arrive) refl)
          ∙ pair_holds.one_piece far.link k packet (state_at file u far.host b)

      leads : cable far.host far.link ≡ at (near_end b.slots n).host (near_end b.slots n).link
      leads =
          let g = filled h b.slots ready.slots_good_lem n ln is-full in
          let back : 1 - (1 - (label_of n b.slots).end) ≡ (label_of n b.slots).end = omega (arith, g.2) in
          wired (label_of n b.slots).cable (1 - (label_of n b.slots).end) g.1 (omega arith)
          ∙ ap (λ (j : ℕ). at (end_at file h (label_of n b.slots).cable j).host (end_at file h (label_of n b.slots).cable j).link) back

      arrives : (T (timed (in_turn far.link k packet (state_at file u far.host b)).reply.answer) → LaterThan file u r b far.host k ms (since n))
          → Went w (taken file u h far n k b).bench since
      arrives on_time =
          let old = st.held n ln is-full in
          subst (λ (v : Outcome). Went w (after_at far.host v b) since) (pair_holds.one_piece far.link k packet (state_at file u far.host b))
          (quiet_call far.host far_here arrive (plain (call_of arrive) refl) (λ v. refl)
          record {
            message = old.message;
            earlier = old.earlier;
            a_copy = old.a_copy;
            other_end = leads ∙ (λ v. at (old.from_node v) (old.from_link v));
            in_time = λ timely.
                let l = on_time (subst (λ (v : Outcome). T (timed v.reply.answer)) in_turn_lem timely) in
                record {
                  reads = tracking.reads file t first f cable longest u b w st.tracks far.host far_here (there far_here) k ms l.reads;
                  way = l.way;
                  short = l.short;
                  later = l.later ∙ ap (λ (v : ℤ). v +ℤ pos l.way) old.sent_at_lem;
                };
          })

    -- ---- any event

    abbrev Moved : (ms : ℤ) → Event → Type 0
    Moved ms e = Went w (carried file u h e b).bench (since_then file u ms since e b)

    pub moves : Wired file t cable → (ms : ℤ) (e : Event) → event_good h e ≡ true → OnTime file u r ms since e b → Moved ms e
    moves wired ms (Tick k n) g on_time = quiet_call k (ltb-true k h.hosts g) (rooms.ticks n) (plain _ refl) (λ v. refl) tt
    moves wired ms (Adjust k n) g on_time = quiet_call k (ltb-true k h.hosts g) (rooms.adjusts n) (plain _ refl) (λ v. refl) tt
    moves wired ms (Set k by n) g on_time = quiet_call k (ltb-true k h.hosts g) (rooms.sets by n) (plain _ refl) (λ v. refl) tt
    moves wired ms (Second k) g on_time = quiet_call k (ltb-true k h.hosts g) rooms.seconds (plain _ refl) (λ v. refl) tt
    moves wired ms (SelfReport k n) g on_time =
        quiet_call k (ltb-true k h.hosts (both (ltb k h.hosts) (mark_good n) g).0) (rooms.reports n) (plain _ refl) (λ v. refl) tt
    moves wired ms (Send c i n k) g on_time =
        let one = both (ltb c h.cables) (leb i 1 && (ltb n slots && mark_good k)) g in
        let two = both (leb i 1) (ltb n slots && mark_good k) one.1 in
        let three = both (ltb n slots) (mark_good k) two.1 in
        sends c i n k ms (ltb-true c h.cables one.0) (leb-true i 1 two.0) (ltb-true n slots three.0) on_time
    moves wired ms (Arrival n k) g on_time = go (empty n b.slots) refl on_time
      where
        go : (d : Bool) → empty n b.slots ≡ d
            → (empty n b.slots ≡ false → T (timed (cond d record { bench = b; answer = IpForm } (taken file u h (far_end file h n b.slots) n k b)).answer) → LaterThan file u r b (far_end file h n b.slots).host k ms (since n))
            → Went w (cond d record { bench = b; answer = IpForm } (taken file u h (far_end file h n b.slots) n k b)).bench since
        go true e late = stayed st
        go false e late = arrives n k ms (ltb-true n slots (both (ltb n slots) (mark_good k) g).0) wired e (late e)
    moves wired ms Unknown g on_time = absurd (false≢true g)
