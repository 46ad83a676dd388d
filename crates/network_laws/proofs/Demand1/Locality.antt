-- A call uses the host table's length and the host's entries, the links up to the count, the copy's length and packet, and the buffer's length. The entries that it writes depend on these.
use Rattle.std.specs.Prelude.{Option, Some, None, Result, Ok, Err}
use mathlib.Core.Path.{◌≡◌, refl, sym, ap, subst, subst₃, ◌∙◌}
use mathlib.Core.Bool.{Bool, true, false, cond, not, ◌&&◌, ◌||◌}
use mathlib.Core.List.{List, [], map}
use Prim.Native.Nat.{ℕ, ◌+◌, ◌-◌}
use native.Mathlib.Omega.{arith}
use lib.Dec.{ltb, leb, eqb}
use lib.ListN.{length, get_or, set, take}
use lib.Seq.{get_or-take, take-set-lt}
use Rattle.answer.specs.declared.Answer.{Answer}
use Rattle.answer.specs.declared.Answer.TheVariants.{Done, NoHost, ShortBuffer, NoWalk}
use Rattle.quantity.specs.declared.Count.{Count}
use Rattle.quantity.specs.Words.{of_word}
use Rattle.clock.specs.declared.Clock.{Clock}
use Rattle.clock.specs.declared.Counter.{Counter}
use Rattle.clock.specs.declared.Reading.{Reading}
use Rattle.clock.specs.Clock.{count_used}
use Rattle.wire.specs.declared.Packet.{Packet}
use Rattle.wire.specs.Packet.{packet_length, message}
use Rattle.net_table.specs.declared.NetTable.{NetTable}
use Rattle.table.specs.declared.Entry.{Entry}
use Rattle.table.specs.declared.entries.Changes.{Changes}
use Rattle.table.specs.Forms.{Stage, on, end}
use Rattle.table.specs.Entry.{advertised}
use Rattle.table.specs.Update.{line_a, line_b, line_c}
use Rattle.table.specs.Sweep.{Swept}
use Rattle.table.specs.Runs.{changes, updates}
use Rattle.host.specs.declared.Settings.{Settings}
use Rattle.host.specs.declared.Link.{Link}
use Rattle.host.specs.declared.Links.{Links}
use Rattle.host.specs.declared.Reply.{Reply}
use Rattle.host.specs.declared.walk.Walk.{Walk}
use Rattle.host.specs.declared.walk.Place.{Place}
use Rattle.host.specs.declared.walk.Place.TheVariants.{Step1, Step2, Step3, Step4, Step5, LineA, LineB, LineC, LineD}
use Rattle.host.specs.declared.guard.Scope.{Scope}
use Rattle.host.specs.declared.guard.Scope.TheVariants.{Places, All, OnLink, Opening, Walking}
use Rattle.host.specs.Settings.{link_count_of, found_for}
use Rattle.host.specs.State.{unset, fresh_link, host_count, broadcast, link_of, with_link, own_entries, with_entries, no_link}
use Rattle.host.specs.declared.Effect.{Effect}
use Rattle.host.specs.declared.Host.{Host}
use Rattle.host.specs.CallState.{CallState, host, call_state, entries_of, our_reading, own_walk_in_range, state_in_range}
use Rattle.host.specs.Walk.{is_open, place_of, packet_of, line_update, packet_fits, walk_in_range}
use Rattle.host.specs.Effect.{nothing, answers}
use Rattle.host.specs.Guard.{no_places, guard, done}
use Rattle.host.proofs.Places.{Holds}
use Rattle.host.proofs.Guarded.{passed, counted, walk_state}
use Rattle.host.proofs.Walks.{opened_says}
use Rattle.host.specs.Reply.{plainly, returns_length}
use Rattle.sending.specs.Message.{table_goes, link_sent, packet_sent}
use Rattle.sending.specs.Send.{report_count, unsent, sends}
use Rattle.arrival.specs.declared.Flight.{Flight}
use Rattle.arrival.specs.declared.Arrived.{Arrived}
use Rattle.arrival.specs.declared.Delivery.{Delivery}
use Rattle.arrival.specs.declared.Delivery.TheVariants.{Inspect, Act, Receive}
use Rattle.host.specs.Inspection.{inspect}
use Rattle.arrival.specs.Steps.{step2, step3, step4, steps2to4}
use Rattle.arrival.specs.Arrival.{no_table, with_table, concluded, inspected, on_link, delivered}
use Rattle.arrival.proofs.Pair.{one_piece}
use Rattle.walk.specs.declared.Opening as declared
use Rattle.walk.specs.Opening.{copied}
use Rattle.walk.specs.Boxes.{holding, raised, at_step, at_line, onward, ended, fourth, to_neighbor, next_id, put, is_clock_host, clock_set, after_a, after_b, after_c, box1, box2, box3, box4, box5, box_a, box_b, box_c, box_d, box_at, box_of, step}
use Rattle.calls.specs.declared.Request.{Request}
use Rattle.calls.specs.declared.Request.TheVariants.{Initialize, Tick, Adjust, Set, Read, Second, SelfReport, Lookup, Step}
use Rattle.calls.specs.Effects.{initialize, tick, adjust, set_by, read, second, self_report, lookup, wanted, effect}
use Rattle.calls.specs.Perform.{Call, ask, send, deliver, open_walk, Outcome, scope_of_call, refused, entry_at, carried_out, sent_by, opened_by, work, perform}
use Rattle.network_laws.specs.HostAfter.{returned}
use Rattle.network_laws.specs.Locality.{SameInput, same, same_send, own_links, walk_packet, Local, Locality}
use Rattle.network_laws.proofs.Performs.{guard_of, there}
use Rattle.network_laws.proofs.Sends.{sent_message, sent_message_lem}
use Rattle.network_laws.proofs.Swept.{changes_length, updates_length}
use Rattle.network_laws.proofs.Written.{written_kept, written_back}
use Rattle.network_laws.proofs.Openings.{opening_ways, packet_short, nothing_copied, copied_back, copied_length}

-- ---- one host, with other slots past its count and in another host table

module _ (x : CallState) (l' : Links) (copy' : List ℕ) (entries' : List Entry) (own : own_links x.host.settings x.host.links ≡ own_links x.host.settings l')
    (rooms : length x.copy ≡ length copy') (packets : walk_packet x.walk x.copy ≡ walk_packet x.walk copy')
    (lengths : length x.entries ≡ length entries') (same_entries : entries_of x ≡ own_entries x.host.settings x.number entries') where
  abbrev s : Settings
  s = x.host.settings

  abbrev y : CallState
  y = call_state x.host.settings x.nets x.number x.host.clock l' x.walk copy' entries'

  -- links that agree up to the count, and wholly where l and l' do
  pub record Linked (m m' : Links) : Type 0 where
    pub own_same : own_links s m ≡ own_links s m'
    pub all_same : x.host.links ≡ l' → m ≡ m'

  untouched : Linked x.host.links l'
  untouched = record { own_same = own; all_same = λ e. e }

  -- walks that are the same, with copies that agree in length and in the packet, and wholly where copy and copy' do
  pub record Copied (v v' : Walk) (c c' : List ℕ) : Type 0 where
    pub walk_same : v ≡ v'
    pub room_same : length c ≡ length c'
    pub packet_same : walk_packet v c ≡ walk_packet v' c'
    pub all_same : x.copy ≡ copy' → c ≡ c'

  uncopied : Copied x.walk x.walk x.copy copy'
  uncopied = record { walk_same = refl; room_same = rooms; packet_same = packets; all_same = λ e. e }

  -- what two outcomes have in common
  pub record Twins (o p : Outcome) : Type 0 where
    pub told_same : returned o ≡ returned p
    pub clock_same : o.clock ≡ p.clock
    pub links_same : Linked o.links p.links
    pub copies_same : Copied o.walk p.walk o.copy p.copy
    pub length_same : length o.entries ≡ length p.entries
    pub entries_same : own_entries s x.number o.entries ≡ own_entries s x.number p.entries

  -- ---- the guard

  walk_range_same : own_walk_in_range x ≡ own_walk_in_range y
  unfolding walk_in_range
  walk_range_same = go (is_open x.walk) packets
    where
      w : Walk
      w = x.walk

      in_range : (length : ℕ) (octets : List ℕ) → Bool
      in_range n octets = not (no_link s w.link) && leb w.length n && packet_fits s w octets (inspect s w.link octets)

      go : (b : Bool) → cond b (packet_of w x.copy) [] ≡ cond b (packet_of w copy') []
          → not b || in_range (length x.copy) (packet_of w x.copy) ≡ not b || in_range (length copy') (packet_of w copy')
      go true e = λ j. in_range (rooms j) (e j)
      go false e = refl

  guard_same : (a : Scope) → guard a x ≡ guard a y
  unfolding guard no_places state_in_range
  guard_same Places = rw lengths
  guard_same All = rw (lengths, own, walk_range_same, same_entries)
  guard_same Walking = rw (lengths, own, walk_range_same, same_entries)
  guard_same (OnLink i) = rw (lengths, own, walk_range_same, same_entries)
  guard_same (Opening i) = rw (rooms, lengths, own, walk_range_same, same_entries)

  -- ---- a link that the host has

  module _ (i : ℕ) (has : no_link s i ≡ false) where
    link_same : link_of l' i ≡ link_of x.host.links i
    link_same =
        let h = (counted s i has).at_place in
        sym (get_or-take (link_count_of s) l'.all (i - 1) (fresh_link unset) h)
        ∙ ap (λ xs. get_or xs (i - 1) (fresh_link unset)) (sym own)
        ∙ get_or-take (link_count_of s) x.host.links.all (i - 1) (fresh_link unset) h

    stored : (z : Link) → Linked (with_link i z x.host.links) (with_link i z l')
    stored z =
        let h = (counted s i has).at_place in
        record {
          own_same =
              take-set-lt (link_count_of s) x.host.links.all (i - 1) z h
              ∙ ap (λ xs. set xs (i - 1) z) own
              ∙ sym (take-set-lt (link_count_of s) l'.all (i - 1) z h);
          all_same = λ e. ap (with_link i z) e;
        }

  -- ---- the entries

  module _ (held : Holds x.number x.entries) where
    -- the same entries, written to both runs
    written : (es es' : List Entry) → es ≡ es' → length es ≡ length (entries_of x)
        → (length (with_entries x.number es x.entries) ≡ length (with_entries x.number es' entries'))
        × (own_entries s x.number (with_entries x.number es x.entries) ≡ own_entries s x.number (with_entries x.number es' entries'))
    written es es' e n =
        let held' : Holds x.number entries' = rw (← lengths) held in
        let n' : length es ≡ length (entries_of y) = n ∙ ap length same_entries in
        rw (← e) (
          (written_kept x es held n).same_length ∙ lengths ∙ sym (written_kept y es held' n').same_length,
          written_back x es held n ∙ sym (written_back y es held' n'),
        )

    -- ---- requests

    pub record SameEffect (e e' : Effect) : Type 0 where
      pub reply_same : e.reply ≡ e'.reply
      pub clock_same : e.clock ≡ e'.clock
      pub links_same : Linked e.links e'.links
      pub walk_same : e.walk ≡ e'.walk
      pub packet_same : walk_packet e.walk x.copy ≡ walk_packet e'.walk copy'
      pub work_same : e.work ≡ e'.work

    found_same : (f : Option ℕ) → entry_at f x ≡ entry_at f y
    found_same None = refl
    found_same (Some id) = rw same_entries

    -- ---- a step

    module _ (k : Counter) (e : Entry) where
      abbrev w : Walk
      w = x.walk

      abbrev c : Clock
      c = x.host.clock

      module _ (has : no_link s w.link ≡ false) (p : Packet) (octets : List ℕ) where
        -- the arrival in flight, with this link
        abbrev flight : Link → Flight
        flight z = record { reading = w.reading; link = z; delay = of_word w.delay; offset = w.offset }

        by_link : (E : Effect) (F : Link → Effect) → SameEffect E (F (link_of x.host.links w.link)) → SameEffect E (F (link_of l' w.link))
        by_link E F t = subst (λ z. SameEffect E (F z)) (sym (link_same w.link has)) t

        moved : (v : Walk) → walk_packet v x.copy ≡ walk_packet v copy' → (z : Link)
            → SameEffect (onward v c (with_link w.link z x.host.links) nothing) (onward v c (with_link w.link z l') nothing)
        moved v held_same z = record { reply_same = refl; clock_same = refl; links_same = stored w.link has z; walk_same = refl; packet_same = held_same; work_same = refl }

        kept : (v : Walk) → walk_packet v x.copy ≡ walk_packet v copy' → (d : Clock) (work : Changes)
            → SameEffect (onward v d x.host.links work) (onward v d l' work)
        kept v held_same d now = record { reply_same = refl; clock_same = refl; links_same = untouched; walk_same = refl; packet_same = held_same; work_same = refl }

        closes : (a : Answer) (d : Clock) (work : Changes) → SameEffect (ended a d x.host.links work) (ended a d l' work)
        closes a d work = record { reply_same = refl; clock_same = refl; links_same = untouched; walk_same = refl; packet_same = refl; work_same = refl }

        next : (d : Clock) (work : Changes) → SameEffect (next_id p (host s d x.host.links) w work) (next_id p (host s d l') w work)
        next d work = go (eqb p.nhosts 0 || not (ltb (w.id + 1) (host_count s)))
          where
            go : (b : Bool) → SameEffect (cond b (ended Done d x.host.links work) (onward (at_line 1 (w.id + 1) w) d x.host.links work))
                (cond b (ended Done d l' work) (onward (at_line 1 (w.id + 1) w) d l' work))
            go true = closes Done d work
            go false = kept (at_line 1 (w.id + 1) w) packets d work

        four : (g : Stage Flight) → SameEffect (fourth x.host w g) (fourth y.host w g)
        four (end f) = record { reply_same = refl; clock_same = refl; links_same = stored w.link has f.link; walk_same = refl; packet_same = refl; work_same = refl }
        four (on f) = moved (at_step 5 (holding f w)) packets f.link

        five : (b : Bool) (f : Option ℕ)
            → SameEffect (cond b (to_neighbor x.host (raised w) f) (onward (at_line 1 0 (raised w)) c x.host.links nothing))
            (cond b (to_neighbor y.host (raised w) f) (onward (at_line 1 0 (raised w)) c l' nothing))
        five true None = closes NoHost c nothing
        five true (Some id) = kept (at_line 1 id (raised w)) packets c nothing
        five false f = kept (at_line 1 0 (raised w)) packets c nothing

        at_a : (g : Stage Entry) → SameEffect (after_a p x.host w g) (after_a p y.host w g)
        at_a (end z) = next c nothing
        at_a (on z) = kept (at_line 2 w.id w) packets c nothing

        at_b : (g : Stage Entry) → SameEffect (after_b p x.host w g) (after_b p y.host w g)
        at_b (end z) = next c (put w z)
        at_b (on z) = kept (at_line 3 w.id w) packets c nothing

        at_c : (g : Stage Entry) → SameEffect (after_c p x.host w g) (after_c p y.host w g)
        at_c (end z) = next c (put w z)
        at_c (on z) = go (is_clock_host x.host w)
          where
            go : (b : Bool) → SameEffect (cond b (onward (at_line 4 w.id w) c x.host.links (put w z)) (next_id p x.host w (put w z)))
                (cond b (onward (at_line 4 w.id w) c l' (put w z)) (next_id p y.host w (put w z)))
            go true = kept (at_line 4 w.id w) packets c (put w z)
            go false = next c (put w z)

        box_same : (q : Option Place) → SameEffect (box_at q k p octets x.nets x.host w e) (box_at q k p octets x.nets y.host w e)
        unfolding box1 box2 box3 box4 box5 box_a box_b box_c box_d
        box_same None = record { reply_same = refl; clock_same = refl; links_same = untouched; walk_same = refl; packet_same = packets; work_same = refl }
        box_same (Some Step1) = kept _ packets (our_reading k x.host).clock nothing
        box_same (Some Step2) = by_link _ (λ z. onward (at_step 3 w) c (with_link w.link (step2 (flight z)).link l') nothing) (moved (at_step 3 w) packets _)
        box_same (Some Step3) =
            by_link _
            (λ z. onward (at_step 4 (holding (step3 (broadcast s w.link) p (flight z)) w)) c (with_link w.link (step3 (broadcast s w.link) p (flight z)).link l') nothing)
            (moved _ packets _)
        box_same (Some Step4) = by_link _ (λ z. fourth y.host w (step4 (broadcast s w.link) c.hold p (flight z))) (four (step4 (broadcast s w.link) c.hold p (flight (link_of x.host.links w.link))))
        box_same (Some Step5) =
            by_link _ (λ z. cond (eqb p.nhosts 0) (to_neighbor y.host (raised w) (found_for x.nets s z.neighbor)) (onward (at_line 1 0 (raised w)) c l' nothing))
            (five (eqb p.nhosts 0) (found_for x.nets s (link_of x.host.links w.link).neighbor))
        box_same (Some LineA) = at_a (line_a (line_update w p octets) e)
        box_same (Some LineB) = at_b (line_b (line_update w p octets) e)
        box_same (Some LineC) = at_c (line_c (line_update w p octets) e)
        box_same (Some LineD) = next (clock_set p octets x.host w) nothing

      boxed : no_link s w.link ≡ false → (octets : List ℕ) (q : Result Packet Answer) → SameEffect (box_of k octets x.nets x.host w e q) (box_of k octets x.nets y.host w e q)
      boxed has octets (Err a) = record { reply_same = refl; clock_same = refl; links_same = untouched; walk_same = refl; packet_same = packets; work_same = refl }
      boxed has octets (Ok p) = box_same has p octets (place_of w)

      step_same : own_walk_in_range x ≡ true → SameEffect (step k x.nets x.host w x.copy e) (step k x.nets y.host w copy' e)
      unfolding step
      step_same in_range = go (is_open w) refl packets
        where
          boxes : Host → (octets : List ℕ) → Effect
          boxes h octets = box_of k octets x.nets h w e (inspect s w.link octets)

          go : (b : Bool) → is_open w ≡ b → cond b (packet_of w x.copy) [] ≡ cond b (packet_of w copy') []
              → SameEffect (cond (not b) (answers (plainly NoWalk) c x.host.links w) (boxes x.host (packet_of w x.copy)))
              (cond (not b) (answers (plainly NoWalk) c l' w) (boxes y.host (packet_of w copy')))
          go false f octets-same = record { reply_same = refl; clock_same = refl; links_same = untouched; walk_same = refl; packet_same = packets; work_same = refl }
          go true f octets-same =
              subst (λ octets. SameEffect (boxes x.host (packet_of w x.copy)) (boxes y.host octets)) octets-same
              (boxed (opened_says s w x.copy in_range f).link (packet_of w x.copy) (inspect s w.link (packet_of w x.copy)))

    -- an effect that keeps the walk
    plain : (e e' : Effect) → e.reply ≡ e'.reply → e.clock ≡ e'.clock → Linked e.links e'.links → e.walk ≡ x.walk → e'.walk ≡ x.walk → e.work ≡ e'.work
        → SameEffect e e'
    plain e e' r c l v v' n =
        record { reply_same = r; clock_same = c; links_same = l; walk_same = v ∙ sym v'; packet_same = ap (λ z. walk_packet z x.copy) v ∙ packets ∙ ap (λ z. walk_packet z copy') (sym v'); work_same = n }

    abbrev Same : Request → Entry → Type 0
    Same q e = SameEffect (effect q x.nets x.host x.walk x.copy e) (effect q x.nets y.host x.walk copy' e)

    effect_same : (q : Request) (e : Entry) → done (guard_of (ask q) x) ≡ true → Same q e
    unfolding initialize tick adjust set_by read second self_report lookup
    effect_same Initialize e ok =
        record { reply_same = refl; clock_same = refl; links_same = record { own_same = refl; all_same = λ _. refl }; walk_same = refl; packet_same = refl; work_same = refl }
    effect_same (Tick n) e ok = plain _ _ refl refl untouched refl refl refl
    effect_same (Adjust n) e ok = plain _ _ refl refl untouched refl refl refl
    effect_same (Set ms n) e ok = plain _ _ refl refl untouched refl refl refl
    effect_same (Read k) e ok = plain _ _ refl refl untouched refl refl refl
    effect_same Second e ok = plain _ _ refl refl untouched refl refl refl
    effect_same (SelfReport k) e ok = plain _ _ refl refl untouched refl refl refl
    effect_same (Lookup a) e ok = plain _ _ refl refl untouched refl refl refl
    effect_same (Step k) e ok = step_same k e (walk_state x ((passed Walking x ok).call_state refl))

    carried : (e e' : Effect) → SameEffect e e' → Twins (carried_out e x) (carried_out e' y)
    carried e e' t =
        let w = written (changes e.work (entries_of x)) (changes e'.work (entries_of y)) (λ i. changes (t.work_same i) (same_entries i)) (changes_length e.work (entries_of x)) in
        record {
          told_same = ap (λ (r : Reply). record { reply = r; message = take r.length [] }) t.reply_same;
          clock_same = t.clock_same;
          links_same = t.links_same;
          copies_same = record { walk_same = t.walk_same; room_same = rooms; packet_same = t.packet_same; all_same = λ h. h };
          length_same = w.0;
          entries_same = w.1;
        }

    asked : (q : Request) → done (guard_of (ask q) x) ≡ true → Twins (work (ask q) x) (work (ask q) y)
    asked q ok =
        rw (← found_same (wanted q x.nets s x.walk)) (carried _ _ (effect_same q (entry_at (wanted q x.nets s x.walk) x) ok))

    -- ---- a send, into buffers of one length

    module _ (i : ℕ) (k : Counter) (has : no_link s i ≡ false) (b d : List ℕ) (n : length b ≡ length d) where
      held' : Holds x.number entries'
      held' = rw (← lengths) held

      same_link : link_of x.host.links i ≡ link_of l' i
      same_link = sym (link_same i has)

      message_same : sent_message x held i k ≡ sent_message y held' i k
      message_same =
          λ j. message (same_link j).neighbor
          (packet_sent s (same_link j) (our_reading k x.host).time (our_reading k x.host).clock.date (report_count s (same_link j)))
          (cond (table_goes s (same_link j)) (map (advertised i) (same_entries j)) [])

      gone : Twins (sent_by (sends i k x.host) b x) (sent_by (sends i k y.host) d y)
      gone =
          let text = sent_message_lem x held i k b ∙ message_same ∙ sym (sent_message_lem y held' i k d) in
          record {
            told_same = λ j. record { reply = returns_length (packet_length (report_count s (same_link j))); message = text j };
            clock_same = refl;
            links_same =
                subst (λ z. Linked (with_link i (link_sent (link_of x.host.links i)) x.host.links) (with_link i (link_sent z) l')) same_link
                (stored i has (link_sent (link_of x.host.links i)));
            copies_same = uncopied;
            length_same = lengths;
            entries_same = same_entries;
          }

      sent : Twins (work (send i k b) x) (work (send i k d) y)
      sent =
          subst (λ t. Twins (work (send i k b) x) (sent_by (cond t (unsent ShortBuffer y.host) (sends i k y.host)) d y))
          (λ j. ltb (n j) (packet_length (report_count s (same_link j)))) (go (ltb (length b) (packet_length (report_count s (link_of x.host.links i)))))
        where
          go : (t : Bool)
              → Twins (sent_by (cond t (unsent ShortBuffer x.host) (sends i k x.host)) b x) (sent_by (cond t (unsent ShortBuffer y.host) (sends i k y.host)) d y)
          go true = record { told_same = refl; clock_same = refl; links_same = untouched; copies_same = uncopied; length_same = lengths; entries_same = same_entries }
          go false = gone

    -- ---- a packet that arrives

    pub record SameArrived (e e' : Arrived) : Type 0 where
      pub reply_same : e.reply ≡ e'.reply
      pub links_same : Linked e.links e'.links
      pub work_same : e.work ≡ e'.work

    module _ (i : ℕ) (k : Counter) (has : no_link s i ≡ false) where
      abbrev r : Reading
      r = our_reading k x.host

      abbrev n : Count
      n = count_used k

      -- the host with the link after a flight
      abbrev hx : Flight → Host
      hx f = host x.host.settings r.clock (with_link i f.link x.host.links)

      abbrev hy : Flight → Host
      hy f = host x.host.settings r.clock (with_link i f.link l')

      fifth : (p : Packet) (f : Flight)
          → SameArrived (concluded x.nets (host x.host.settings r.clock x.host.links) i n p (on f))
          (concluded x.nets (host x.host.settings r.clock l') i n p (on f))
      fifth p f = go (eqb p.nhosts 0) (found_for x.nets s f.link.neighbor)
        where
          go : (b : Bool) (g : Option ℕ) → SameArrived (cond b (no_table (hx f) i n p f g) (with_table (hx f) i n p f)) (cond b (no_table (hy f) i n p f g) (with_table (hy f) i n p f))
          go true None = record { reply_same = refl; links_same = stored i has f.link; work_same = refl }
          go true (Some id) = record { reply_same = refl; links_same = stored i has f.link; work_same = refl }
          go false g = record { reply_same = refl; links_same = stored i has f.link; work_same = refl }

      concludes : (p : Packet) (g : Stage Flight)
          → SameArrived (concluded x.nets (host x.host.settings r.clock x.host.links) i n p g)
          (concluded x.nets (host x.host.settings r.clock l') i n p g)
      concludes p (end f) = record { reply_same = refl; links_same = stored i has f.link; work_same = refl }
      concludes p (on f) = fifth p f

      arrived_same : (q : Result Packet Answer) → SameArrived (inspected k x.nets x.host i q) (inspected k x.nets y.host i q)
      arrived_same (Err a) = record { reply_same = refl; links_same = untouched; work_same = refl }
      arrived_same (Ok p) =
          subst
          (λ z.
          SameArrived (inspected k x.nets x.host i (Ok p))
          (concluded x.nets (host x.host.settings r.clock l') i n p (steps2to4 (broadcast s i) r.clock.hold p r.time z)))
          (sym (link_same i has))
          (concludes p (steps2to4 (broadcast s i) r.clock.hold p r.time (link_of x.host.links i)))

    -- what each delivery results in
    delivered_same : (d : Delivery) → no_link s (on_link d) ≡ false → (octets : List ℕ) → SameArrived (delivered d octets x.nets x.host) (delivered d octets x.nets y.host)
    delivered_same (Inspect i) has octets = record { reply_same = refl; links_same = untouched; work_same = refl }
    delivered_same (Act i k) has octets = arrived_same i k has (inspect s i octets)
    delivered_same (Receive i k) has octets = rw (one_piece i k octets x.nets x.host, one_piece i k octets x.nets y.host) (arrived_same i k has (inspect s i octets))

    module _ (d : Delivery) (has : no_link s (on_link d) ≡ false) where
      arrived : (octets : List ℕ) → Twins (work (deliver d octets) x) (work (deliver d octets) y)
      arrived octets =
          let t = delivered_same d has octets in
          let same : updates (delivered d octets x.nets x.host).work octets (entries_of x) ≡ updates (delivered d octets x.nets y.host).work octets (entries_of y) =
          λ j. updates (t.work_same j) octets (same_entries j) in
          let w = written _ _ (ap (λ (v : Swept). v.own_entries) same) (updates_length (delivered d octets x.nets x.host).work octets (entries_of x)) in
          record {
            told_same = ap (λ (r : Reply). record { reply = r; message = take r.length [] }) t.reply_same;
            clock_same = ap (λ (v : Swept). v.clock) same;
            links_same = t.links_same;
            copies_same = uncopied;
            length_same = w.0;
            entries_same = w.1;
          }

  -- ---- a walk that is opened

  opens : (i : ℕ) (packet : List ℕ) → done (guard_of (open_walk i packet) x) ≡ true → Twins (work (open_walk i packet) x) (work (open_walk i packet) y)
  opens i packet ok =
      let g = passed (Opening i) x ok in
      opening_ways i packet s x.walk (λ (o : declared.Opening). Twins (opened_by o packet x) (opened_by o packet y))
      (λ a few. record {
        told_same = refl;
        clock_same = refl;
        links_same = untouched;
        copies_same = record {
          walk_same = refl;
          room_same = ap length (nothing_copied packet x.copy) ∙ rooms ∙ ap length (sym (nothing_copied packet copy'));
          packet_same = ap (walk_packet x.walk) (nothing_copied packet x.copy) ∙ packets ∙ ap (walk_packet x.walk) (sym (nothing_copied packet copy'));
          all_same = ap (copied 0 packet);
        };
        length_same = lengths;
        entries_same = same_entries;
      })
      (λ p is fits.
      let short = packet_short s p packet g.settings fits in
      let room = (g.opening i refl).1 in
      record {
        told_same = refl;
        clock_same = refl;
        links_same = untouched;
        copies_same = record {
          walk_same = refl;
          room_same = copied_length packet x.copy (omega arith) ∙ rooms ∙ sym (copied_length packet copy' (omega (arith, rooms)));
          packet_same = copied_back packet x.copy ∙ sym (copied_back packet copy');
          all_same = ap (copied (length packet) packet);
        };
        length_same = lengths;
        entries_same = same_entries;
      })

  -- ---- every call

  -- refusals by one guard are alike, and so is what comes after it
  guarded : (c d : Call) → scope_of_call c ≡ scope_of_call d → ((a : Answer) → Twins (refused a c x) (refused a d y))
      → (done (guard_of c x) ≡ true → Twins (work c x) (work d y)) → Twins (perform c x) (perform d y)
  unfolding perform
  guarded c d scopes refuses works =
      subst (λ g. Twins (perform c x) (cond (not (done g)) (refused g d y) (work d y)))
      (guard_same (scope_of_call c) ∙ ap (λ a. guard a y) scopes)
      (go (done (guard_of c x)) refl)
    where
      go : (b : Bool) → done (guard_of c x) ≡ b
          → Twins (cond (not b) (refused (guard_of c x) c x) (work c x)) (cond (not b) (refused (guard_of c x) d y) (work d y))
      go true e = works e
      go false e = refuses (guard_of c x)

  performed : {c d : Call} → SameInput c d → Twins (perform c x) (perform d y)
  performed (same {c}) = guarded c c refl (λ a. record { told_same = refl; clock_same = refl; links_same = untouched; copies_same = uncopied; length_same = lengths; entries_same = same_entries }) (works c)
    where
      works : (c : Call) → done (guard_of c x) ≡ true → Twins (work c x) (work c y)
      works (ask q) e = asked (there (ask q) x e) q e
      works (open_walk i packet) e = opens i packet e
      works (send i k b) e = sent (there (send i k b) x e) i k ((passed (scope_of_call (send i k b)) x e).link i refl) b b refl
      works (deliver d octets) e = arrived (there (deliver d octets) x e) d ((passed (scope_of_call (deliver d octets)) x e).link (on_link d) refl) octets
  performed (same_send {i} {k} {b} {d} n) =
      guarded (send i k b) (send i k d) refl (λ a. record { told_same = refl; clock_same = refl; links_same = untouched; copies_same = uncopied; length_same = lengths; entries_same = same_entries })
      (λ e. sent (there (send i k b) x e) i k ((passed (scope_of_call (send i k b)) x e).link i refl) b d n)

  local : {c d : Call} → SameInput c d → Local c d x y
  local inputs =
      let t = performed inputs in
      record {
        told_same = t.told_same;
        after_alike =
            record {
              settings_same = refl;
              net_table_same = refl;
              number_same = refl;
              clock_same = t.clock_same;
              links_same = t.links_same.own_same;
              walk_same = t.copies_same.walk_same;
              room_same = t.copies_same.room_same;
              packet_same = t.copies_same.packet_same;
              length_same = t.length_same;
              entries_same = t.entries_same;
            };
        all_links = t.links_same.all_same;
        all_copy = t.copies_same.all_same;
      }

pub locality_holds : Locality
unfolding Locality
locality_holds c d x y inputs alike =
    subst₃
    (λ (s : Settings) (k : ℕ) (t : Clock).
    own_links x.host.settings x.host.links ≡ own_links s y.host.links → entries_of x ≡ own_entries s k y.entries
    → Local c d x (call_state s y.nets k t y.host.links y.walk y.copy y.entries))
    alike.settings_same alike.number_same alike.clock_same
    (λ own same_entries.
    subst
    (λ (v : Walk). walk_packet x.walk x.copy ≡ walk_packet v y.copy
    → Local c d x (call_state x.host.settings y.nets x.number x.host.clock y.host.links v y.copy y.entries))
    alike.walk_same
    (λ packets.
    subst (λ (n : NetTable). Local c d x (call_state x.host.settings n x.number x.host.clock y.host.links x.walk y.copy y.entries))
    alike.net_table_same
    (local x y.host.links y.copy y.entries own alike.room_same packets alike.length_same same_entries inputs))
    alike.packet_same)
    alike.links_same alike.entries_same
