-- An arrival keeps the invariant: a link without a neighbour believes nothing, and any other stores the sender's report plus exactly 100 ms.
use Rattle.std.specs.Prelude.{Option, Some, None, Result, Ok, Err}
use mathlib.Core.Path.{◌≡◌, refl, sym, ap, subst, ◌∙◌}
use mathlib.Core.Bool.{Bool, true, false, true≢false, false≢true, cond, not, ◌||◌}
use mathlib.Core.List.{List}
use mathlib.Core.Logic.{◌⊎◌, inl, inr}
use Prim.Native.Nat.{ℕ, zero, suc, ◌+◌, ◌-◌, ◌≤◌}
use native.Mathlib.Omega.{arith}
use borrow.Author.Tests.{eqb-true}
use lib.Dec.{T, eqb}
use lib.IntN.{pos, ◌+ℤ◌}
use lib.ListN.{length}
use Rattle.lists.proofs.Tests.{either, is_so, is_not, neither}
use Rattle.quantity.specs.declared.Millis.{Millis}
use Rattle.quantity.specs.declared.Count.{Count}
use Rattle.quantity.specs.Quantity.{millis, less_millis}
use Rattle.quantity.specs.Words.{zero_word}
use Rattle.quantity.proofs.Ints.{not_lt}
use Rattle.answer.specs.declared.Answer.{Answer}
use Rattle.answer.specs.declared.Answer.TheVariants.{DelayNotValid, NoHost}
use Rattle.clock.specs.declared.Clock.{Clock}
use Rattle.clock.specs.declared.Counter.{Counter}
use Rattle.clock.specs.Clock.{count_used}
use Rattle.wire.specs.declared.Packet.{Packet}
use Rattle.wire.specs.Octets.{same_address}
use Rattle.wire.specs.Hello.{report_at, hello_form, hello_checksum}
use Rattle.wire.specs.Packet.{hello_of, fields, parse}
use Rattle.table.specs.declared.Entry.{Entry}
use Rattle.table.specs.declared.Update.{Update}
use Rattle.table.specs.Entry.{max_delay}
use Rattle.table.specs.Entry as entry
use Rattle.table.specs.Forms.{Stage}
use Rattle.table.specs.Update.{lines, left}
use Rattle.table.specs.Runs.{update_at, updates}
use Rattle.net_table.specs.declared.NetTable.{NetTable}
use Rattle.host.specs.declared.Link.{Link}
use Rattle.host.specs.declared.Links.{Links}
use Rattle.host.specs.declared.walk.Walk.{Walk}
use Rattle.host.specs.declared.guard.Scope.TheVariants.{OnLink}
use Rattle.host.specs.Guard.{done}
use Rattle.host.specs.declared.Host.{Host}
use Rattle.host.specs.CallState.{CallState, host, entries_of}
use Rattle.host.specs.Settings.{found_for, link_count_of}
use Rattle.host.specs.State.{own_entries, broadcast, link_of, with_link, no_link}
use Rattle.host.proofs.Guarded.{passed, holds, counted}
use Rattle.host.proofs.Places.{Holds, entries_length}
use Rattle.arrival.specs.declared.Flight.{Flight}
use Rattle.arrival.specs.declared.Arrived.{Arrived}
use Rattle.arrival.specs.Steps.{measured as flight, new_neighbor, step2, step3, step4, steps2to4, delay_of, at_least_min, report_update}
use Rattle.arrival.specs.Arrival.{ends, no_table, with_table, step5, concluded, action, inspected}
use Rattle.calls.specs.Perform.{act, Outcome, updated_by, perform}
use Rattle.network_laws.specs.Network.{Network, at, state_at, Proper}
use Rattle.network_laws.specs.Demand3.{Message, reading_at, timed}
use Rattle.network_laws.proofs.Arrivals.{same_address_lem}
use Rattle.network_laws.proofs.Lists.{All, all_weaken}
use Rattle.network_laws.proofs.Performs.{performs}
use Rattle.network_laws.proofs.Swept.{updates_length, updates_keep}
use Rattle.network_laws.proofs.Written.{written_back, written_kept}
use Rattle.network_laws.proofs.Demand3.Invariant.{RightMessage}
use Rattle.network_laws.proofs.Demand3.Arrival.{Came, action_timed}
use Rattle.wire.specs.Ip.{ip_form, ip_checksum, protocol}
use Rattle.host.specs.Inspection.{other_layout, looped, inspect}
use Rattle.host.specs.Inspection as inspection
use Rattle.host.specs.declared.Settings.{Settings}
use Rattle.host.specs.Walk.{is_open}
use Rattle.liveness_laws.specs.Numbers.{rise, quick_way}
use Rattle.liveness_laws.proofs.Lines.{far_off, lines_from}
use Rattle.liveness_laws.proofs.Links.{LinksOk, learns, relinked, same_room}
use Rattle.liveness_laws.proofs.Measured.{address_same, returned, Worded}
use Rattle.liveness_laws.proofs.Measured as measured
use Rattle.liveness_laws.proofs.Rounds.Heard.{Mine, mine_deaf}
use Rattle.liveness_laws.proofs.Rounds.Entry.{hearing}
use Rattle.liveness_laws.proofs.Rounds.Tables.{updates_turn, updated_entry}
use Rattle.liveness_laws.proofs.Host.State.{Believes, Good, Before, After, unchanged}

-- ---- of one octet string

parse_answers : (P : Result Packet Answer → Type 0) (octets : List ℕ) → ((x : Answer) → done x ≡ false → P (Err x)) → P (Ok (fields octets)) → P (parse octets)
unfolding parse
parse_answers P octets bad good =
    either P (not (ip_form octets)) _ _ (λ _. bad _ refl)
    (λ _.
    either P (not (ip_checksum octets)) _ _ (λ _. bad _ refl)
    (λ _.
    either P (not (protocol octets)) _ _ (λ _. bad _ refl)
    (λ _.
    either P (not (hello_form (hello_of octets))) _ _ (λ _. bad _ refl)
    (λ _. either P (not (hello_checksum (hello_of octets))) _ _ (λ _. bad _ refl) (λ _. good)))))

pub inspect_answers : (P : Result Packet Answer → Type 0) (s : Settings) (i : ℕ) (octets : List ℕ) → ((x : Answer) → done x ≡ false → P (Err x)) → P (Ok (fields octets)) → P (inspect s i octets)
unfolding inspect
inspect_answers P s i octets bad good =
    parse_answers (λ (x : Result Packet Answer). P (inspection.inspected s i x)) octets bad
    (either P (other_layout s (fields octets)) _ _ (λ _. bad _ refl) (λ ours. either P (looped s i (fields octets)) _ _ (λ _. bad _ refl) (λ _. good)))

-- a source that the link does not know, from the cable's other end: in the first round, and no entry came by this link
pub stranger : (r : Network) (proper : Proper r) (k b : ℕ) (heard : ℕ → Bool) (e : Entry) (l : Links) (walk : Walk) → LinksOk r k false (learns walk) heard b e l
    → (j : ℕ) (letter : Message) → r.cable b j ≡ at letter.node letter.link → RightMessage r letter → same_address (fields letter.octets).source (link_of l j).neighbor ≡ false
    → (k ≡ 0) × (entry.up e ≡ true → e.pid ≡ j → ⊥)
stranger r proper k b heard e l walk links j letter cable right t = (newly k refl, λ v at_j. strange ((links j letter.node letter.link cable).met v at_j))
  where
    strange : (link_of l j).neighbor ≡ (r.settings letter.node).address → ⊥
    strange known =
        true≢false (sym (address_same (fields letter.octets).source (link_of l j).neighbor (measured.source_is r proper b j letter cable right ∙ sym known)) ∙ t)

    newly : (q : ℕ) → k ≡ q → q ≡ 0
    newly zero z = refl
    newly (suc q) z = absurd (strange ((links j letter.node letter.link cable).known (inl (omega (arith, z)))))

module _ (r : Network) (proper : Proper r) (quick : r.longest ≤ quick_way) (c i k m b : ℕ) (Sent : Entry → (link : ℕ) → (octets : List ℕ) → Type 0) (Rest : Entry → Type 0) (s : ℕ) (heard : ℕ → Bool)
    (nets : NetTable) (cl : Clock) (l : Links) (walk : Walk) (copy : List ℕ) (entries : List Entry) (e : Entry) (was : Before r c i k m b false Sent Rest s heard walk copy l entries e)
    (j : ℕ) (letter : Message) (cable : r.cable b j ≡ at letter.node letter.link) (right : RightMessage r letter)
    (sent : Sent e j letter.octets) (believes : Believes r c i k m b s heard Sent Rest e) where
  abbrev x : CallState
  x = state_at r b nets cl l walk copy entries

  abbrev a : ℕ
  a = letter.node

  abbrev p : Packet
  p = fields letter.octets

  has : no_link (r.settings b) j ≡ false
  has = (proper.cables b j a letter.link cable).link_in

  from_1 : 1 ≤ j
  from_1 = (counted (r.settings b) j has).from_one

  source_is : p.source ≡ (r.settings a).address
  source_is = measured.source_is r proper b j letter cable right

  far_end_lem : (d n : ℕ) → r.cable b j ≡ at d n → d ≡ a
  far_end_lem d n z = cc

  abbrev on_now : ℕ → Bool
  on_now = hearing r c b j heard

  less_on : (q : ℕ) → (q ≡ j → ⊥) → on_now q ≡ true → heard q ≡ true
  less_on q other = either (λ (t : Bool). t ≡ true → heard q ≡ true) (eqb q j) _ _ (λ z _. absurd (other (eqb-true q j z))) (λ _ w. w)

  abbrev Good-now : (heard : ℕ → Bool) → Links → Entry → Type 0
  Good-now on = Good r c i k m b false Sent Rest s on walk copy

  -- ---- the entry, with no walk open, at a link that knows its neighbour now

  module _ (shut : is_open walk ≡ false) (z : Link) (known : z.neighbor ≡ (r.settings a).address) where
    linked : (on : ℕ → Bool) → ((q : ℕ) → (q ≡ j → ⊥) → on q ≡ true → heard q ≡ true) → (f : Entry) → (entry.up f ≡ true → (f.pid ≡ j) ⊎ ((entry.up e ≡ true) × (f.pid ≡ e.pid)))
        → LinksOk r k false (learns walk) on b f (with_link j z l)
    linked on less f from =
        relinked r proper k b false l was.room j has (learns walk) on f z
        (λ d n cord.
        let so = known ∙ ap (λ (t : ℕ). (r.settings t).address) (sym (far_end_lem d n cord)) in
        record { quiet = λ no. absurd (false≢true no); spoke = λ _ _. so; known = λ _. so; met = λ _ _. so })
        (λ q d n other cord.
        let g = was.good.links q d n cord in
        record {
          quiet = g.quiet;
          spoke = g.spoke;
          known = λ w. g.known (elim w [ inl y ↦ inl y | inr y ↦ inr (less q other y) ]);
          met = λ t at-q. elim (from t) [ inl y ↦ absurd (other (sym at-q ∙ y)) | inr y ↦ g.met y.0 (sym y.1 ∙ at-q) ];
        })

    good_now : (on : ℕ → Bool) → ((q : ℕ) → (q ≡ j → ⊥) → on q ≡ true → heard q ≡ true) → (f : Entry) → (entry.up f ≡ true → (f.pid ≡ j) ⊎ ((entry.up e ≡ true) × (f.pid ≡ e.pid)))
        → Mine r c b k m s on f → Rest f → Good-now on (with_link j z l) f
    good_now on less f from mine rest =
        record { mine = mine; rest = rest; links = linked on less f from; waits = λ no. absurd (false≢true no); walk = λ opened. absurd (true≢false (sym opened ∙ shut)) }

    -- unchanged, and the link not heard
    stayed : Good-now heard (with_link j z l) e
    stayed = good_now heard (λ q _ w. w) e (λ t. inr (t, refl)) was.good.mine was.good.rest

    -- unchanged, in the first round, by a link that no entry came by
    deaf : k ≡ 0 → (entry.up e ≡ true → e.pid ≡ j → ⊥) → Good-now on_now (with_link j z l) e
    deaf first other = good_now on_now less_on e (λ t. inr (t, refl)) (mine_deaf r c b k m s heard e was.good.mine first j from_1 other) was.good.rest

    -- believed
    believed_entry : Worded letter.octets → (u : Update) → u.pid ≡ j → u.delay.0 ≡ pos (rise + returned i letter.octets) → Good-now on_now (with_link j z l) (left (lines u e))
    believed_entry worded u pid is =
        let f = (believes j a letter.link letter.octets cable sent worded).1 u pid is in
        good_now on_now less_on (left (lines u e)) (λ t. elim (lines_from u e t) [ inl y ↦ inl (y ∙ pid) | inr y ↦ inr y ]) f.0 f.1

  -- ---- what it results in

  abbrev Kept : (heard : ℕ → Bool) → Arrived → Type 0
  Kept on d = After r c i k m b false Sent Rest s on entries walk copy d.links (updated_by d letter.octets x).entries

  abbrev Was : ℕ → Entry → Type 0
  Was id y = id ≡ i → y ≡ e

  module _ (held : Holds (r.number b) entries) where
    -- nothing of the table
    quiet_kept : (on : ℕ → Bool) (z : Answer) (g : Host) → link_count_of (r.settings b) ≤ length g.links.all → Good-now on g.links e → Kept on (ends z g)
    quiet_kept on z g room good =
        record {
          room = room;
          table =
              λ _.
              all_weaken Was (λ (id : ℕ) (y : Entry). id ≡ i → Good-now on g.links y) (λ id y h same. subst (Good-now on g.links) (sym (h same)) good) (own_entries (r.settings b) (r.number b) (updated_by (ends z g) letter.octets x).entries)
              (subst (All Was) (sym (written_back x (updates (ends z g).work letter.octets (entries_of x)).own_entries held (updates_length (ends z g).work letter.octets (entries_of x))))
              (updates_keep (ends z g).work letter.octets (entries_of x) Was (λ id d y low high in_table f. absurd (omega arith)) (was.table held)));
          same_length = (written_kept x (updates (ends z g).work letter.octets (entries_of x)).own_entries held (updates_length (ends z g).work letter.octets (entries_of x))).same_length;
        }

    -- 4, a new neighbour
    module _ (other : entry.up e ≡ true → e.pid ≡ j → ⊥) (g : Host) (good : Good-now on_now g.links e) (room : link_count_of (r.settings b) ≤ length g.links.all) where
      far_kept : (w : Arrived) → w.links ≡ g.links → ((id : ℕ) → (update_at w.work (id - w.work.base) letter.octets).pid ≡ j)
          → ((id : ℕ) → less_millis (update_at w.work (id - w.work.base) letter.octets).delay max_delay ≡ false) → Kept on_now w
      far_kept w same pid far =
          record {
            room = rw same room;
            table =
                λ _.
                rw same
                (all_weaken Was (λ (id : ℕ) (y : Entry). id ≡ i → Good-now on_now g.links y) (λ id y h is. subst (Good-now on_now g.links) (sym (h is)) good) (own_entries (r.settings b) (r.number b) (updated_by w letter.octets x).entries)
                (subst (All Was) (sym (written_back x (updates w.work letter.octets (entries_of x)).own_entries held (updates_length w.work letter.octets (entries_of x))))
                (updates_keep w.work letter.octets (entries_of x) Was
                (λ id d y low high in_table f is.
                updated_entry w.work letter.octets id d y
                ∙ far_off y j (λ t. subst (λ (v : Entry). entry.up v ≡ true → v.pid ≡ j → ⊥) (sym (f is)) other t) (update_at w.work (id - w.work.base) letter.octets) (pid id) (far id)
                ∙ f is)
                (was.table held))));
            same_length = (written_kept x (updates w.work letter.octets (entries_of x)).own_entries held (updates_length w.work letter.octets (entries_of x))).same_length;
          }

    module _ (shut : is_open walk ≡ false) where
      -- 5, believed
      believed : (z : Link) → z.neighbor ≡ (r.settings a).address → (cl' : Clock) (f : Flight) → at_least_min f.delay ≡ millis (pos rise) → (n : Count) → Worded letter.octets
          → Kept on_now (with_table (host (r.settings b) cl' (with_link j z l)) j n p f)
      unfolding report_at
      believed z known cl' f exact n worded =
          record {
            room = same_room r proper k b false l was.room j has z;
            table =
                λ _.
                subst (All Now) (sym (written_back x (updates w.work letter.octets (entries_of x)).own_entries held (updates_length w.work letter.octets (entries_of x))))
                (updates_turn Was Now w.work letter.octets (entries_of x) refl
                (omega (arith, entries_length (r.settings b) (r.number b) entries held))
                (λ id d y in_table old is.
                let same : id - 0 ≡ i = omega arith in
                subst (Good-now on_now (with_link j z l)) (sym (updated_entry w.work letter.octets id d y))
                (rw same
                (rw (old is)
                (believed_entry shut z known worded (report_update j f (report_at (hello_of letter.octets) i)) refl (ap (λ (t : Millis). t.0 +ℤ (report_at (hello_of letter.octets) i).delay.0) exact)))))
                (was.table held));
            same_length = (written_kept x (updates w.work letter.octets (entries_of x)).own_entries held (updates_length w.work letter.octets (entries_of x))).same_length;
          }
        where
          w : Arrived
          w = with_table (host (r.settings b) cl' (with_link j z l)) j n p f

          Now : ℕ → Entry → Type 0
          Now id y = id ≡ i → Good-now on_now (with_link j z l) y

      -- ---- steps 2 to 5

      abbrev By : Arrived → Type 0
      By d = After r c i k m b false Sent Rest s (cond (done d.reply.answer) on_now heard) entries walk copy d.links (updated_by d letter.octets x).entries

      module _ (κ : Counter) (came : Came r b cl κ letter) where
        abbrev now : Millis
        now = (reading_at r b cl κ).time

        abbrev carried_on : Clock
        carried_on = (reading_at r b cl κ).clock

        exact_delay : zero_word p.tsp ≡ false → at_least_min (delay_of now p.tsp) ≡ millis (pos rise)
        exact_delay z = measured.exact_delay r proper b j letter cable right quick now came.way came.short came.clock z

        -- the link after steps 2 to 4
        module _ (z : Link) (known : z.neighbor ≡ (r.settings a).address) where
          abbrev g : Host
          g = host (r.settings b) carried_on (with_link j z l)

          room : link_count_of (r.settings b) ≤ length (with_link j z l).all
          room = same_room r proper k b false l was.room j has z

          module _ (first : k ≡ 0) (other : entry.up e ≡ true → e.pid ≡ j → ⊥) (f : Flight) (far : f.delay ≡ max_delay) where
            no_table_lem : (found : Option ℕ) → By (no_table g j (count_used κ) p f found)
            no_table_lem None = quiet_kept heard NoHost g room (stayed shut z known)
            no_table_lem (Some id) = far_kept other g (deaf shut z known first other) room (no_table g j (count_used κ) p f (Some id)) refl (λ _. refl) (λ _. rw far refl)

            a_table : By (with_table g j (count_used κ) p f)
            unfolding report_at
            a_table =
                far_kept other g (deaf shut z known first other) room (with_table g j (count_used κ) p f) refl (λ _. refl)
                (λ id. rw far (not_lt (pos 30000 +ℤ (report_at (hello_of letter.octets) (id - 0)).delay.0) (pos 30000) (omega arith)))

            new_neighbor_lem : By (step5 nets g j (count_used κ) p f)
            new_neighbor_lem = either By (eqb p.nhosts 0) _ _ (λ _. no_table_lem (found_for nets (r.settings b) f.link.neighbor)) (λ _. a_table)

          goes_on : (f : Flight) → at_least_min f.delay ≡ millis (pos rise) → Worded letter.octets → By (step5 nets g j (count_used κ) p f)
          goes_on f exact worded = rw (believes j a letter.link letter.octets cable sent worded).0 (believed z known carried_on f exact (count_used κ) worded)

        action_good : broadcast (r.settings b) j ≡ false → By (action κ nets x.host j p)
        unfolding steps2to4 step2 step3 step4
        action_good point =
            rw point
            (either Stay (not (same_address p.source (link_of l j).neighbor)) _ _
            (λ t. let o = stranger r proper k b heard e l walk was.good.links j letter cable right (is_not _ t) in new_neighbor_lem strange.link source_is o.0 o.1 strange refl)
            (λ t.
            let same = sym (same_address_lem p.source (link_of l j).neighbor (is_so _ t)) ∙ source_is in
            either Stay (zero_word p.tsp || not (eqb carried_on.hold.0 0)) _ _
            (λ _. quiet_kept heard DelayNotValid (g arrived.link same) (room arrived.link same) (stayed shut arrived.link same))
            (λ u. let worded = (neither (zero_word p.tsp) _ u).0 in goes_on arrived.link same arrived (exact_delay worded) worded)))
          where
            arrived : Flight
            arrived = flight false p now (link_of l j)

            strange : Flight
            strange = new_neighbor p arrived

            Stay : Stage Flight → Type 0
            Stay q = By (concluded nets (host (r.settings b) carried_on l) j (count_used κ) p q)

  -- ---- the call

  pub act_good : (κ : Counter) → (T (timed (perform (act j κ letter.octets) x).reply.answer) → Came r b cl κ letter)
      → After r c i k m b false Sent Rest s (cond (done (perform (act j κ letter.octets) x).reply.answer) (hearing r c b j heard) heard) entries
      (perform (act j κ letter.octets) x).walk (perform (act j κ letter.octets) x).copy (perform (act j κ letter.octets) x).links (perform (act j κ letter.octets) x).entries
  act_good κ =
      performs (act j κ letter.octets) x Good-out
      (λ no _. rw no (unchanged r c i k m b false Sent Rest s heard walk copy l entries e was))
      (λ d.
      let ok = passed (OnLink j) x d in
      let held = holds (r.number b) entries ok.places in
      inspect_answers (λ (q : Result Packet Answer). Good-out (updated_by (inspected κ nets x.host j q) letter.octets x)) (r.settings b) j letter.octets
      (λ z no _. rw no (quiet_kept held heard z x.host was.room was.good))
      (λ time. action_good held ok.closed κ (time (action_timed κ nets x.host j p)) (proper.cables b j a letter.link cable).point_to_point))
    where
      Good-out : Outcome → Type 0
      Good-out o = (T (timed o.reply.answer) → Came r b cl κ letter) → After r c i k m b false Sent Rest s (cond (done o.reply.answer) (hearing r c b j heard) heard) entries o.walk o.copy o.links o.entries
