-- An opened walk passes the guard at each box whose table suits it, and stays if another table is passed. So its end is that of its boxes, which is the action with the table of box 5.
use Rattle.std.specs.Prelude.{Option, Some, None, Result, Ok, Err}
use mathlib.Core.Path.{◌≡◌, refl, sym, ap, ◌∙◌, subst}
use mathlib.Core.Bool.{Bool, true, false, false≢true, cond, not, ◌||◌}
use mathlib.Core.List.{List, [], ◌∷◌, ◌++◌, append_assoc}
use mathlib.Core.Logic.{◌⊎◌, inl, inr, ⊎_elim}
use Prim.Native.Nat.{ℕ, suc, ◌+◌, ◌≤◌, ◌<◌, ◌^◌}
use native.Mathlib.Omega.{arith}
use borrow.Author.Tests.{le-leb, lt-ltb, le-ltb, ltb-true, eq-eqb}
use lib.Dec.{ltb, eqb}
use lib.ListN.{length, get_or, take, drop, length-append}
use lib.Seq.{take_at, drop_at, length-take-le}
use Rattle.lists.specs.Lists.{over}
use Rattle.lists.proofs.Tests.{either, both}
use Rattle.lists.proofs.Parts.{over_nothing}
use Rattle.answer.specs.declared.Answer.{Answer}
use Rattle.answer.specs.declared.Answer.TheVariants.{Done, Setting, OutOfRange, InWalk}
use Rattle.answer.specs.Answer.{number}
use Rattle.clock.specs.declared.Clock.{Clock}
use Rattle.clock.specs.declared.Counter.{Counter}
use Rattle.clock.specs.declared.Reading.{Reading}
use Rattle.clock.specs.Clock.{count_used}
use Rattle.clock.specs.LineClock.{no_counter}
use Rattle.wire.specs.declared.Address.{Address}
use Rattle.wire.specs.declared.Packet.{Packet}
use Rattle.wire.specs.Ip.{ip_form, ip_checksum, protocol}
use Rattle.wire.specs.Hello.{hello_form, hello_checksum}
use Rattle.wire.specs.Packet.{hello_of, parse}
use Rattle.route.proofs.Ids.{found_below}
use Rattle.net_table.specs.declared.NetTable.{NetTable}
use Rattle.net_table.specs.Table.{table_bad}
use Rattle.table.specs.declared.Entry.{Entry}
use Rattle.table.specs.Forms.{Stage, on, end, every}
use Rattle.table.specs.Runs.{changes, updates}
use Rattle.table.specs.Sweep.{sweep}
use Rattle.host.specs.declared.Reply.{Reply}
use Rattle.host.specs.declared.Effect.{Effect}
use Rattle.host.specs.declared.Settings.{Settings}
use Rattle.host.specs.declared.walk.Walk.{Walk}
use Rattle.host.specs.declared.walk.Place.{Place}
use Rattle.host.specs.declared.walk.Place.TheVariants.{Step5}
use Rattle.host.specs.declared.guard.Scope.TheVariants as scope
use Rattle.host.specs.declared.guard.Scope.TheVariants.{Walking}
use Rattle.host.specs.Settings.{settings_good, found_for}
use Rattle.host.specs.State.{first_place, no_link, host_count, broadcast, link_of, with_link, with_entries}
use Rattle.host.specs.declared.Host.{Host}
use Rattle.host.specs.CallState.{host, CallState, call_state, entries_of, state_in_range, our_reading}
use Rattle.host.specs.Inspection.{other_layout, looped, inspected, inspect}
use Rattle.host.specs.code.Walks.{Reported}
use Rattle.host.proofs.Inspected.{Fits, inspected_fits}
use Rattle.host.specs.Guard.{longest, guard, done}
use Rattle.host.specs.Walk.{is_open, place_of, step_place, packet_of, walk_in_range}
use Rattle.host.specs.Reply.{plainly, returns_place}
use Rattle.host.proofs.Sound.{sound}
use Rattle.host.proofs.Fits.{fits_hosts, rows_below}
use Rattle.host.proofs.Places.{entries_length, entries_with_entries}
use Rattle.host.proofs.Places.{Holds as Holds₁}
use Rattle.host.proofs.Guarded.{Passed, passed, counted, holds}
use Rattle.calls.proofs.Carried.{entries_put}
use Rattle.walk.specs.Boxes.{at_hand, box_at, step}
use Rattle.walk.specs.declared.Opening.{Opening}
use Rattle.walk.specs.Opening.{opened_on, opening}
use Rattle.walk.specs.Opening.{opened_by as as-inspected}
use Rattle.walk.proofs.HostReply.{to_the_end}
use Rattle.arrival.specs.declared.Arrived.{Arrived}
use Rattle.arrival.specs.declared.Flight.{Flight}
use Rattle.arrival.specs.Steps.{steps2to4}
use Rattle.arrival.specs.Arrival.{no_updates, no_table, concluded, action}
use Rattle.arrival.specs.Arrival.{inspected as inspected₁}
use Rattle.arrival.proofs.Pair.{one_piece}
use Rattle.walk.proofs.Walked.{Handed, Node, Final, node, final, box_here, walk_from}
use Rattle.walk.proofs.Holding.{Holds, passes, Goes, box_goes}
use Rattle.calls.specs.Perform.{Outcome, ask, open_walk, receive, entry_at, carried_out, updated_by, opened_by, refused, perform, left}
use Rattle.calls.specs.Perform as calls
use Rattle.network_laws.specs.Refusals.{closed}
use Rattle.network_laws.specs.Range.{under}
use Rattle.network_laws.specs.WalkEnds.{Box, boxed, walk_on, boxes_on, most_boxes, by_table, taken, counts_fit, with_table, Ends, WalkEnds}
use Rattle.network_laws.specs.Slots.{Slots}
use Rattle.network_laws.specs.WalkEnds as claim
use Rattle.network_laws.proofs.Performs.{performs}
use Rattle.network_laws.proofs.Lists.{every_all, all_there}
use Rattle.network_laws.proofs.Swept.{changes_length}
use Rattle.network_laws.proofs.Demand1.Range.{InRange, parts, stay, go_on}
use Rattle.network_laws.proofs.Openings.{packet_short, nothing_copied, copied_back, copied_length}

-- written over twice at one place
over_again : {A : Type 0} (b : List A) (k : ℕ) (xs ys : List A) → length xs ≡ length ys → k + length xs ≤ length b → over (over b k xs) k ys ≡ over b k ys
over_again b k xs ys same room =
    let front : length (take k b) ≡ k = length-take-le k b (omega arith) in
    let all : length (take k b ++ xs) ≡ k + length ys = length-append (take k b) xs ∙ omega (arith, front, same) in
    let D = drop (k + length xs) b in
    let t : take k (take k b ++ xs ++ D) ≡ take k b = ap (take k) (append_assoc (take k b) xs D) ∙ take_at (take k b) (xs ++ D) k front in
    let d : drop (k + length ys) (take k b ++ xs ++ D) ≡ drop (k + length ys) b = drop_at (take k b ++ xs) D (k + length ys) all ∙ ap (λ (n : ℕ). drop (k + n) b) same in
    rw (t, d) refl

put_again : (k : ℕ) (entries xs ys : List Entry) → length xs ≡ length ys → first_place k + length xs ≤ length entries
    → with_entries k ys (with_entries k xs entries) ≡ with_entries k ys entries
unfolding with_entries
put_again k entries xs ys same room = over_again entries (first_place k) xs ys same room

abbrev s : CallState → Settings
s y = y.host.settings

abbrev node_of : CallState → Node
node_of y = node y.host.clock y.host.links y.walk (entries_of y)

-- a host in the middle of a walk through this packet
pub record Going (p : Packet) (octets : List ℕ) (y : CallState) : Type 0 where
  pub range : InRange y
  pub good : settings_good (s y) ≡ true
  pub opened : is_open y.walk ≡ true
  pub count : y.walk.count.0 < 2 ^ 16
  pub link : no_link (s y) y.walk.link ≡ false
  pub long : y.walk.length ≤ length y.copy
  pub packet : packet_of y.walk y.copy ≡ octets
  pub parsed : inspect (s y) y.walk.link octets ≡ Ok p
  pub holds : Holds (s y) p octets (place_of y.walk) y.walk

-- ---- boxes

-- a box as the walk through the packet has it
abbrev handed : Box → Handed
handed b = record { counter = b.counter; nets = b.nets }

abbrev no_box : Box
no_box = record { counter = no_counter; nets = record { nhosts = 0; net = record { count = 0; rows = [] } } }

-- boxes by their numbers
abbrev numbered : List Box → ℕ → Handed
numbered bs j = handed (get_or bs j no_box)

-- those that were taken have tables that suit
abbrev suitable : Settings → Box → Bool
suitable s₁ b = done (by_table s₁ b.nets)

taken_suit : (s₁ : Settings) (bs : List Box) → every (suitable s₁) (taken s₁ bs) ≡ true
taken_suit s₁ [] = refl
taken_suit s₁ (b ∷ bs) = go (taken_suit s₁ bs) (suitable s₁ b) refl
  where
    go : every (suitable s₁) (taken s₁ bs) ≡ true → (v : Bool) → suitable s₁ b ≡ v → every (suitable s₁) (cond v (b ∷ taken s₁ bs) (taken s₁ bs)) ≡ true
    go rest true is = rw (is, rest) refl
    go rest false is = rest

-- what a table that suits has
module _ (s₁ : Settings) (t : NetTable) where
  fair : done (by_table s₁ t) ≡ true → (table_bad t ≡ false) × (eqb s₁.layout.nhosts t.nhosts ≡ true)
  fair e = go (table_bad t) (eqb s₁.layout.nhosts t.nhosts) e
    where
      go : (a b : Bool) → done (cond a OutOfRange (cond (not b) Setting Done)) ≡ true → (a ≡ false) × (b ≡ true)
      go true b e = absurd (false≢true e)
      go false true e = (refl, refl)
      go false false e = absurd (false≢true e)

  -- an id that it leads to is one of the host's
  below : settings_good s₁ ≡ true → done (by_table s₁ t) ≡ true → (a : Address) (id : ℕ) → found_for t s₁ a ≡ Some id → id < s₁.layout.nhosts
  below good e a id is =
      let f = fair e in
      found_below s₁.address s₁.layout t.net a id (rows_below t s₁ f.0 (rw (good, f.1) refl)) is

module _ (p : Packet) (octets : List ℕ) where
  -- the guard asks nothing more of a walk that goes on than a table that suits
  guard_is : (y : CallState) → Going p octets y → (t : NetTable) → guard Walking (under t y) ≡ by_table (s y) t
  unfolding guard state_in_range
  guard_is y g t =
      rw (g.range.places_there, g.range.clock_in, g.range.links_in_lem, g.range.walk_in, g.range.entries_in, g.range.marks_in, g.good) (go (table_bad t))
    where
      go : (b : Bool) → cond (b || false) OutOfRange (cond (not (eqb (s y).layout.nhosts t.nhosts)) Setting Done) ≡ cond b OutOfRange (cond (not (eqb (s y).layout.nhosts t.nhosts)) Setting Done)
      go true = refl
      go false = refl

  -- a step does not look at an entry
  blind : (y : CallState) (k : Counter) (t : NetTable) (n : ℕ) (e f : Entry)
      → box_at (step_place n) k p octets t y.host y.walk e ≡ box_at (step_place n) k p octets t y.host y.walk f
  blind y k t n e f =
      either B (eqb n 1) _ _ (λ _. refl)
      (λ _. either B (eqb n 2) _ _ (λ _. refl)
      (λ _. either B (eqb n 3) _ _ (λ _. refl)
      (λ _. either B (eqb n 4) _ _ (λ _. refl)
      (λ _. either B (eqb n 5) (Some Step5) None (λ _. refl) (λ _. refl)))))
    where
      B : Option Place → Type 0
      B q = box_at q k p octets t y.host y.walk e ≡ box_at q k p octets t y.host y.walk f

  abbrev box : CallState → Box → Effect
  box y b = box_here (s y) p octets (handed b) (node_of y)

  at_hand_lem : (y : CallState) → Going p octets y → (b : Box)
      → box_at (place_of y.walk) b.counter p octets b.nets y.host y.walk (entry_at (at_hand y.walk) (under b.nets y)) ≡ box y b
  unfolding place_of
  at_hand_lem y g b = go (eqb y.walk.line 0) refl
    where
      go : (a : Bool) → eqb y.walk.line 0 ≡ a
          → box_at (place_of y.walk) b.counter p octets b.nets y.host y.walk (entry_at (at_hand y.walk) (under b.nets y)) ≡ box y b
      go true e = rw e (blind y b.counter b.nets y.walk.step _ _)
      go false e = rw (e, g.opened) refl

  step_is : (y : CallState) → Going p octets y → (k : Counter) (t : NetTable) (e : Entry)
      → step k t y.host y.walk y.copy e ≡ box_at (place_of y.walk) k p octets t y.host y.walk e
  unfolding step
  step_is y g k t e = rw (g.opened, g.packet, g.parsed) refl

  abbrev suits : CallState → Box → Bool
  suits y b = suitable (s y) b

  one_box : (y : CallState) → Going p octets y → (b : Box) → suits y b ≡ true → boxed b y ≡ carried_out (box y b) y
  unfolding perform
  one_box y g b ok =
      rw (guard_is y g b.nets, ok)
      (ap (λ (e : Effect). carried_out e y) (step_is y g b.counter b.nets (entry_at (at_hand y.walk) (under b.nets y)) ∙ at_hand_lem y g b))

  -- one that its table refuses changes nothing
  no_box_lem : (y : CallState) → Going p octets y → (b : Box) → suits y b ≡ false → boxed b y ≡ refused (by_table (s y) b.nets) (calls.step b.counter) y
  unfolding perform
  no_box_lem y g b not = rw (guard_is y g b.nets, not) refl

  walk_in_range_lem : (s₁ : Settings) (w : Walk) (copy : List ℕ) → is_open w ≡ true → no_link s₁ w.link ≡ false → w.length ≤ length copy
      → packet_of w copy ≡ octets → inspect s₁ w.link octets ≡ Ok p → Holds s₁ p octets (place_of w) w → walk_in_range s₁ w copy ≡ true
  unfolding walk_in_range
  walk_in_range_lem s₁ w copy o link long packet parsed holds =
      rw (o, link, le-leb w.length (length copy) long, packet, parsed, passes s₁ p octets (place_of w) w holds) refl

  -- ---- after a box the walk goes on

  abbrev behind : CallState → Box → CallState
  behind y b = left y (carried_out (box y b) y)

  abbrev after : CallState → Box → List Entry
  after y b = changes (box y b).work (entries_of y)

  goes : (y : CallState) → Going p octets y → (b : Box) → suits y b ≡ true → Goes (s y) p octets b.counter y.walk (box y b).walk
  goes y g b ok =
      box_goes (s y) p octets b.counter y.host.clock y.host.links y.walk b.nets _ (place_of y.walk) g.holds (sound (s y) g.good).hosts_from
      (λ a id e. lt-ltb id _ (below (s y) b.nets g.good ok a id e))

  kept : (y : CallState) → Going p octets y → (b : Box) → suits y b ≡ true → (count_used b.counter).0 < 2 ^ 16 → is_open (box y b).walk ≡ true → Going p octets (behind y b)
  kept y g b ok few o =
      let now = goes y g b ok in
      let there : InRange (under b.nets y) = record { table_in = (fair (s y) b.nets ok).0; places_there = g.range.places_there; clock_in = g.range.clock_in; links_in_lem = g.range.links_in_lem; walk_in = g.range.walk_in; entries_in = g.range.entries_in; marks_in = g.range.marks_in } in
      let r = subst (λ (z : Outcome). InRange (closed (left (under b.nets y) z))) (one_box y g b ok) (go_on (under b.nets y) there b.counter few g.count) in
      let same_link = now.link o in
      let same_length = now.length o in
      record {
        range = record { table_in = g.range.table_in; places_there = r.places_there; clock_in = r.clock_in; links_in_lem = r.links_in_lem; walk_in = walk_in_range_lem (s y) (box y b).walk y.copy o (rw same_link g.link) (rw same_length g.long) (rw same_length g.packet) (rw same_link g.parsed) (now.still o); entries_in = r.entries_in; marks_in = r.marks_in };
        good = g.good;
        opened = o;
        count = now.few o g.count few;
        link = rw same_link g.link;
        long = rw same_length g.long;
        packet = rw same_length g.packet;
        parsed = rw same_link g.parsed;
        holds = now.still o;
      }

  -- ---- the boxes, performed, are the boxes of the walk

  pub record Matches (y : CallState) (o : Outcome) (f : Final) : Type 0 where
    pub reply : o.reply ≡ f.reply
    pub clock : o.clock ≡ f.clock
    pub links : o.links ≡ f.links
    pub entries : o.entries ≡ with_entries y.number f.own_entries y.entries
    pub count : length f.own_entries ≡ host_count (s y)
    pub closed : (is_open o.walk ≡ false) ⊎ (o.reply ≡ plainly InWalk)

  runs : (bs : List Box) → counts_fit bs ≡ true → (y : CallState) → Going p octets y
      → Matches y (walk_on bs y) (walk_from (s y) p octets (length (taken (s y) bs)) (numbered (taken (s y) bs)) (node_of y))
  unfolding walk_on walk_from
  runs [] few y g =
      let h = holds y.number y.entries g.range.places_there in
      record {
        reply = refl;
        clock = refl;
        links = refl;
        entries = sym (entries_put (s y) y.number y.entries h);
        count = entries_length (s y) y.number y.entries h;
        closed = inr refl;
      }
  runs (b ∷ bs) few y g = next (runs bs counts.1) (suits y b) refl
    where
      counts : (ltb (count_used b.counter).0 (2 ^ 16) ≡ true) × (counts_fit bs ≡ true)
      counts = both (ltb (count_used b.counter).0 (2 ^ 16)) (counts_fit bs) few

      there : Holds₁ y.number y.entries
      there = holds y.number y.entries g.range.places_there

      size : length (after y b) ≡ host_count (s y)
      size = changes_length (box y b).work (entries_of y) ∙ entries_length (s y) y.number y.entries there

      rest : List Box
      rest = taken (s y) bs

      Rest : Type 0
      Rest = (z : CallState) → Going p octets z → Matches z (walk_on bs z) (walk_from (s z) p octets (length (taken (s z) bs)) (numbered (taken (s z) bs)) (node_of z))

      go : Rest → suits y b ≡ true → (v : Bool) → is_open (box y b).walk ≡ v
          → Matches y (cond v (walk_on bs (behind y b)) (carried_out (box y b) y))
          (cond v (walk_from (s y) p octets (length (taken (s y) bs)) (numbered (taken (s y) bs)) (node (box y b).clock (box y b).links (box y b).walk (after y b))) (final (box y b).reply (box y b).clock (box y b).links (after y b)))
      go more ok true o =
          let room : first_place y.number + length (after y b) ≤ length y.entries = omega (arith, there, size) in
          let same : entries_of (behind y b) ≡ after y b = entries_with_entries y.number (after y b) y.entries room (s y) size in
          let m = subst
          (λ (es : List Entry). Matches (behind y b) (walk_on bs (behind y b)) (walk_from (s y) p octets (length (taken (s y) bs)) (numbered (taken (s y) bs)) (node (box y b).clock (box y b).links (box y b).walk es)))
          same (more (behind y b) (kept y g b ok (ltb-true _ _ counts.0) o)) in
          record {
            reply = m.reply;
            clock = m.clock;
            links = m.links;
            entries = m.entries ∙ put_again y.number y.entries (after y b) _ (size ∙ sym m.count) room;
            count = m.count;
            closed = m.closed;
          }
      go more ok false o =
          record { reply = refl; clock = refl; links = refl; entries = refl; count = size; closed = inl o }

      next : Rest → (v : Bool) → suits y b ≡ v
          → Matches y (cond (is_open (boxed b y).walk) (walk_on bs (left y (boxed b y))) (boxed b y))
          (walk_from (s y) p octets (length (cond v (b ∷ taken (s y) bs) (taken (s y) bs))) (numbered (cond v (b ∷ taken (s y) bs) (taken (s y) bs))) (node_of y))
      next more true ok = rw (one_box y g b ok) (go more ok (is_open (box y b).walk) refl)
      next more false not = rw (no_box_lem y g b not, g.opened) (more y g)

  -- ---- while it is open, it goes on

  shut_stays : (bs : List Box) (z : CallState) → is_open z.walk ≡ false → is_open (boxes_on bs z).walk ≡ false
  unfolding boxes_on step
  shut_stays [] z shut = shut
  shut_stays (b ∷ bs) z shut =
      shut_stays bs (left z (boxed b z))
      (performs (calls.step b.counter) (under b.nets z) (λ (o : Outcome). is_open o.walk ≡ false) (λ _. shut) (λ _. rw shut shut))

  still : (bs : List Box) → counts_fit bs ≡ true → (y : CallState) → Going p octets y → is_open (boxes_on bs y).walk ≡ true → Going p octets (boxes_on bs y)
  unfolding boxes_on
  still [] few y g o = g
  still (b ∷ bs) few y g o = next (still bs counts.1) (suits y b) refl
    where
      counts : (ltb (count_used b.counter).0 (2 ^ 16) ≡ true) × (counts_fit bs ≡ true)
      counts = both (ltb (count_used b.counter).0 (2 ^ 16)) (counts_fit bs) few

      Rest : Type 0
      Rest = (z : CallState) → Going p octets z → is_open (boxes_on bs z).walk ≡ true → Going p octets (boxes_on bs z)

      Goal : Outcome → Type 0
      Goal a = is_open (boxes_on bs (left y a)).walk ≡ true → Going p octets (boxes_on bs (left y a))

      go : Rest → suits y b ≡ true → (v : Bool) → is_open (box y b).walk ≡ v → Goal (carried_out (box y b) y)
      go more ok true is = more (behind y b) (kept y g b ok (ltb-true _ _ counts.0) is)
      go more ok false is = λ open-still. absurd (false≢true (sym (shut_stays bs (behind y b) is) ∙ open-still))

      next : Rest → (v : Bool) → suits y b ≡ v → Going p octets (boxes_on bs (left y (boxed b y)))
      next more true ok = subst Goal (sym (one_box y g b ok)) (go more ok (is_open (box y b).walk) refl) o
      next more false not = subst Goal (sym (no_box_lem y g b not)) (more y g) o

-- boxes leave the settings
same_settings : (bs : List Box) (y : CallState) → s (boxes_on bs y) ≡ s y
unfolding boxes_on
same_settings [] y = refl
same_settings (b ∷ bs) y = same_settings bs (left y (boxed b y))

-- ---- opening

no_step : {A : Type 0} → ◌≡◌ {A = ℕ} 0 1 → A
no_step z = absurd (omega arith)

-- what the inspection refuses has a number
abbrev NotDone : Result Packet Answer → Type 0
NotDone (Ok p) = ◌≡◌ {A = ℕ} 0 0
NotDone (Err a) = 3 ≤ number a

refuses : (s₁ : Settings) (i : ℕ) (octets : List ℕ) → NotDone (inspect s₁ i octets)
unfolding inspect parse
refuses s₁ i octets = go (parse octets) parsed
  where
    parsed : NotDone (parse octets)
    parsed =
        either NotDone (not (ip_form octets)) _ _ (λ _. omega arith)
        (λ _. either NotDone (not (ip_checksum octets)) _ _ (λ _. omega arith)
        (λ _. either NotDone (not (protocol octets)) _ _ (λ _. omega arith)
        (λ _. either NotDone (not (hello_form (hello_of octets))) _ _ (λ _. omega arith)
        (λ _. either NotDone (not (hello_checksum (hello_of octets))) _ _ (λ _. omega arith) (λ _. refl)))))

    go : (q : Result Packet Answer) → NotDone q → NotDone (inspected s₁ i q)
    go (Err a) h = h
    go (Ok p) h = either NotDone (other_layout s₁ p) _ _ (λ _. omega arith) (λ _. either NotDone (looped s₁ i p) _ _ (λ _. omega arith) (λ _. refl))

module _ (i : ℕ) (packet : List ℕ) (x : CallState) where
  abbrev opens : Outcome
  opens = claim.opening i packet x

  abbrev at_first : Opening
  at_first = record { reply = returns_place 1 0 0; walk = opened_on i (length packet); octets = length packet }

  abbrev opened : Outcome
  opened = opened_by at_first packet x

  -- an opening that is done has passed the guard and the inspection
  record Begun : Type 0 where
    p : Packet
    passing : Passed (scope.Opening i) x
    parsed : inspect (s x) i packet ≡ Ok p
    is : opens ≡ opened

  works : done (guard (scope.Opening i) x) ≡ true → opens ≡ opened_by (opening i packet (s x) x.walk) packet x
  unfolding perform
  works d = rw d refl

  refused_so : done (guard (scope.Opening i) x) ≡ false → opens ≡ refused (guard (scope.Opening i) x) (open_walk i packet) x
  unfolding perform
  refused_so d = rw d refl

  opening_good : (p : Packet) → inspect (s x) i packet ≡ Ok p → opened_by (opening i packet (s x) x.walk) packet x ≡ opened
  unfolding opening
  opening_good p parsed = rw parsed refl

  opening_bad : (a : Answer) → inspect (s x) i packet ≡ Err a
      → opened_by (opening i packet (s x) x.walk) packet x ≡ opened_by record { reply = plainly a; walk = x.walk; octets = 0 } packet x
  unfolding opening
  opening_bad a parsed = rw parsed refl

  begun : opens.reply.answer ≡ Done → Begun
  begun e = go (done (guard (scope.Opening i) x)) refl
    where
      inspected_so : Passed (scope.Opening i) x → opens ≡ opened_by (opening i packet (s x) x.walk) packet x → (q : Result Packet Answer) → inspect (s x) i packet ≡ q → NotDone q → Begun
      inspected_so passing is (Ok p) parsed h = record { p = p; passing = passing; parsed = parsed; is = is ∙ opening_good p parsed }
      inspected_so passing is (Err a) parsed h =
          let answer : a ≡ Done = sym (ap (λ (o : Outcome). o.reply.answer) (is ∙ opening_bad a parsed)) ∙ e in
          absurd (omega (arith, h, ap number answer))

      go : (b : Bool) → done (guard (scope.Opening i) x) ≡ b → Begun
      go true d = inspected_so (passed (scope.Opening i) x d) (works d) (inspect (s x) i packet) refl (refuses (s x) i packet)
      go false d = absurd (false≢true (sym d ∙ ap done (sym (ap (λ (o : Outcome). o.reply.answer) (refused_so d)) ∙ e)))

  module _ (b : Begun) where
    -- the walk at its first box
    abbrev y : CallState
    y = left x opened

    reported : Reported (s x) b.p packet
    reported = subst (Fits (s x) packet) b.parsed (inspected_fits (s x) i packet)

    short : length packet ≤ length x.copy
    short = omega (arith, packet_short (s x) b.p packet b.passing.settings reported, (b.passing.opening i refl).1)

    going : Going b.p packet y
    unfolding place_of
    going =
        record {
          range = subst (λ (o : Outcome). InRange (left x o)) b.is (stay x (parts x b.passing.table b.passing.places (b.passing.call_state refl)) (open_walk i packet) (λ j e. no_step cc) (omega arith));
          good = b.passing.settings;
          opened = refl;
          count = omega arith;
          link = (b.passing.opening i refl).0;
          long = omega (arith, copied_length packet x.copy short, short);
          packet = copied_back packet x.copy;
          parsed = b.parsed;
          holds = refl;
        }

    -- ---- the arrival, with a table that suits

    module _ (k : Counter) (t : NetTable) (ok : done (by_table (s x) t) ≡ true) where
      abbrev acts : Arrived
      acts = action k t x.host i b.p

      state_so : state_in_range (under t x) ≡ true
      unfolding state_in_range
      state_so = b.passing.call_state refl

      arrives : perform (receive i k packet) (under t x) ≡ updated_by acts packet x
      unfolding perform guard
      arrives =
          rw ((fair (s x) t ok).0, (fair (s x) t ok).1, (b.passing.opening i refl).0, b.passing.places, state_so, b.passing.closed, b.passing.settings)
          (ap (λ (e : Arrived). updated_by e packet x) (one_piece i k packet t x.host ∙ ap (inspected₁ k t x.host i) b.parsed))

      to_end : Slots x.host.settings x.host.links → (n : ℕ) (ks : ℕ → Handed) → (ks 0).counter ≡ k → (ks 4).nets ≡ t → most_boxes ≤ n
          → walk_from (s x) b.p packet n ks (node_of y)
          ≡ final acts.reply (updates acts.work packet (entries_of x)).clock acts.links (updates acts.work packet (entries_of x)).own_entries
      to_end slots n ks first fifth room =
          let good = sound (s x) b.passing.settings in
          let c = counted (s x) i (b.passing.opening i refl).0 in
          let there = holds x.number x.entries b.passing.places in
          to_the_end (s x) i b.p packet (length packet) x.host.clock x.host.links (omega (arith, slots, c.at_place)) k t (entries_of x) n ks first fifth
          (omega (arith, room)) (entries_length (s x) x.number x.entries there) (omega (arith, good.hosts_from))
          (λ a id e. omega (arith, below (s x) t b.passing.settings ok a id e, good.hosts_to))

      -- the action does not answer 16
      never : acts.reply ≡ plainly InWalk → ⊥
      never e = go (steps2to4 (broadcast (s x) i) r.clock.hold b.p r.time (link_of x.host.links i)) e
        where
          r : Reading
          r = our_reading k x.host

          one : (h : Host) (f : Flight) (g : Option ℕ) → (no_table h i (count_used k) b.p f g).reply ≡ plainly InWalk → ⊥
          one h f None w = omega (arith, ap (λ (y₁ : Reply). number y₁.answer) w)
          one h f (Some id) w = omega (arith, ap (λ (y₁ : Reply). number y₁.answer) w)

          go : (q : Stage Flight) → (concluded t (host (s x) r.clock x.host.links) i (count_used k) b.p q).reply ≡ plainly InWalk → ⊥
          go (end f) w = omega (arith, ap (λ (y₁ : Reply). number y₁.answer) w)
          go (on f) w =
              either (λ (a : Arrived). a.reply ≡ plainly InWalk → ⊥) (eqb b.p.nhosts 0) _ _
              (λ _. one (host (s x) r.clock (with_link i f.link x.host.links)) f (found_for t (s x) f.link.neighbor)) (λ _ v. omega (arith, ap (λ (y₁ : Reply). number y₁.answer) v)) w

    -- ---- the walk, with boxes of which these were taken

    module _ (slots : Slots x.host.settings x.host.links) (bs : List Box) (few : counts_fit bs ≡ true) where
      ends : (b₁ b₂ b₃ b₄ b₅ : Box) (more : List Box) → taken (s x) bs ≡ b₁ ∷ b₂ ∷ b₃ ∷ b₄ ∷ b₅ ∷ more → most_boxes ≤ length (taken (s x) bs)
          → Ends (walk_on bs (left x opens)) (perform (receive i b₁.counter packet) (under b₅.nets x))
      ends b₁ b₂ b₃ b₄ b₅ more is room =
          let all = subst (λ (l : List Box). every (suitable (s x)) l ≡ true) is (taken_suit (s x) bs) in
          let ok = all_there (λ _ (c : Box). suitable (s x) c ≡ true) no_box (b₁ ∷ b₂ ∷ b₃ ∷ b₄ ∷ b₅ ∷ more) (every_all (suitable (s x)) (b₁ ∷ b₂ ∷ b₃ ∷ b₄ ∷ b₅ ∷ more) all) 4 (omega arith) in
          let k = b₁.counter in
          let t = b₅.nets in
          let m = subst (Matches b.p packet y (walk_on bs y)) (to_end k t ok slots (length (taken (s x) bs)) _ (ap (λ (l : List Box). (get_or l 0 no_box).counter) is) (ap (λ (l : List Box). (get_or l 4 no_box).nets) is) room) (runs b.p packet bs few y going) in
          rw (b.is, arrives k t ok) record {
            reply = m.reply;
            clock = m.clock;
            links = m.links;
            entries = m.entries;
            closed = ⊎_elim (λ c. c) (λ c. absurd (never k t ok (sym m.reply ∙ c))) m.closed;
          }

-- ---- a refused opening

no_updates_lem : (packet : List ℕ) (c : Clock) (es : List Entry) → updates (no_updates c) packet es ≡ record { clock = c; own_entries = es }
unfolding updates sweep
no_updates_lem packet c es = ap (λ (l : List Entry). record { clock = c; own_entries = l }) (over_nothing 0 es)

module _ (i : ℕ) (packet : List ℕ) (x : CallState) where
  abbrev bad : Answer → Outcome
  bad a = opened_by record { reply = plainly a; walk = x.walk; octets = 0 } packet x

  bad_keeps : (a : Answer) → left x (bad a) ≡ x
  bad_keeps a = ap (λ (copy : List ℕ). call_state (s x) x.nets x.number x.host.clock x.host.links x.walk copy x.entries) (nothing_copied packet x.copy)

  -- a refusal by the guard or by the inspection
  cases : (P : Outcome → Type 0) → (done (guard (scope.Opening i) x) ≡ false → P (refused (guard (scope.Opening i) x) (open_walk i packet) x))
      → (done (guard (scope.Opening i) x) ≡ true → (a : Answer) → inspect (s x) i packet ≡ Err a → P (bad a))
      → done (perform (open_walk i packet) x).reply.answer ≡ false → P (perform (open_walk i packet) x)
  unfolding perform opening
  cases P by_guard by_inspection e = go (done (guard (scope.Opening i) x)) refl (inspect (s x) i packet) refl e
    where
      outcome : Bool → Result Packet Answer → Outcome
      outcome b q = cond (not b) (refused (guard (scope.Opening i) x) (open_walk i packet) x) (opened_by (as-inspected i packet x.walk q) packet x)

      go : (b : Bool) → done (guard (scope.Opening i) x) ≡ b → (q : Result Packet Answer) → inspect (s x) i packet ≡ q → done (outcome b q).reply.answer ≡ false → P (outcome b q)
      go false d q is f = by_guard d
      go true d (Err a) is f = by_inspection d a is
      go true d (Ok p) is f = absurd (false≢true (sym f))

  module _ (k : Counter) (room : longest ≤ length x.copy) where
    same_guard : guard (scope.OnLink i) x ≡ guard (scope.Opening i) x
    unfolding guard
    same_guard = rw (le-ltb (length x.copy) longest room) refl

    by_guard : done (guard (scope.Opening i) x) ≡ false → refused (guard (scope.Opening i) x) (open_walk i packet) x ≡ perform (receive i k packet) x
    unfolding perform
    by_guard d = rw (same_guard, d) refl

    by_inspection : done (guard (scope.Opening i) x) ≡ true → (a : Answer) → inspect (s x) i packet ≡ Err a → bad a ≡ perform (receive i k packet) x
    unfolding perform
    by_inspection d a is =
        let there = holds x.number x.entries (passed (scope.Opening i) x d).places in
        rw (same_guard, d, one_piece i k packet x.nets x.host, is, nothing_copied packet x.copy, no_updates_lem packet x.host.clock (entries_of x), entries_put (s x) x.number x.entries there) refl

-- ---- one table

module _ (s₁ : Settings) (t : NetTable) (ok : done (by_table s₁ t) ≡ true) where
  taken_all : (ks : List Counter) → taken s₁ (with_table t ks) ≡ with_table t ks
  taken_all [] = refl
  taken_all (k ∷ ks) = rw ok (ap (λ (l : List Box). record { counter = k; nets = t } ∷ l) (taken_all ks))

with_long : (t : NetTable) (ks : List Counter) → length (with_table t ks) ≡ length ks
with_long t [] = refl
with_long t (k ∷ ks) = ap suc (with_long t ks)

-- the table that an opening was done with suits
opening_table : (i : ℕ) (x : CallState) → Passed (scope.Opening i) x → done (by_table (s x) x.nets) ≡ true
opening_table i x ok = rw (ok.table, eq-eqb (s x).layout.nhosts x.nets.nhosts (fits_hosts x.nets (s x) ok.fit)) refl

one_table : (i : ℕ) (packet : List ℕ) (x : CallState) (k : Counter) (ks : List Counter) → Slots x.host.settings x.host.links → counts_fit (with_table x.nets (k ∷ ks)) ≡ true
    → (claim.opening i packet x).reply.answer ≡ Done → most_boxes ≤ length (k ∷ ks)
    → Ends (walk_on (with_table x.nets (k ∷ ks)) (left x (claim.opening i packet x))) (perform (receive i k packet) x)
one_table i packet x k [] slots few e room = absurd (omega arith)
one_table i packet x k (k₂ ∷ []) slots few e room = absurd (omega arith)
one_table i packet x k (k₂ ∷ k₃ ∷ []) slots few e room = absurd (omega arith)
one_table i packet x k (k₂ ∷ k₃ ∷ k₄ ∷ []) slots few e room = absurd (omega arith)
one_table i packet x k (k₂ ∷ k₃ ∷ k₄ ∷ k₅ ∷ ks) slots few e room =
    let b = begun i packet x e in
    let is = taken_all (s x) x.nets (opening_table i x b.passing) (k ∷ k₂ ∷ k₃ ∷ k₄ ∷ k₅ ∷ ks) in
    ends i packet x b slots (with_table x.nets (k ∷ k₂ ∷ k₃ ∷ k₄ ∷ k₅ ∷ ks)) few _ _ _ _ _ _ is
    (rw is (rw (with_long x.nets ks) room))

pub walk_ends_holds : WalkEnds
walk_ends_holds = record {
  whole = λ i packet x bs b₁ b₂ b₃ b₄ b₅ more slots few e is room. ends i packet x (begun i packet x e) slots bs few b₁ b₂ b₃ b₄ b₅ more is room;
  one_table = one_table;
  by_table_lem = λ i packet x bs t few e.
      let b = begun i packet x e in
      subst (λ (o : Outcome). is_open (boxes_on bs (left x o)).walk ≡ true → guard Walking (under t (boxes_on bs (left x o))) ≡ by_table (s x) t) (sym b.is)
      (λ Going-on. guard_is b.p packet (boxes_on bs (left x (opened i packet x))) (still b.p packet bs few (left x (opened i packet x)) (going i packet x b) Going-on) t
      ∙ ap (λ (z : Settings). by_table z t) (same_settings bs (left x (opened i packet x))));
  refused = λ i packet k x room e. cases i packet x (λ (o : Outcome). o ≡ perform (receive i k packet) x) (by_guard i packet x k room) (by_inspection i packet x k room) e;
  unchanged = λ i packet x e. cases i packet x (λ (o : Outcome). left x o ≡ x) (λ _. refl) (λ _ a _. bad_keeps i packet x a) e;
}
