-- Entries without marks. No line of an update, no second, no box of a walk and no send uses a mark. So each makes of bare entries what it makes of marked ones, except the marks.
use Rattle.std.specs.Prelude.{Option, Some, None, Result, Ok, Err}
use mathlib.Core.Path.{◌≡◌, refl, sym, ap, ◌∙◌}
use mathlib.Core.Bool.{Bool, true, false, cond, not, ◌&&◌, ◌||◌}
use mathlib.Core.List.{List, [], ◌∷◌, ◌++◌, map, map-append}
use Prim.Native.Nat.{ℕ, zero, suc, ◌+◌, ◌-◌}
use lib.Dec.{ltb, eqb}
use lib.ListN.{length, get_or, take, drop, length-map}
use Rattle.lists.specs.Lists.{part, over}
use Rattle.quantity.specs.declared.Millis.{Millis}
use Rattle.quantity.specs.declared.Seconds.{Seconds}
use Rattle.quantity.specs.declared.Count.{Count}
use Rattle.quantity.specs.Quantity.{add_millis, less_millis, fall_seconds}
use Rattle.calendar.specs.declared.Date.{Date}
use Rattle.clock.specs.declared.Clock.{Clock}
use Rattle.answer.specs.declared.Answer.{Answer}
use Rattle.answer.specs.declared.Answer.TheVariants.{Done}
use Rattle.clock.specs.declared.Counter.{Counter}
use Rattle.clock.specs.declared.Reading.{Reading}
use Rattle.wire.specs.declared.Packet.{Packet}
use Rattle.wire.specs.declared.Report.{Report}
use Rattle.net_table.specs.declared.NetTable.{NetTable}
use Rattle.table.specs.declared.Entry.{Entry}
use Rattle.table.specs.declared.Update.{Update}
use Rattle.table.specs.declared.Updated.{Updated}
use Rattle.table.specs.declared.marks.Marks.{Marks}
use Rattle.table.specs.declared.entries.Change.{Change}
use Rattle.table.specs.declared.entries.Change.TheVariants.{Fresh, Aged, Reported, Put}
use Rattle.table.specs.declared.entries.Changes.{Changes}
use Rattle.table.specs.declared.entries.Updates.{Updates}
use Rattle.table.specs.Forms.{Stage, on, end, ◌then◌, every, map_from}
use Rattle.table.specs.Entry.{max_delay, min_delay, fresh_entry, up, with_ttl, taken_down, aged, advertised, entry_in_range}
use Rattle.table.specs.Update.{line_a, line_b, line_c, lines, settled, update, own_update, left, self_reported}
use Rattle.table.specs.Sweep.{Swept, sweep}
use Rattle.table.specs.Runs.{changed, changes, updated_at, updates}
use Rattle.host.specs.declared.Settings.{Settings}
use Rattle.host.specs.declared.Effect.{Effect}
use Rattle.host.specs.declared.Reply.{Reply}
use Rattle.host.specs.declared.guard.Scope.{Scope}
use Rattle.host.specs.declared.guard.Scope.TheVariants.{Places, All, OnLink, Opening, Walking}
use Rattle.host.specs.declared.walk.Walk.{Walk}
use Rattle.host.specs.declared.walk.Place.{Place}
use Rattle.host.specs.declared.walk.Place.TheVariants.{Step1, Step2, Step3, Step4, Step5, LineA, LineB, LineC, LineD}
use Rattle.host.specs.Settings.{own_id, found_for}
use Rattle.host.specs.State.{first_place, host_count, link_of, broadcast, own_entries, with_entries}
use Rattle.host.specs.Effect.{nothing, one, answers}
use Rattle.host.specs.Reply.{plainly}
use Rattle.host.specs.Guard.{no_places, done}
use Rattle.host.specs.declared.Host.{Host}
use Rattle.host.specs.CallState.{CallState, host, entries_of, our_reading}
use Rattle.host.specs.Walk.{is_open, place_of, packet_of, line_update}
use Rattle.host.specs.Inspection.{inspect}
use Rattle.arrival.specs.declared.Flight.{Flight}
use Rattle.arrival.specs.declared.Arrived.{Arrived}
use Rattle.arrival.specs.Steps.{step4}
use Rattle.arrival.specs.Arrival.{delivered}
use Rattle.sending.specs.declared.Sending.{Sending}
use Rattle.sending.specs.Send.{send_in, with_message, written}
use Rattle.walk.specs.Boxes.{at_hand, in_flight, raised, fourth, to_neighbor, next_id, put, is_clock_host, clock_set, after_a, after_b, after_c, box1, box2, box3, box4, box5, box_a, box_b, box_c, box_d, box_at, box_of, step}
use Rattle.calls.specs.declared.Request.TheVariants.{Initialize, Tick, Adjust, Set, Read, Second, SelfReport, Lookup, Step}
use Rattle.calls.specs.Effects.{initialize, tick, adjust, set_by, read, second, looked, lookup}
use Rattle.calls.specs.Perform.{Call, ask, send, deliver, open_walk, Outcome, scope_of_call, refused, entry_at, carried_out, updated_by, work}
use Rattle.network_laws.specs.OwnAlone.{own_work, own_report, guard_unmarked, work_unmarked, perform_unmarked, bare, bare_state, bare_outcome}

-- ---- lists

module _ {A B : Type 0} (f : A → B) where
  map_take : (n : ℕ) (l : List A) → map f (take n l) ≡ take n (map f l)
  map_take zero l = refl
  map_take (suc n) [] = refl
  map_take (suc n) (a ∷ l) = ap (λ (m : List B). f a ∷ m) (map_take n l)

  map_drop : (n : ℕ) (l : List A) → map f (drop n l) ≡ drop n (map f l)
  map_drop zero l = refl
  map_drop (suc n) [] = refl
  map_drop (suc n) (a ∷ l) = map_drop n l

  map_part : (k n : ℕ) (l : List A) → map f (part k n l) ≡ part k n (map f l)
  map_part k n l = map_take n (drop k l) ∙ ap (take n) (map_drop k l)

  map_over : (b : List A) (k : ℕ) (r : List A) → map f (over b k r) ≡ over (map f b) k (map f r)
  map_over b k r =
      map-append f (take k b ++ r) (drop (k + length r) b)
      ∙ ap (λ (l : List B). l ++ map f (drop (k + length r) b)) (map-append f (take k b) r)
      ∙ ap (λ (l : List B). l ++ map f r ++ map f (drop (k + length r) b)) (map_take k b)
      ∙ ap (λ (l : List B). take k (map f b) ++ map f r ++ l) (map_drop (k + length r) b)
      ∙ ap (λ (n : ℕ). take k (map f b) ++ map f r ++ drop (k + n) (map f b)) (sym (length-map r f))

-- ---- entries

bare_fresh : bare fresh_entry ≡ fresh_entry
unfolding fresh_entry
bare_fresh = refl

bare_twice : (es : List Entry) → map bare (map bare es) ≡ map bare es
bare_twice [] = refl
bare_twice (e ∷ es) = ap (λ (l : List Entry). bare e ∷ l) (bare_twice es)

get_bare : (es : List Entry) (i : ℕ) → get_or (map bare es) i fresh_entry ≡ bare (get_or es i fresh_entry)
get_bare [] i = sym bare_fresh
get_bare (e ∷ es) zero = refl
get_bare (e ∷ es) (suc i) = get_bare es i

range_bare : (es : List Entry) → every entry_in_range (map bare es) ≡ every entry_in_range es
unfolding entry_in_range
range_bare [] = refl
range_bare (e ∷ es) = rw (range_bare es) refl

abbrev bare_stage : Stage Entry → Stage Entry
bare_stage (on e) = on (bare e)
bare_stage (end e) = end (bare e)

then_bare : (q : Stage Entry) (f : Entry → Stage Entry) → ((e : Entry) → f (bare e) ≡ bare_stage (f e)) → (bare_stage q then f) ≡ bare_stage (q then f)
then_bare (on e) f same = same e
then_bare (end e) f same = refl

module _ (u : Update) (e : Entry) where
  a_bare : line_a u (bare e) ≡ bare_stage (line_a u e)
  unfolding line_a
  a_bare = go (not (eqb u.pid e.pid) && less_millis e.delay (add_millis u.delay min_delay))
    where
      go : (b : Bool) → cond b (end (bare e)) (on (bare e)) ≡ bare_stage (cond b (end e) (on e))
      go true = refl
      go false = refl

  b_bare : line_b u (bare e) ≡ bare_stage (line_b u e)
  unfolding line_b
  b_bare = go (up e) (less_millis u.delay max_delay) (less_millis u.delay max_delay && eqb e.ttl.0 0)
    where
      go : (b c d : Bool) → cond b (cond c (on (bare e)) (end (taken_down (bare e)))) (cond d (on (bare e)) (end (bare e)))
          ≡ bare_stage (cond b (cond c (on e) (end (taken_down e))) (cond d (on e) (end e)))
      go true true d = refl
      go true false d = refl
      go false c true = refl
      go false c false = refl

  c_bare : line_c u (bare e) ≡ bare_stage (line_c u e)
  unfolding line_c
  c_bare = refl

lines_bare : (u : Update) (e : Entry) → lines u (bare e) ≡ bare_stage (lines u e)
unfolding lines
lines_bare u e =
    ap (λ (q : Stage Entry). q then line_b u then line_c u) (a_bare u e)
    ∙ ap (λ (q : Stage Entry). q then line_c u) (then_bare (line_a u e) (line_b u) (b_bare u))
    ∙ then_bare (line_a u e then line_b u) (line_c u) (c_bare u)

self_bare : (t : Millis) (e : Entry) → self_reported t (bare e) ≡ bare (self_reported t e)
unfolding self_reported
self_bare t e = ap left (lines_bare (own_update t) e) ∙ go (lines (own_update t) e)
  where
    go : (q : Stage Entry) → left (bare_stage q) ≡ bare (left q)
    go (on e) = refl
    go (end e) = refl

aged_bare : (e : Entry) → aged (bare e) ≡ bare (aged e)
unfolding aged
aged_bare e = go (eqb e.ttl.0 0) (eqb (fall_seconds e.ttl).0 0 && up e)
  where
    go : (b c : Bool) → cond b (bare e) (cond c (taken_down (bare e)) (with_ttl (fall_seconds e.ttl) (bare e)))
        ≡ bare (cond b e (cond c (taken_down e) (with_ttl (fall_seconds e.ttl) e)))
    go true c = refl
    go false true = refl
    go false false = refl

-- ---- an arrival's updates

abbrev bare_updated : Updated → Updated
bare_updated v = record { clock = v.clock; entry = bare v.entry }

abbrev bare_swept : Swept → Swept
bare_swept v = record { clock = v.clock; own_entries = map bare v.own_entries }

update_bare : (clock_host_of : Bool) (h : Seconds) (n : Count) (date : Date) (u : Update) (c : Clock) (e : Entry)
    → update clock_host_of h n date u c (bare e) ≡ bare_updated (update clock_host_of h n date u c e)
unfolding update
update_bare clock_host_of h n date u c e = ap (settled clock_host_of h n date u c) (lines_bare u e) ∙ go (lines u e)
  where
    go : (q : Stage Entry) → settled clock_host_of h n date u c (bare_stage q) ≡ bare_updated (settled clock_host_of h n date u c q)
    go (on e) = refl
    go (end e) = refl

sweep_bare : (f : ℕ → Clock → Entry → Updated) → ((i : ℕ) (c : Clock) (e : Entry) → f i c (bare e) ≡ bare_updated (f i c e))
    → (i : ℕ) (c : Clock) (es : List Entry) → sweep i f c (map bare es) ≡ bare_swept (sweep i f c es)
unfolding sweep
sweep_bare f same i c [] = refl
sweep_bare f same i c (e ∷ es) =
    ap (λ (v : Updated). record { clock = (sweep (suc i) f v.clock (map bare es)).clock; own_entries = v.entry ∷ (sweep (suc i) f v.clock (map bare es)).own_entries }) (same i c e)
    ∙ ap (λ (v : Swept). record { clock = v.clock; own_entries = bare (f i c e).entry ∷ v.own_entries }) (sweep_bare f same (suc i) (f i c e).clock es)

updates_bare : (w : Updates) (packet : List ℕ) (es : List Entry) → updates w packet (map bare es) ≡ bare_swept (updates w packet es)
unfolding updates
updates_bare w packet es =
    ap (λ (l : List Entry). behind (map bare es) (sweep w.first (updated_at w packet) w.clock l)) (sym (map_part bare w.first (w.end - w.first) es))
    ∙ ap (behind (map bare es)) (sweep_bare (updated_at w packet) (λ i c e. update_bare _ _ _ _ _ c e) w.first w.clock (part w.first (w.end - w.first) es))
    ∙ ap (λ (l : List Entry). record { clock = (sweep w.first (updated_at w packet) w.clock (part w.first (w.end - w.first) es)).clock; own_entries = l }) (sym (map_over bare es w.first _))
  where
    behind : List Entry → Swept → Swept
    behind l v = record { clock = v.clock; own_entries = over l w.first v.own_entries }

-- ---- changes, except one that reports

abbrev bare_change : Change → Change
bare_change Fresh = Fresh
bare_change Aged = Aged
bare_change (Reported t) = Reported t
bare_change (Put e) = Put (bare e)

abbrev bare_task : Changes → Changes
bare_task w = record { first = w.first; end = w.end; change = bare_change w.change; marks = w.marks }

abbrev NoReport : Change → Type 0
NoReport Fresh = Unit {0}
NoReport Aged = Unit {0}
NoReport (Reported t) = ⊥
NoReport (Put e) = Unit {0}

changed_bare : (m : Marks) (change : Change) → NoReport change → (n : ℕ) (e : Entry) → bare (changed m change n e) ≡ bare (changed m (bare_change change) n (bare e))
changed_bare m Fresh plain n e = refl
changed_bare m Aged plain n e = ap bare (sym (aged_bare e))
changed_bare m (Reported t) plain n e = absurd plain
changed_bare m (Put x) plain n e = refl

all_bare : (m : Marks) (change : Change) → NoReport change → (i : ℕ) (es : List Entry)
    → map bare (map_from i (changed m change) es) ≡ map bare (map_from i (changed m (bare_change change)) (map bare es))
all_bare m change plain i [] = refl
all_bare m change plain i (e ∷ es) = λ j. changed_bare m change plain i e j ∷ all_bare m change plain (suc i) es j

changes_bare : (w : Changes) → NoReport w.change → (es : List Entry) → map bare (changes w es) ≡ map bare (changes (bare_task w) (map bare es))
unfolding changes
changes_bare w plain es =
    map_over bare es w.first _
    ∙ ap (over (map bare es) w.first) (all_bare w.marks w.change plain 0 (part w.first (w.end - w.first) es))
    ∙ ap (λ (l : List Entry). over (map bare es) w.first (map bare (map_from 0 (changed w.marks (bare_change w.change)) l))) (map_part bare w.first (w.end - w.first) es)
    ∙ ap (λ (l : List Entry). over l w.first (map bare (map_from 0 (changed w.marks (bare_change w.change)) (part w.first (w.end - w.first) (map bare es))))) (sym (bare_twice es))
    ∙ sym (map_over bare (map bare es) w.first _)

-- ---- the boxes of a walk

abbrev bare_step : Effect → Effect
bare_step y = record { reply = y.reply; clock = y.clock; links = y.links; walk = y.walk; work = bare_task y.work }

-- what a box makes of a bare entry, beside what it makes of a marked one: the same without marks, and no report
record Twins (y y' : Effect) : Type 0 where
  same : y ≡ bare_step y'
  plain : NoReport y'.work.change

twins : {y : Effect} → NoReport y.work.change → Twins (bare_step y) y
twins plain = record { same = refl; plain = plain }

cond_bare : (b : Bool) (x x' y y' : Effect) → Twins x x' → Twins y y' → Twins (cond b x y) (cond b x' y')
cond_bare true x x' y y' t u = t
cond_bare false x x' y y' t u = u

module _ (k : Counter) (p : Packet) (octets : List ℕ) (t : NetTable) (h : Host) (w : Walk) where
  next_bare : (g : Host) (now : Changes) → NoReport now.change → Twins (next_id p g w (bare_task now)) (next_id p g w now)
  next_bare g now plain = cond_bare (eqb p.nhosts 0 || not (ltb (w.id + 1) (host_count g.settings))) _ _ _ _ (twins plain) (twins plain)

  at_a : (q : Stage Entry) → Twins (after_a p h w (bare_stage q)) (after_a p h w q)
  at_a (end e) = next_bare h nothing tt
  at_a (on e) = twins tt

  at_b : (q : Stage Entry) → Twins (after_b p h w (bare_stage q)) (after_b p h w q)
  at_b (end e) = next_bare h (put w e) tt
  at_b (on e) = twins tt

  at_c : (q : Stage Entry) → Twins (after_c p h w (bare_stage q)) (after_c p h w q)
  at_c (end e) = next_bare h (put w e) tt
  at_c (on e) = cond_bare (is_clock_host h w) _ _ _ _ (twins tt) (next_bare h (put w e) tt)

  at_4 : (g : Stage Flight) → Twins (fourth h w g) (fourth h w g)
  at_4 (end f) = twins tt
  at_4 (on f) = twins tt

  at_5 : (f : Option ℕ) → Twins (to_neighbor h (raised w) f) (to_neighbor h (raised w) f)
  at_5 None = twins tt
  at_5 (Some id) = twins tt

  box_bare : (e : Entry) (q : Option Place) → Twins (box_at q k p octets t h w (bare e)) (box_at q k p octets t h w e)
  unfolding box1 box2 box3 box4 box5 box_a box_b box_c box_d
  box_bare e None = twins tt
  box_bare e (Some Step1) = twins tt
  box_bare e (Some Step2) = twins tt
  box_bare e (Some Step3) = twins tt
  box_bare e (Some Step4) = at_4 (step4 (broadcast h.settings w.link) h.clock.hold p (in_flight h.links w))
  box_bare e (Some Step5) = cond_bare (eqb p.nhosts 0) _ _ _ _ (at_5 (found_for t h.settings (link_of h.links w.link).neighbor)) (twins tt)
  box_bare e (Some LineA) = rw (a_bare (line_update w p octets) e) (at_a (line_a (line_update w p octets) e))
  box_bare e (Some LineB) = rw (b_bare (line_update w p octets) e) (at_b (line_b (line_update w p octets) e))
  box_bare e (Some LineC) = rw (c_bare (line_update w p octets) e) (at_c (line_c (line_update w p octets) e))
  box_bare e (Some LineD) = next_bare (host h.settings (clock_set p octets h w) h.links) nothing tt

step_bare : (k : Counter) (t : NetTable) (h : Host) (w : Walk) (copy : List ℕ) (e : Entry) → Twins (step k t h w copy (bare e)) (step k t h w copy e)
unfolding step
step_bare k t h w copy e = cond_bare (not (is_open w)) _ _ _ _ (twins tt) (go (inspect h.settings w.link (packet_of w copy)))
  where
    go : (q : Result Packet Answer) → Twins (box_of k (packet_of w copy) t h w (bare e) q) (box_of k (packet_of w copy) t h w e q)
    go (Err a) = twins tt
    go (Ok p) = box_bare k p (packet_of w copy) t h w e (place_of w)

-- ---- a send

written_bare : (s : Sending) (es : List Entry) (buffer : List ℕ) → written s (map bare es) buffer ≡ written s es buffer
unfolding advertised
written_bare s es buffer =
    ap (λ (l : List Report). with_message s.message l s.reply.length buffer)
    (ap (map (advertised s.work.pid)) (sym (map_part bare s.work.first (s.work.end - s.work.first) es))
    ∙ go (part s.work.first (s.work.end - s.work.first) es))
  where
    go : (l : List Entry) → map (advertised s.work.pid) (map bare l) ≡ map (advertised s.work.pid) l
    go [] = refl
    go (e ∷ l) = ap (λ (m : List Report). advertised s.work.pid e ∷ m) (go l)

-- ---- the entries of a host in the host table

-- an outcome with another host table
abbrev bare_run : Outcome → List Entry → Outcome
bare_run o entries = record { reply = o.reply; clock = o.clock; links = o.links; walk = o.walk; copy = o.copy; entries = entries; buffer = o.buffer }

module _ (x : CallState) where
  abbrev s : Settings
  s = x.host.settings

  abbrev es : List Entry
  es = entries_of x

  entries_bare : entries_of (bare_state x) ≡ map bare (entries_of x)
  unfolding own_entries
  entries_bare = sym (map_part bare (first_place x.number) (host_count s) x.entries)

  found_bare : (f : Option ℕ) → entry_at f (bare_state x) ≡ bare (entry_at f x)
  found_bare None = sym bare_fresh
  found_bare (Some id) = rw entries_bare (get_bare (entries_of x) id)

  run_bare : (l : List Entry) → map bare (with_entries x.number l x.entries) ≡ map bare (with_entries x.number (map bare l) (map bare x.entries))
  unfolding with_entries
  run_bare l =
      map_over bare x.entries (first_place x.number) l
      ∙ (λ j. over (sym (bare_twice x.entries) j) (first_place x.number) (sym (bare_twice l) j))
      ∙ sym (map_over bare (map bare x.entries) (first_place x.number) (map bare l))

  -- entries that are bare when they are written, or afterwards
  run_again : (l : List Entry) → map bare (with_entries x.number (map bare l) (map bare x.entries)) ≡ map bare (with_entries x.number l (map bare x.entries))
  unfolding with_entries
  run_again l =
      map_over bare (map bare x.entries) (first_place x.number) (map bare l)
      ∙ ap (over (map bare (map bare x.entries)) (first_place x.number)) (bare_twice l)
      ∙ sym (map_over bare (map bare x.entries) (first_place x.number) l)

  -- ---- the guard

  guard_bare : (a : Scope) → guard_unmarked a x ≡ guard_unmarked a (bare_state x)
  unfolding no_places
  guard_bare Places = rw (length-map x.entries bare) refl
  guard_bare All = rw (length-map x.entries bare, entries_bare, range_bare es) refl
  guard_bare Walking = rw (length-map x.entries bare, entries_bare, range_bare es) refl
  guard_bare (OnLink i) = rw (length-map x.entries bare, entries_bare, range_bare es) refl
  guard_bare (Opening i) = rw (length-map x.entries bare, entries_bare, range_bare es) refl

  -- ---- the work

  carried_bare : (y : Effect) → NoReport y.work.change → bare_outcome (carried_out y x) ≡ bare_outcome (carried_out (bare_step y) (bare_state x))
  carried_bare y plain =
      ap (λ (entries : List Entry). record { reply = y.reply; clock = y.clock; links = y.links; walk = y.walk; copy = x.copy; entries = entries; buffer = [] })
      (run_bare (changes y.work es)
      ∙ ap (λ (l : List Entry). map bare (with_entries x.number l (map bare x.entries))) (changes_bare y.work plain es)
      ∙ run_again (changes (bare_task y.work) (map bare es))
      ∙ ap (λ (l : List Entry). map bare (with_entries x.number (changes (bare_task y.work) l) (map bare x.entries))) (sym entries_bare))

  own_bare : (t : Millis) (f : Option ℕ) → bare_task (own_work t f x) ≡ own_work t f (bare_state x)
  own_bare t None = refl
  own_bare t (Some id) = ap (λ (e : Entry). one id (Put e)) (sym (ap (self_reported t) (found_bare (Some id)) ∙ self_bare t (entry_at (Some id) x)))

  own_plain : (t : Millis) (f : Option ℕ) → NoReport (own_work t f x).change
  own_plain t None = tt
  own_plain t (Some id) = tt

  looked_bare : (f : Option ℕ) (e : Entry) → looked f e ≡ looked f (bare e)
  looked_bare None e = refl
  looked_bare (Some id) e = refl

  arrived_bare : (a : Arrived) (octets : List ℕ) → bare_outcome (updated_by a octets x) ≡ bare_outcome (updated_by a octets (bare_state x))
  arrived_bare a octets =
      let was : bare_swept (updates a.work octets es) ≡ updates a.work octets (entries_of (bare_state x)) =
      sym (ap (updates a.work octets) entries_bare ∙ updates_bare a.work octets es) in
      ap (λ (entries : List Entry). record { reply = a.reply; clock = (updates a.work octets es).clock; links = a.links; walk = x.walk; copy = x.copy; entries = entries; buffer = [] })
      (run_bare (updates a.work octets es).own_entries)
      ∙ ap (λ (v : Swept). record { reply = a.reply; clock = v.clock; links = a.links; walk = x.walk; copy = x.copy; entries = map bare (with_entries x.number v.own_entries (map bare x.entries)); buffer = [] }) was

  work_bare : (c : Call) → bare_outcome (work_unmarked c x) ≡ bare_outcome (work_unmarked c (bare_state x))
  unfolding initialize tick adjust set_by read second lookup
  work_bare (ask Initialize) = carried_bare _ tt
  work_bare (ask (Tick n)) = carried_bare _ tt
  work_bare (ask (Adjust n)) = carried_bare _ tt
  work_bare (ask (Set ms n)) = carried_bare _ tt
  work_bare (ask (Read k)) = carried_bare _ tt
  work_bare (ask Second) = carried_bare _ tt
  work_bare (ask (SelfReport k)) =
      let r : Reading = our_reading k x.host in
      carried_bare (own_report k x) (own_plain r.time (own_id s))
      ∙ ap (λ (w : Changes). bare_outcome (carried_out record { reply = plainly Done; clock = r.clock; links = x.host.links; walk = x.walk; work = w } (bare_state x))) (own_bare r.time (own_id s))
  work_bare (ask (Lookup a)) =
      let e = entry_at (found_for x.nets s a) x in
      carried_bare (lookup a x.nets x.host x.walk e) tt
      ∙ ap (λ (r : Reply). bare_outcome (carried_out (answers r x.host.clock x.host.links x.walk) (bare_state x)))
      (looked_bare (found_for x.nets s a) e ∙ ap (looked (found_for x.nets s a)) (sym (found_bare (found_for x.nets s a))))
  work_bare (ask (Step k)) =
      let e = entry_at (at_hand x.walk) x in
      let t = step_bare k x.nets x.host x.walk x.copy e in
      carried_bare (step k x.nets x.host x.walk x.copy e) t.plain
      ∙ ap (λ (y : Effect). bare_outcome (carried_out y (bare_state x))) (sym t.same ∙ ap (step k x.nets x.host x.walk x.copy) (sym (found_bare (at_hand x.walk))))
  work_bare (send i k buffer) =
      let y = send_in i k (length buffer) x.host in
      (λ j. record {
        reply = y.reply;
        clock = y.clock;
        links = y.links;
        walk = x.walk;
        copy = x.copy;
        entries = sym (bare_twice x.entries) j;
        buffer = (sym (written_bare y es buffer) ∙ ap (λ (l : List Entry). written y l buffer) (sym entries_bare)) j;
      })
  work_bare (deliver d packet) = arrived_bare (delivered d packet x.nets x.host) packet
  work_bare (open_walk i packet) = λ j. bare_run (work (open_walk i packet) x) (sym (bare_twice x.entries) j)

-- ---- the call

pub calls_bare : (c : Call) (x : CallState) → bare_outcome (perform_unmarked c x) ≡ bare_outcome (perform_unmarked c (bare_state x))
calls_bare c x =
    go (not (done (guard_unmarked (scope_of_call c) x)))
    ∙ ap (λ (a : Answer). bare_outcome (cond (not (done a)) (refused a c (bare_state x)) (work_unmarked c (bare_state x)))) (guard_bare x (scope_of_call c))
  where
    a : Answer
    a = guard_unmarked (scope_of_call c) x

    go : (b : Bool) → bare_outcome (cond b (refused a c x) (work_unmarked c x)) ≡ bare_outcome (cond b (refused a c (bare_state x)) (work_unmarked c (bare_state x)))
    go true = λ j. bare_run (refused a c x) (sym (bare_twice x.entries) j)
    go false = work_bare x c
