-- A walk that is run to its end leaves what the action leaves: the five steps, then the lines.
use Rattle.std.specs.Prelude.{Option, Some, None}
use mathlib.Core.Path.{◌≡◌, refl, sym, ap, ◌∙◌}
use mathlib.Core.Bool.{Bool, true, false, cond, not}
use mathlib.Core.List.{List, [], ◌∷◌, ◌++◌, append_assoc, append-nil}
use Prim.Native.Nat.{ℕ, suc, ◌+◌, ◌*◌, ◌-◌, ◌≤◌, ◌<◌, ◌^◌}
use native.Mathlib.Omega.{arith}
use lib.Dec.{eqb}
use lib.IntN.{pos}
use lib.ListN.{length, get_or, take, drop}
use lib.Seq.{get_or-set_same, set-set, split_at, drop-cons, take-length, drop-length, length-take-le}
use Rattle.lists.specs.Lists.{over}
use Rattle.lists.proofs.Tests.{either}
use Rattle.quantity.specs.declared.Millis.{Millis}
use Rattle.quantity.specs.declared.Word.{Word}
use Rattle.quantity.specs.Quantity.{millis, sub_millis, less_millis}
use Rattle.quantity.specs.Words.{word, to_word, of_word}
use Rattle.quantity.proofs.Ints.{up, dn}
use Rattle.quantity.proofs.Wrap.{wrap_fits, wrap_range}
use Rattle.answer.specs.declared.Answer.TheVariants.{Done, DelayNotValid, NoHost}
use Rattle.clock.specs.declared.Clock.{Clock}
use Rattle.clock.specs.declared.Counter.{Counter}
use Rattle.clock.specs.declared.Reading.{Reading}
use Rattle.clock.specs.Clock.{count_used}
use Rattle.wire.specs.declared.Packet.{Packet}
use Rattle.wire.specs.declared.Address.{Address}
use Rattle.wire.specs.declared.Report.{Report}
use Rattle.wire.specs.Hello.{report_at}
use Rattle.wire.specs.Packet.{hello_of}
use Rattle.net_table.specs.declared.NetTable.{NetTable}
use Rattle.table.specs.declared.Entry.{Entry}
use Rattle.table.specs.declared.Update.{Update}
use Rattle.table.specs.declared.entries.Changes.{Changes}
use Rattle.table.specs.declared.entries.Updates.{Updates}
use Rattle.table.specs.Forms.{Stage, on, end}
use Rattle.table.specs.Entry.{min_delay, fresh_entry}
use Rattle.table.specs.Update.{plus_report, update}
use Rattle.table.specs.Runs.{changes, update_at, updated_at, updates}
use Rattle.table.specs.Sweep.{sweep}
use Rattle.table.proofs.Sweeps.{sweep_from, sweep_length}
use Rattle.host.specs.declared.Links.{Links}
use Rattle.host.specs.declared.Link.{Link}
use Rattle.host.specs.declared.Settings.{Settings}
use Rattle.host.specs.declared.walk.Walk.{Walk}
use Rattle.host.specs.Settings.{found_for}
use Rattle.host.specs.State.{host_count, broadcast, link_of, with_link}
use Rattle.host.specs.declared.Host.{Host}
use Rattle.host.specs.CallState.{host, our_reading}
use Rattle.host.specs.Reply.{plainly}
use Rattle.host.specs.Walk.{place_of, walk_update, line_update}
use Rattle.host.specs.Effect.{nothing}
use Rattle.arrival.specs.declared.Flight.{Flight}
use Rattle.arrival.specs.declared.Arrived.{Arrived}
use Rattle.arrival.specs.Steps.{step2, step3, step4, measured, steps2to4, delay_of, new_neighbor, at_least_min, neighbor_update}
use Rattle.arrival.specs.Arrival.{ends, updated, no_table, with_table, step5, concluded, action}
use Rattle.arrival.proofs.Flights.{steps_cases}
use Rattle.walk.specs.Boxes.{in_flight, fourth, raised, at_line, onward, next_id, to_neighbor, box1, box2, box3, box4, box5}
use Rattle.walk.specs.Opening.{opened_on}
use Rattle.walk.proofs.Walked as lines
use Rattle.walk.proofs.Walked.{Handed, Node, Final, node, final, nothing_changes, go_on, walk_from, box_is}

-- ---- a DELAY that fits its 16 bits comes back

pub record Fits16 (m : Millis) : Type 0 where
  pub above : up m.0 < 2 ^ 15
  pub below : dn m.0 ≤ 2 ^ 15

pub word_back : (m : Millis) → Fits16 m → of_word (to_word m) ≡ m
word_back m f = ap millis (wrap_fits 16 (omega arith) m.0 f.above f.below)

measured_fits : (b : Bool) (p : Packet) (r : Millis) (x : Link) → Fits16 (measured b p r x).delay
unfolding step3 step2
measured_fits b p r x =
    either Fits16 b (millis (pos 0)) (delay_of r p.tsp) (λ _. record { above = omega arith; below = omega arith })
    (λ _. (let w = wrap_range 16 (omega arith) (sub_millis r (of_word p.tsp)).0 in record { above = w.0; below = w.1 }))

pub raised_fits : (m : Millis) → Fits16 m → Fits16 (at_least_min m)
raised_fits m f = either Fits16 (less_millis m min_delay) min_delay m (λ _. record { above = omega arith; below = omega arith }) (λ _. f)

-- ---- all of a list written over

over_all : {A : Type 0} (b x : List A) → length x ≡ length b → over b 0 x ≡ x
over_all b x e = let z : 0 + length x ≡ length b = omega (arith, e) in rw (z, drop-length b) (append-nil x)

-- ---- the link of the walk, in the links

module _ (i : ℕ) (l : Links) (slot : i - 1 < length l.all) where
  pub link_back : (y : Link) → link_of (with_link i y l) i ≡ y
  link_back y = get_or-set_same l.all (i - 1) y _ slot

  pub link_twice : (y z : Link) → with_link i z (with_link i y l) ≡ with_link i z l
  link_twice y z = ap (λ (a : List Link). record { all = a }) (set-set l.all (i - 1) y z)

-- ---- the five steps

module _ (s : Settings) (i : ℕ) (p : Packet) (octets : List ℕ) (m : ℕ) (c : Clock) (l : Links) (slot : i - 1 < length l.all) (k : Counter) (nets : NetTable) (es : List Entry) where
  abbrev r : Reading
  r = our_reading k (host s c l)

  abbrev b : Bool
  b = broadcast s i

  abbrev flight : Flight
  flight = measured b p r.time (link_of l i)

  -- what the walk holds behind a step
  abbrev held : (step : ℕ) → (delay offset : Word) → Walk
  held n d o =
      record { opened = 1; link = i; step = n; line = 0; id = 0; length = m; count = count_used k; reading = r.time; delay = d; offset = o }

  abbrev walks : ℕ → (ℕ → Handed) → Node → Final
  walks = walk_from s p octets

  abbrev none : Word
  none = word (pos 0)

  first : (n : ℕ) (ks : ℕ → Handed) → (ks 0).counter ≡ k
      → walks (suc n) ks (node c l (opened_on i m) es) ≡ walks n (λ j. ks (suc j)) (node r.clock l (held 2 none none) es)
  unfolding place_of box1
  first n ks is =
      box_is s p octets n ks (node c l (opened_on i m) es) ∙ rw is (ap (λ (x : List Entry). walks n (λ j. ks (suc j)) (node r.clock l (held 2 none none) x)) (nothing_changes es))

  abbrev alive : Flight
  alive = step2 record { reading = r.time; link = link_of l i; delay = millis (pos 0); offset = none }

  abbrev l₂ : Links
  l₂ = with_link i alive.link l

  second : (n : ℕ) (ks : ℕ → Handed)
      → walks (suc n) ks (node r.clock l (held 2 none none) es) ≡ walks n (λ j. ks (suc j)) (node r.clock l₂ (held 3 none none) es)
  unfolding place_of box2
  second n ks =
      box_is s p octets n ks (node r.clock l (held 2 none none) es)
      ∙ ap (λ (x : List Entry). walks n (λ j. ks (suc j)) (node r.clock l₂ (held 3 none none) x)) (nothing_changes es)

  third : (n : ℕ) (ks : ℕ → Handed)
      → walks (suc n) ks (node r.clock l₂ (held 3 none none) es)
      ≡ walks n (λ j. ks (suc j)) (node r.clock (with_link i flight.link l) (held 4 (to_word flight.delay) flight.offset) es)
  unfolding place_of box3 step2
  third n ks =
      box_is s p octets n ks (node r.clock l₂ (held 3 none none) es)
      ∙ rw (link_back i l slot alive.link, link_twice i l slot alive.link flight.link, nothing_changes es) refl

  abbrev l₃ : Links
  l₃ = with_link i flight.link l

  abbrev w₃ : Walk
  w₃ = held 4 (to_word flight.delay) flight.offset

  in_flight_lem : in_flight l₃ w₃ ≡ flight
  unfolding step3 step2
  in_flight_lem = rw (link_back i l slot flight.link, word_back flight.delay (measured_fits b p r.time (link_of l i))) refl

  four : (n : ℕ) (ks : ℕ → Handed)
      → walks (suc n) ks (node r.clock l₃ w₃ es)
      ≡ go_on s p octets (walks n (λ j. ks (suc j))) (fourth (host s r.clock l₃) w₃ (steps2to4 b r.clock.hold p r.time (link_of l i))) es
  unfolding place_of box4 steps2to4
  four n ks =
      box_is s p octets n ks (node r.clock l₃ w₃ es)
      ∙ ap (λ (f : Flight). go_on s p octets (walks n (λ j. ks (suc j))) (fourth (host s r.clock l₃) w₃ (step4 b r.clock.hold p f)) es) in_flight_lem

  -- ---- what the action leaves
  abbrev leaves : Arrived → Final
  leaves a = final a.reply (updates a.work octets es).clock a.links (updates a.work octets es).own_entries

  no_updates_lem : (a : Arrived) → a.work.first ≡ 0 → a.work.end ≡ 0 → leaves a ≡ final a.reply a.work.clock a.links es
  unfolding updates sweep
  no_updates_lem a f e = rw (f, e) refl

  abbrev H : Flight → Host
  H f = host s r.clock (with_link i f.link l)

  ends_so : (W : Node → Final) (f : Flight)
      → go_on s p octets W (fourth (host s r.clock l₃) w₃ (end f)) es ≡ leaves (concluded nets (host s r.clock l) i (count_used k) p (end f))
  ends_so W f = rw (link_twice i l slot flight.link f.link, nothing_changes es) (sym (no_updates_lem (ends DelayNotValid (H f)) refl refl))

  module _ (f : Flight) (fits : Fits16 f.delay) (is : f.reading ≡ r.time) (whole : length es ≡ host_count s) where
    abbrev l₄ : Links
    l₄ = with_link i f.link l

    abbrev w₄ : Walk
    w₄ = held 5 (to_word f.delay) f.offset

    abbrev w₅ : Walk
    w₅ = raised w₄

    -- the updates of step 5 are those of the lines
    abbrev work : (id ids : ℕ) → Bool → Updates
    work id ids table = (updated (H f) (count_used k) p (neighbor_update i f) id ids table).work

    held_so : walk_update w₅ ≡ neighbor_update i f
    held_so =
        ap (λ (d : Millis). record { pid = i; delay = d; offset = f.offset; reading = r.time })
        (ap (λ (d : Millis). of_word (to_word (at_least_min d))) (word_back f.delay fits) ∙ word_back (at_least_min f.delay) (raised_fits f.delay fits))
        ∙ ap (λ (m : Millis). record { pid = i; delay = at_least_min f.delay; offset = f.offset; reading = m }) (sym is)

    abbrev report : ℕ → Report
    report j = report_at (hello_of octets) j

    update_so : (id ids : ℕ) (table : Bool) → eqb p.nhosts 0 ≡ not table → (j : ℕ) → update_at (work id ids table) j octets ≡ line_update (at_line 1 j w₅) p octets
    update_so id ids true t j = rw t (ap (λ (v : Update). plus_report v (report j)) (sym held_so))
    update_so id ids false t j = rw t (sym held_so)

    alike : (id ids : ℕ) (table : Bool) → eqb p.nhosts 0 ≡ not table → (j : ℕ) (d : Clock) (e : Entry)
        → updated_at (work id ids table) octets j d e ≡ lines.updated s p octets w₅ refl l₄ j d e
    alike id ids table t j d e =
        let z : j - 0 ≡ j = omega arith in
        rw z (ap (λ (v : Update). update (eqb j s.clock_host) s.hold_interval (count_used k) p.date v d e) (update_so id ids table t j))

    -- what the updates of one id leave
    one_updated : (id : ℕ) → id < length es → eqb p.nhosts 0 ≡ true
        → leaves (no_table (H f) i (count_used k) p f (Some id))
        ≡ final (plainly Done) (lines.updated s p octets w₅ refl l₄ id r.clock (get_or es id fresh_entry)).clock l₄
        (take id es ++ (lines.updated s p octets w₅ refl l₄ id r.clock (get_or es id fresh_entry)).entry ∷ drop (suc id) es)
    unfolding updates sweep
    one_updated id h t =
        let one : id + 1 - id ≡ 1 = omega arith in
        let next : id + 1 ≡ suc id = omega arith in
        rw (one, drop-cons es id fresh_entry h, alike id 1 false t id r.clock (get_or es id fresh_entry), next)
        (ap (final (plainly Done) (lines.updated s p octets w₅ refl l₄ id r.clock (get_or es id fresh_entry)).clock l₄)
        (append_assoc (take id es) ((lines.updated s p octets w₅ refl l₄ id r.clock (get_or es id fresh_entry)).entry ∷ []) (drop (suc id) es)))

    ends_there : (W : Node → Final) → eqb p.nhosts 0 ≡ true → (d : Clock) (m₁ id : ℕ) (work₁ : Changes) (es₀ es₁ : List Entry) → changes work₁ es₀ ≡ es₁
        → go_on s p octets W (next_id p (host s d l₄) (at_line m₁ id w₅) work₁) es₀ ≡ final (plainly Done) d l₄ es₁
    ends_there W t d m₁ id work₁ es₀ es₁ is₁ = rw (t, is₁) refl

    -- no table: the one id
    neighbor : (n : ℕ) (ks : ℕ → Handed) → 4 ≤ n → eqb p.nhosts 0 ≡ true → (g : Option ℕ) → ((id : ℕ) → g ≡ Some id → id < host_count s)
        → go_on s p octets (walks n ks) (to_neighbor (host s r.clock l₄) w₅ g) es ≡ leaves (no_table (H f) i (count_used k) p f g)
    neighbor n ks room t None below = rw (nothing_changes es) (sym (no_updates_lem (ends NoHost (H f)) refl refl))
    neighbor n ks room t (Some id) below =
        let h : id < length es = omega (arith, below id refl, whole) in
        let four : n ≡ suc (suc (suc (suc (n - 4)))) = omega arith in
        rw (nothing_changes es)
        (ap (λ (x : List Entry). walks n ks (node r.clock l₄ (at_line 1 id w₅) x)) (split_at es id fresh_entry h)
        ∙ rw four
        (lines.id_boxes s p octets w₅ refl l₄ id (λ (y : Final). y ≡ leaves (no_table (H f) i (count_used k) p f (Some id))) (n - 4) r.clock (take id es) (get_or es id fresh_entry) (drop (suc id) es)
        (length-take-le id es (omega arith)) ks (λ n₁ _ ks₁ m₁ work₁ es₀ is₁. ends_there (walks n₁ ks₁) t _ m₁ id work₁ es₀ _ is₁ ∙ sym (one_updated id h t))))

    -- what the updates of all ids leave
    all_updated : (t : eqb p.nhosts 0 ≡ false) (es₁ : List Entry) → es ≡ es₁
        → leaves (with_table (H f) i (count_used k) p f)
        ≡ final (plainly Done) (lines.swept s p octets w₅ refl l₄ t 0 r.clock es₁).clock l₄ (lines.swept s p octets w₅ refl l₄ t 0 r.clock es₁).own_entries
    unfolding updates
    all_updated t es₁ split =
        let w : Updates = work 0 (host_count s) true in
        let n : 0 + host_count s - 0 ≡ length es = omega (arith, whole) in
        let same : sweep 0 (updated_at w octets) r.clock es ≡ lines.swept s p octets w₅ refl l₄ t 0 r.clock es = sweep_from 0 (updated_at w octets) (lines.updating s p octets w₅ refl l₄ t) (λ j d e. (let z : 0 + j ≡ j = omega arith in rw z (alike 0 (host_count s) true t j d e))) 0 r.clock es in
        rw (n, take-length es, same)
        (ap (final (plainly Done) (lines.swept s p octets w₅ refl l₄ t 0 r.clock es).clock l₄)
        (over_all es (lines.swept s p octets w₅ refl l₄ t 0 r.clock es).own_entries (sweep_length 0 (lines.updating s p octets w₅ refl l₄ t) r.clock es)))
        ∙ ap (λ (x : List Entry). final (plainly Done) (lines.swept s p octets w₅ refl l₄ t 0 r.clock x).clock l₄ (lines.swept s p octets w₅ refl l₄ t 0 r.clock x).own_entries) split

    -- a table: all ids
    table : (n : ℕ) (ks : ℕ → Handed) → 4 * host_count s ≤ n → 1 ≤ host_count s → eqb p.nhosts 0 ≡ false
        → walks n ks (node r.clock l₄ (at_line 1 0 w₅) es) ≡ leaves (with_table (H f) i (count_used k) p f)
    table n ks room some t =
        let h : 0 < length es = omega (arith, some, whole) in
        let split : es ≡ get_or es 0 fresh_entry ∷ drop 1 es = split_at es 0 fresh_entry h in
        let long : host_count s ≡ 0 + 1 + length (drop 1 es) = sym whole ∙ ap (λ (x : List Entry). length x) split ∙ omega arith in
        ap (λ (x : List Entry). walks n ks (node r.clock l₄ (at_line 1 0 w₅) x)) split
        ∙ lines.ids_boxes s p octets w₅ refl l₄ t (drop 1 es) [] (get_or es 0 fresh_entry) 0 r.clock n ks refl long (omega (arith, room, long))
        ∙ sym (all_updated t (get_or es 0 fresh_entry ∷ drop 1 es) split)

    fifth : (n : ℕ) (ks : ℕ → Handed) → (ks 0).nets ≡ nets → 1 + 4 * host_count s ≤ n → 1 ≤ host_count s → ((id : ℕ) → found_for nets s f.link.neighbor ≡ Some id → id < host_count s)
        → walks n ks (node r.clock l₄ w₄ es) ≡ leaves (step5 nets (H f) i (count_used k) p f)
    unfolding place_of box5
    fifth n ks table_is room some below =
        let more : n ≡ suc (n - 1) = omega arith in
        rw more
        (box_is s p octets (n - 1) ks (node r.clock l₄ w₄ es)
        ∙ rw (link_back i l slot f.link, table_is) (go (eqb p.nhosts 0) refl))
      where
        later : ℕ → Handed
        later j = ks (suc j)

        go : (a : Bool) → eqb p.nhosts 0 ≡ a
            → go_on s p octets (walks (n - 1) later) (cond a (to_neighbor (host s r.clock l₄) w₅ (found_for nets s f.link.neighbor)) (onward (at_line 1 0 w₅) r.clock l₄ nothing)) es
            ≡ leaves (cond a (no_table (H f) i (count_used k) p f (found_for nets s f.link.neighbor)) (with_table (H f) i (count_used k) p f))
        go true t = neighbor (n - 1) later (omega arith) t (found_for nets s f.link.neighbor) below
        go false t = rw (nothing_changes es) (table (n - 1) later (omega arith) some t)

    goes_on : (n : ℕ) (ks : ℕ → Handed) → (ks 0).nets ≡ nets → 1 + 4 * host_count s ≤ n → 1 ≤ host_count s → ((id : ℕ) → found_for nets s f.link.neighbor ≡ Some id → id < host_count s)
        → go_on s p octets (walks n ks) (fourth (host s r.clock l₃) w₃ (on f)) es ≡ leaves (step5 nets (H f) i (count_used k) p f)
    goes_on n ks table_is room some below = rw (link_twice i l slot flight.link f.link, nothing_changes es) (fifth n ks table_is room some below)

  same_reading : flight.reading ≡ r.time
  unfolding step3 step2
  same_reading = refl

  pub to_the_end : (n : ℕ) (ks : ℕ → Handed) → (ks 0).counter ≡ k → (ks 4).nets ≡ nets → 5 + 4 * host_count s ≤ n → length es ≡ host_count s → 1 ≤ host_count s
      → ((a : Address) (id : ℕ) → found_for nets s a ≡ Some id → id < host_count s)
      → walks n ks (node c l (opened_on i m) es) ≡ leaves (action k nets (host s c l) i p)
  to_the_end n ks is table_is room whole some below =
      let four_more : n ≡ suc (suc (suc (suc (n - 4)))) = omega arith in
      rw four_more
      (first (suc (suc (suc (n - 4)))) ks is
      ∙ second (suc (suc (n - 4))) (λ j. ks (suc j))
      ∙ third (suc (n - 4)) (λ j. ks (suc (suc j)))
      ∙ four (n - 4) (λ j. ks (suc (suc (suc j))))
      ∙ steps_cases
      (λ (q : Stage Flight). go_on s p octets (walks (n - 4) later) (fourth (host s r.clock l₃) w₃ q) es ≡ leaves (concluded nets (host s r.clock l) i (count_used k) p q))
      b r.clock.hold p r.time (link_of l i)
      (λ _. known)
      (λ _ _. goes_on (new_neighbor p flight) record { above = omega arith; below = omega arith } same_reading whole (n - 4) later table_is (omega arith) some (below _))
      (λ _ _ _. ends_so (walks (n - 4) later) flight)
      (λ _ _ _. known))
    where
      later : ℕ → Handed
      later j = ks (suc (suc (suc (suc j))))

      known : go_on s p octets (walks (n - 4) later) (fourth (host s r.clock l₃) w₃ (on flight)) es ≡ leaves (step5 nets (H flight) i (count_used k) p flight)
      known = goes_on flight (measured_fits b p r.time (link_of l i)) same_reading whole (n - 4) later table_is (omega arith) some (below _)
