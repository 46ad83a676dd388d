-- The history of specs/Sharp.antt. Its calls are computed, except the 33 ticks: each adds CLOCK-TICK, by arithmetic, and changes nothing else.
use mathlib.Core.Path.{◌≡◌, refl, sym, ap, subst, subst₂, ◌∙◌}
use mathlib.Core.Bool.{Bool, true, false, cond, not, ◌&&◌, ◌||◌}
use mathlib.Core.List.Memᴰ
use mathlib.Core.List.{List, [], ◌∷◌, ◌++◌}
use Prim.Native.Nat.{ℕ, zero, suc, ◌+◌, ◌*◌, ◌<◌}
use native.Mathlib.Omega.{arith}
use borrow.Author.Tests.{eqb-true}
use lib.Dec.{eqb}
use lib.IntN.{ℤ, pos, negsuc, ◌-ℤ◌, ◌*ℤ◌, nat_abs}
use lib.ListN.{take, replicate}
use lib.Signed.{lt_z, ◌≤ℤ◌}
use Rattle.quantity.specs.declared.Units.{Units}
use Rattle.quantity.specs.Quantity.{units, millis, seconds}
use Rattle.quantity.proofs.Ints.{to-≤ℤ}
use Rattle.calendar.specs.Date.{first_date, await, real}
use Rattle.answer.specs.declared.Answer.{Answer}
use Rattle.answer.specs.declared.Answer.TheVariants.{Done, Setting, OutOfRange}
use Rattle.clock.specs.declared.Clock.{Clock}
use Rattle.clock.specs.Midnight.{day, midnight, Rests}
use Rattle.clock.specs.Clock.{clock_in_range}
use Rattle.clock.specs.LineClock.{no_count, no_counter}
use Rattle.clock.specs.Clock as clock
use Rattle.clock.proofs.Midnight.{rests_hold}
use Rattle.clock.proofs.Readings.{plus_none}
use Rattle.clock.proofs.Bounds as bounds
use Rattle.net_table.specs.declared.NetTable.{NetTable}
use Rattle.net_table.specs.Table.{table_bad}
use Rattle.table.specs.declared.Entry.{Entry}
use Rattle.table.specs.Forms.{every, every_from}
use Rattle.table.specs.Marks.{only_mark}
use Rattle.table.specs.Entry.{up, as_marked, entry_in_range}
use Rattle.host.specs.declared.Settings.{Settings}
use Rattle.host.specs.declared.Links.{Links}
use Rattle.host.specs.declared.guard.Scope.TheVariants.{All}
use Rattle.host.specs.Settings.{link_count_of, settings_fit}
use Rattle.host.specs.State.{fresh_links, link_in_range, own_entries}
use Rattle.host.specs.Walk.{no_walk, walk_in_range}
use Rattle.host.specs.CallState.{CallState, call_state, state_in_range}
use Rattle.host.specs.Guard.{no_places, guard}
use Rattle.host.specs.Reply.{plainly}
use Rattle.host.proofs.Guarded.{holds}
use Rattle.calls.specs.declared.Request.TheVariants.{Tick}
use Rattle.calls.specs.Effects.{tick}
use Rattle.calls.specs.Perform.{ask, Outcome, perform}
use Rattle.network_laws.specs.HostAfter.{message_of}
use Rattle.network_laws.specs.History.{HostAfter, after_outcome, put, after}
use Rattle.network_laws.specs.Network.{error_parts, delay_parts, Network, initialized, HostAt, Proper}
use Rattle.network_laws.specs.Demand3.{ticks, Message, World, Step, result, step, history, Allows, Starts, entry_of, Claim, AllNamed, Demand3Within}
use Rattle.network_laws.specs.TwoNodes.{settings_for, net_table_for, places_of}
use Rattle.network_laws.specs.Sharp.{lateness, late, early, w₀, x₁, w₁, x₂, w₂, x₃, w₃, x₄, w₄, wait, w₅, x₆, x₇, story, learnt, Sharp}
use Rattle.network_laws.proofs.Opened.{opened}
use Rattle.network_laws.proofs.Written.{answered}
use Rattle.network_laws.proofs.Demand3.TwoNodes.{below_2, apart, pair_proper, starts, as_after, reads, delivered}

-- ---- the clock of node 0 after n ticks

abbrev clock_of : (units : ℕ) → Clock
clock_of n = record { clock = units (pos n); delta = units (pos 0); hold = seconds 0; date = await first_date }

abbrev units_after : ℕ → ℕ
units_after n = 2621440000 + n * 65075263

ticked : (n : ℕ) → n < 33 → clock.tick lateness.tick (seconds 1) no_count (clock_of (units_after n)) ≡ clock_of (units_after (suc n))
unfolding clock.tick Rests
ticked n h =
    let more : units_after n + 65075263 ≡ units_after (suc n) = omega arith in
    ap (λ (m : ℕ). midnight (seconds 1) no_count (clock_of m)) more
    ∙ rests_hold (seconds 1) no_count (clock_of (units_after (suc n))) (subst (λ (u : Units). (pos 0) ≤ℤ u.0) (sym (plus_none (clock_of (units_after (suc n))))) (to-≤ℤ (pos 0) (pos (units_after (suc n))) (omega arith)))
    (subst (λ (u : Units). u.0 ≤ℤ day.0) (sym (plus_none (clock_of (units_after (suc n))))) (to-≤ℤ (pos (units_after (suc n))) day.0 (omega arith)))

date_good : real (await first_date) ≡ true
unfolding opened
date_good = refl

in_range : (n : ℕ) → n < 34 → clock_in_range (clock_of (units_after n)) ≡ true
in_range n h =
    bounds.in_range (clock_of (units_after n))
    record {
      clock_low = omega arith;
      clock_high = omega arith;
      rest = record { delta_low = omega arith; delta_high = omega arith; hold_high = omega arith; dated = date_good };
    }

-- ---- a tick of node 0

abbrev settings0 : Settings
settings0 = settings_for lateness 0

abbrev net_table0 : NetTable
net_table0 = net_table_for lateness

abbrev links0 : Links
links0 = fresh_links settings0

abbrev table0 : List Entry
table0 = places_of 0

-- all that the guard tests but the clock
else_good : cond (table_bad net_table0 || (no_places 0 table0 || not (true && every link_in_range (take (link_count_of settings0) links0.all) && walk_in_range settings0 no_walk [] && every entry_in_range (own_entries settings0 0 table0) && every_from 0 (as_marked settings0.marks) (own_entries settings0 0 table0)))) OutOfRange (cond (not (settings_fit net_table0 settings0)) Setting Done) ≡ Done
unfolding opened
else_good = refl

abbrev state0 : Clock → CallState
state0 c = call_state settings0 net_table0 0 c links0 no_walk [] table0

guard_done : (c : Clock) → clock_in_range c ≡ true → guard All (state0 c) ≡ Done
unfolding guard state_in_range
guard_done c e = rw e else_good

places_there : no_places 0 table0 ≡ false
unfolding opened
places_there = refl

performed : (n : ℕ) → n < 33
    → perform (ask (Tick no_count)) (state0 (clock_of (units_after n)))
    ≡ record { reply = plainly Done; clock = clock_of (units_after (suc n)); links = links0; walk = no_walk; copy = []; entries = table0; buffer = [] }
unfolding perform tick
performed n h =
    rw (guard_done (clock_of (units_after n)) (in_range n (omega arith)))
    (answered (state0 (clock_of (units_after n))) (holds 0 table0 places_there) _ _ _ _ ∙ rw (ticked n h))

-- ---- the world while node 0 waits

abbrev node0 : ℕ → HostAfter
node0 n = record { clock = clock_of (units_after n); links = links0; walk = no_walk; copy = []; places = table0 }

abbrev waited : ℕ → World
waited n = record { state = put 0 (node0 n) w₄.state; mail = w₄.mail }

-- before it waits
first_is : w₄.state 0 ≡ node0 0
unfolding opened after step w₀ x₁ w₁ x₂ w₂ x₃ w₃ x₄ w₄
first_is = refl

put_same : (x : HostAfter) (f : ℕ → HostAfter) → f 0 ≡ x → (j : ℕ) → f j ≡ put 0 x f j
put_same x f e j = go (eqb j 0) refl
  where
    go : (b : Bool) → eqb j 0 ≡ b → f j ≡ cond b x (f j)
    go true h = ap f (eqb-true j 0 h) ∙ e
    go false h = refl

put_twice : (x y : HostAfter) (f : ℕ → HostAfter) (j : ℕ) → put 0 x (put 0 y f) j ≡ put 0 x f j
put_twice x y f j = go (eqb j 0)
  where
    go : (b : Bool) → cond b x (cond b y (f j)) ≡ cond b x (f j)
    go true = refl
    go false = refl

waits_from : w₄ ≡ waited 0
waits_from = λ i. record { state = λ j. put_same (node0 0) w₄.state first_is j i; mail = w₄.mail }

waits_on : (n : ℕ) → n < 33 → step late (waited n) (early (ticks no_count)) ≡ waited (suc n)
unfolding step after
waits_on n h =
    ap (λ (o : Outcome). record { state = put 0 (after_outcome 0 table0 o) (waited n).state; mail = w₄.mail }) (performed n h)
    ∙ (λ i. record { state = λ j. put_twice (node0 (suc n)) (node0 n) w₄.state j i; mail = w₄.mail })

waits_allowed : (m n : ℕ) → n + m ≡ 33 → Allows late (waited n) (replicate m (early (ticks no_count)))
unfolding Allows own_entries
waits_allowed zero n h = tt
waits_allowed (suc m) n h =
    let next : step late (waited n) (early (ticks no_count)) ≡ waited (suc n) = waits_on n (omega arith) in (
      record { node_in = omega arith; continues = record { own_clock = refl; own_links_lem = refl; own_walk = refl; own_packet = refl; own_entries_lem = λ _. refl }; timely = tt },
      rw next (waits_allowed m (suc n) (omega arith)),
    )

waits : (m n : ℕ) → n + m ≡ 33 → history late (waited n) (replicate m (early (ticks no_count))) ≡ waited 33
unfolding history
waits zero n h = let e : n ≡ 33 = omega arith in ap waited e
waits (suc m) n h =
    ap (λ w. history late w (replicate m (early (ticks no_count)))) (waits_on n (omega arith)) ∙ waits m (suc n) (omega arith)

-- ---- lists of calls, one after the other

history_append : (r : Network) (w : World) (xs ys : List Step) → history r w (xs ++ ys) ≡ history r (history r w xs) ys
unfolding history
history_append r w [] ys = refl
history_append r w (x ∷ xs) ys = history_append r (step r w x) xs ys

allows_append : (r : Network) (w : World) (xs ys : List Step) → Allows r w xs → Allows r (history r w xs) ys → Allows r w (xs ++ ys)
unfolding Allows history
allows_append r w [] ys ok more = more
allows_append r w (x ∷ xs) ys ok more = (ok.0, allows_append r (step r w x) xs ys ok.1 more)

-- ---- the history

abbrev first : Message
first = record { node = 0; link = 1; ms = pos 40000; octets = message_of (result late w₀ x₁) }

abbrev second : Message
second = record { node = 1; link = 1; ms = pos 56384; octets = message_of (result late w₃ x₄) }

waits_all : w₅ ≡ waited 33
unfolding w₅
waits_all = ap (λ w. history late w wait) waits_from ∙ waits 33 0 refl

last_allowed : Allows late (waited 33) (x₆ ∷ x₇ (step late (waited 33) x₆) ∷ [])
unfolding opened after step Allows w₀ x₁ w₁ x₂ w₂ x₃ w₃ x₄ w₄ x₆ x₇
last_allowed = (
  record { node_in = omega arith; continues = record { own_clock = refl; own_links_lem = refl; own_walk = refl; own_packet = refl; own_entries_lem = λ _. refl }; timely = delivered lateness (waited 33) 0 no_counter (pos 72768) _ second 16384 (Memᴰ.head refl) refl (reads lateness (waited 33) 0 no_counter (pos 72768) refl record { lt = tt }) (omega arith) refl },
  (
    record { node_in = omega arith; continues = as_after lateness (step late (waited 33) x₆) 0 (x₇ (step late (waited 33) x₆)).call; timely = delivered lateness (step late (waited 33) x₆) 0 no_counter (pos 72768) _ second 16384 (Memᴰ.head refl) refl (reads lateness (step late (waited 33) x₆) 0 no_counter (pos 72768) refl record { lt = tt }) (omega arith) refl },
    tt,
  ),
)

wait_allowed : Allows late w₄ (wait ++ x₆ ∷ x₇ (step late w₅ x₆) ∷ [])
unfolding w₅
wait_allowed =
    allows_append late w₄ wait (x₆ ∷ x₇ (step late w₅ x₆) ∷ [])
    (subst (λ w. Allows late w wait) (sym waits_from) (waits_allowed 33 0 refl))
    (subst (λ w. Allows late w (x₆ ∷ x₇ (step late w x₆) ∷ [])) (sym waits_all) last_allowed)

allowed : Allows late w₀ story
unfolding opened after step Allows w₀ x₁ w₁ x₂ w₂ x₃ w₃ x₄ w₄
allowed = (
  record { node_in = omega arith; continues = record { own_clock = refl; own_links_lem = refl; own_walk = refl; own_packet = refl; own_entries_lem = λ _. refl }; timely = λ _. reads lateness w₀ 0 no_counter (pos 40000) refl record { lt = tt } },
  (
    record { node_in = omega arith; continues = as_after lateness w₁ 1 x₂.call; timely = tt },
    (
      record { node_in = omega arith; continues = as_after lateness w₂ 1 x₃.call; timely = delivered lateness w₂ 1 no_counter (pos 56384) _ first 16384 (Memᴰ.head refl) refl (reads lateness w₂ 1 no_counter (pos 56384) refl record { lt = tt }) (omega arith) refl },
      (
        record { node_in = omega arith; continues = as_after lateness w₃ 1 x₄.call; timely = λ _. reads lateness w₃ 1 no_counter (pos 56384) refl record { lt = tt } },
        wait_allowed,
      ),
    ),
  ),
)

-- ---- the state at the end

abbrev last : World
last = step late (step late (waited 33) x₆) (x₇ (step late (waited 33) x₆))

last_is : history late w₀ story ≡ last
unfolding history w₁ w₂ w₃ w₄ w₅
last_is =
    history_append late w₄ wait (x₆ ∷ x₇ (step late w₅ x₆) ∷ [])
    ∙ ap (λ w. history late w (x₆ ∷ x₇ (step late w x₆) ∷ [])) waits_all

abbrev stored : Entry
stored = entry_of late last 0 1

stored_is : (stored.delay.0 ≡ pos 100) × (stored.offset.0 ≡ negsuc 32267)
unfolding opened after step w₀ x₁ w₁ x₂ w₂ x₃ w₃ x₄ w₄ x₆ x₇
stored_is = (refl, refl)

learnt_is : learnt ≡ stored
learnt_is = ap (λ w. entry_of late w 0 1) last_is

proper : Proper late
unfolding opened
proper = pair_proper lateness (apart (only_mark 0) (only_mark 1) refl refl) (below_2 (λ (a : ℕ). (initialized late a).reply.answer ≡ Answer.Done) refl refl)

start : Starts late w₀
unfolding w₀
start = starts lateness

-- The host of id 1 is at node 1, and the error is more than the claim allows.
broken : (node : ℕ) → node < 2 → HostAt late 1 node
    → pos (delay_parts * nat_abs (negsuc 32267 -ℤ (late.fixed node -ℤ late.fixed 0))) ≤ℤ (pos 100 *ℤ pos error_parts) → ⊥
unfolding opened
broken = below_2 (λ (node : ℕ). HostAt late 1 node → pos (delay_parts * nat_abs (negsuc 32267 -ℤ (late.fixed node -ℤ late.fixed 0))) ≤ℤ (pos 100 *ℤ pos error_parts) → ⊥)
    (λ e _. let z : ◌≡◌ {A = ℕ} 0 1 = cc in omega arith) (λ _ c. c.le)

all_named : AllNamed story
unfolding x₁ x₂ x₃ x₄ x₆ x₇
all_named = refl

pub sharp : Sharp
unfolding Demand3Within Claim
sharp =
    record {
      proper = proper;
      starts = start;
      allowed = allowed;
      delay = ap (λ e. e.delay) learnt_is ∙ ap millis stored_is.0;
      error = ap (λ e. e.offset.0 -ℤ (late.fixed 1 -ℤ late.fixed 0)) learnt_is ∙ ap (λ (z : ℤ). z -ℤ (late.fixed 1 -ℤ late.fixed 0)) stored_is.1;
      false_then = λ claim.
          let r = claim late proper (omega arith) w₀ start story all_named allowed 0 1 (omega arith) (omega arith) (ap up learnt_is ∙ alive) in
          let close = subst₂ (λ (d o : ℤ). pos (delay_parts * nat_abs (o -ℤ (late.fixed r.node -ℤ late.fixed 0))) ≤ℤ (d *ℤ pos error_parts))
          (ap (λ e. e.delay.0) learnt_is ∙ stored_is.0) (ap (λ e. e.offset.0) learnt_is ∙ stored_is.1) r.close in
          broken r.node r.node_in r.host_there close;
    }
  where
    alive : up stored ≡ true
    alive = ap (λ (z : ℤ). lt_z z (pos 30000)) stored_is.0
