-- The epoch of specs/SilenceExample.antt meets every condition. Its calls are computed, except the seconds of host 1: each leaves the network as it is.
use mathlib.Core.Path.{◌≡◌, refl, sym, ap, subst, subst₂, ◌∙◌}
use mathlib.Core.Bool.{Bool, true, false, true≢false, cond}
use mathlib.Core.List.{List, [], ◌∷◌, ◌++◌, Memᴰ}
use Prim.Native.Nat.{ℕ, zero, suc, ◌+◌, ◌-◌, ◌*◌, ◌≤◌, ◌<◌}
use native.Mathlib.Omega.{arith}
use borrow.Author.Tests.{eqb-true}
use lib.Dec.{eqb, ltb}
use lib.IntN.{pos}
use lib.ListN.{length, take, replicate, length-replicate, length-append}
use lib.Seq.{drop_at, take_all}
use Rattle.lists.proofs.Tests.{either}
use Rattle.quantity.specs.Quantity.{millis, seconds}
use Rattle.answer.specs.declared.Answer.{Answer}
use Rattle.clock.specs.LineClock.{no_counter}
use Rattle.clock.specs.declared.Clock.{Clock}
use Rattle.clock.specs.Clock as clock
use Rattle.calls.specs.Effects as effects
use Rattle.table.specs.declared.Entry.{Entry}
use Rattle.table.specs.Marks.{only_mark}
use Rattle.table.specs.Entry.{fresh_entry, aged}
use Rattle.table.specs.declared.entries.Change.TheVariants.{Aged}
use Rattle.table.specs.Runs.{changes}
use Rattle.host.specs.declared.guard.Scope.TheVariants.{All}
use Rattle.host.specs.Effect.{each}
use Rattle.host.specs.Reply.{plainly}
use Rattle.host.specs.CallState.{CallState, entries_of}
use Rattle.calls.specs.Perform.{Outcome, perform}
use Rattle.calls.proofs.Carried.{entries_put}
use Rattle.host.specs.State.{places_per_host, first_place, host_count, own_entries}
use Rattle.host.specs.Guard.{guard, done}
use Rattle.network_laws.specs.History.{Continues, after_outcome, after}
use Rattle.network_laws.specs.Network.{loose, at, initialized, HostAt, Cabled, Proper}
use Rattle.network_laws.specs.Demand3.{NetworkCall, Step, Message, World, event_of, result, reading_at, step, history, Reads, Allowed, Allows, Starts, entry_of}
use Rattle.network_laws.specs.TwoNodes.{places_of, call}
use Rattle.network_laws.proofs.Opened.{opened}
use Rattle.network_laws.proofs.Demand3.TwoNodes.{apart}
use Rattle.liveness_laws.specs.Seconds.{emptied, counts, seconds_at}
use Rattle.liveness_laws.specs.Numbers.{rise, epoch_seconds}
use Rattle.liveness_laws.specs.Silence.{Unheard, NothingOf, begin, next}
use Rattle.liveness_laws.specs.SilenceExample.{line, wires, settings_for, a_second, a_report, a_send, newest, an_arrival, in_turn, start, past, falls_silent, silence, last, SilenceExample}

-- ---- the network

pub below_3 : (P : ℕ → Type 0) → P 0 → P 1 → P 2 → (a : ℕ) → a < 3 → P a
below_3 P x y z zero l = x
below_3 P x y z (suc zero) l = y
below_3 P x y z (suc (suc zero)) l = z
below_3 P x y z (suc (suc (suc a))) l = absurd (omega arith)

-- the two cables, from each end
from_0 : Cabled line 0 1 1 1
unfolding opened
from_0 = record { node_in = omega arith; link_in = refl; point_to_point = refl; two_nodes = λ e. omega arith; other_end = refl }

from_1 : Cabled line 1 1 0 1
unfolding opened
from_1 = record { node_in = omega arith; link_in = refl; point_to_point = refl; two_nodes = λ e. omega arith; other_end = refl }

to_2 : Cabled line 0 2 2 1
unfolding opened
to_2 = record { node_in = omega arith; link_in = refl; point_to_point = refl; two_nodes = λ e. omega arith; other_end = refl }

from_2 : Cabled line 2 1 0 2
unfolding opened
from_2 = record { node_in = omega arith; link_in = refl; point_to_point = refl; two_nodes = λ e. omega arith; other_end = refl }

cabled : (a i b j : ℕ) → wires a i ≡ at b j → Cabled line a i b j
cabled a i b j = go (eqb a 0) (eqb i 1) (eqb i 2) (eqb a 1) (eqb a 2) refl refl refl refl refl
  where
    go : (t u v x y : Bool) → eqb a 0 ≡ t → eqb i 1 ≡ u → eqb i 2 ≡ v → eqb a 1 ≡ x → eqb a 2 ≡ y
        → cond t (cond u (at 1 1) (cond v (at 2 1) loose)) (cond u (cond x (at 0 1) (cond y (at 0 2) loose)) loose) ≡ at b j → Cabled line a i b j
    go true true v x y t u _ _ _ e = let eb : b ≡ 1 = cc in let ej : j ≡ 1 = cc in rw (eqb-true a 0 t, eqb-true i 1 u, eb, ej) from_0
    go true false true x y t _ v _ _ e = let eb : b ≡ 2 = cc in let ej : j ≡ 1 = cc in rw (eqb-true a 0 t, eqb-true i 2 v, eb, ej) to_2
    go true false false x y t u v _ _ e = absurd (let z : ◌≡◌ {A = ℕ} 0 1 = cc in omega arith)
    go false true v true y _ u _ x _ e = let eb : b ≡ 0 = cc in let ej : j ≡ 1 = cc in rw (eqb-true a 1 x, eqb-true i 1 u, eb, ej) from_1
    go false true v false true _ u _ _ y e = let eb : b ≡ 0 = cc in let ej : j ≡ 2 = cc in rw (eqb-true a 2 y, eqb-true i 1 u, eb, ej) from_2
    go false true v false false _ _ _ _ _ e = absurd (let z : ◌≡◌ {A = ℕ} 0 1 = cc in omega arith)
    go false false v x y _ _ _ _ _ e = absurd (let z : ◌≡◌ {A = ℕ} 0 1 = cc in omega arith)

-- marks of two hosts
differ : (a b : ℕ) → a < 3 → b < 3 → (id : ℕ) → HostAt line id a → HostAt line id b → a ≡ b
unfolding opened
differ =
    λ a b l m id.
    below_3 (λ (a : ℕ). HostAt line id a → HostAt line id b → a ≡ b)
    (below_3 (λ (b : ℕ). HostAt line id 0 → HostAt line id b → 0 ≡ b) (λ _ _. refl) (λ e f. absurd (apart (only_mark 0) (only_mark 1) refl refl id e f)) (λ e f. absurd (apart (only_mark 0) (only_mark 2) refl refl id e f)) b m)
    (below_3 (λ (b : ℕ). HostAt line id 1 → HostAt line id b → 1 ≡ b) (λ e f. absurd (apart (only_mark 1) (only_mark 0) refl refl id e f)) (λ _ _. refl) (λ e f. absurd (apart (only_mark 1) (only_mark 2) refl refl id e f)) b m)
    (below_3 (λ (b : ℕ). HostAt line id 2 → HostAt line id b → 2 ≡ b) (λ e f. absurd (apart (only_mark 2) (only_mark 0) refl refl id e f)) (λ e f. absurd (apart (only_mark 2) (only_mark 1) refl refl id e f)) (λ _ _. refl) b m) a l

line_proper : Proper line
unfolding opened
line_proper =
    record {
      sixteen = omega arith;
      numbers_differ = λ a b l m e. e;
      was_initialized = below_3 (λ (a : ℕ). (initialized line a).reply.answer ≡ Answer.Done) refl refl refl;
      one_net = λ a b l m. refl;
      marked_once = λ a b id l m. differ a b l m id;
      one_layout = λ a b l m. refl;
      setting_off = λ a l. refl;
      fixed_near = λ a b l m. omega arith;
      cables = cabled;
    }

-- ---- its calls

as_after : (w : World) (a : ℕ) (x : NetworkCall) → Continues (w.state a) (event_of line w (call line w a x)).call_state
unfolding own_entries
as_after w a x =
    record {
      own_clock = refl;
      own_links_lem = refl;
      own_walk = refl;
      own_packet = refl;
      own_entries_lem =
          λ _. ap (take (host_count (settings_for a))) (drop_at (replicate (places_per_host * a) fresh_entry) (w.state a).places (first_place a) (length-replicate (places_per_host * a) fresh_entry));
    }

pub a_second_lem : (a : ℕ) → a < 3 → (w : World) → Allowed line w (a_second a w)
a_second_lem a l w = record { node_in = l; continues = as_after w a (a_second a w).call; timely = tt }

-- the newest message
abbrev top : List Message → Message
top [] = record { node = 0; link = 0; ms = pos 0; octets = [] }
top (m ∷ mail) = m

top_in : (mail : List Message) → eqb (length mail) 0 ≡ false → Memᴰ (top mail) mail × (newest mail ≡ (top mail).octets)
top_in [] e = absurd (true≢false e)
top_in (m ∷ mail) e = (Memᴰ.head refl, refl)

module _ (w : World) (a : ℕ) (inside : a < 3) where
  -- the clock reads the network's millisecond
  abbrev pub OnTime : Type 0
  OnTime = (reading_at line a (w.state a).clock no_counter).time.0 ≡ pos 1000

  on_time : OnTime → Reads line w a no_counter (pos 1000)
  on_time e = record { clock = e; no_midnight = rw e record { lt = tt } }

  a_report_lem : Allowed line w (a_report a w)
  a_report_lem = record { node_in = inside; continues = as_after w a (a_report a w).call; timely = tt }

  pub a_send_lem : (i : ℕ) → OnTime → Allowed line w (a_send a i w)
  a_send_lem i e = record { node_in = inside; continues = as_after w a (a_send a i w).call; timely = λ _. on_time e }

  pub an_arrival_lem : (i : ℕ) → eqb (length w.mail) 0 ≡ false → wires a i ≡ at (top w.mail).node (top w.mail).link → (top w.mail).ms ≡ pos 1000 → OnTime → Allowed line w (an_arrival a i w)
  an_arrival_lem i some cable at-ms e =
      record {
        node_in = inside;
        continues = as_after w a (an_arrival a i w).call;
        timely = record { message = top w.mail; earlier = (top_in w.mail some).0; a_copy = (top_in w.mail some).1; other_end = cable; in_time = λ _. record { reads = on_time e; way = 0; short = omega arith; later = rw at-ms refl } };
      }

marked_2 : HostAt line 2 2
unfolding opened
marked_2 = refl

begins_so : Starts line start
unfolding start
begins_so = record { was_initialized = λ a l. refl; no_mail = refl }

past_allowed : Allows line start past
unfolding opened after step Allows start past
past_allowed = (
  a_send_lem _ 2 (omega arith) 1 refl,
  (
    an_arrival_lem _ 0 (omega arith) 2 refl refl refl refl,
    (
      a_send_lem _ 0 (omega arith) 2 refl,
      (
        an_arrival_lem _ 2 (omega arith) 1 refl refl refl refl,
        (
          a_report_lem _ 2 (omega arith),
          (
            a_send_lem _ 2 (omega arith) 1 refl,
            (
              an_arrival_lem _ 0 (omega arith) 2 refl refl refl refl,
              (
                a_send_lem _ 1 (omega arith) 1 refl,
                (
                  an_arrival_lem _ 0 (omega arith) 1 refl refl refl refl,
                  (
                    a_send_lem _ 0 (omega arith) 1 refl,
                    (an_arrival_lem _ 1 (omega arith) 1 refl refl refl refl, tt),
                  ),
                ),
              ),
            ),
          ),
        ),
      ),
    ),
  ),
)

-- ---- the epoch

-- calls that the law allows: with the seconds of hosts 0 and 1, and the network after them
record Quiet (w : World) (xs : List Step) (at_0 at_1 : ℕ) (v : World) : Type 0 where
  pub allowed : Allows line w xs
  pub unheard : NothingOf line w 2 xs
  pub seconds_0 : seconds_at line w 0 xs ≡ at_0
  pub seconds_1 : seconds_at line w 1 xs ≡ at_1
  pub ends : history line w xs ≡ v

one_more : {w : World} {x : Step} {xs : List Step} {m n : ℕ} {v : World} → Allowed line w x → Unheard line w 2 x.node x.call → Quiet (step line w x) xs m n v
    → Quiet w (x ∷ xs) (counts line w 0 x + m) (counts line w 1 x + n) v
unfolding Allows NothingOf seconds_at history
one_more {w} {x} ok away q =
    record {
      allowed = (ok, q.allowed);
      unheard = (away, q.unheard);
      seconds_0 = ap (λ (m : ℕ). counts line w 0 x + m) q.seconds_0;
      seconds_1 = ap (λ (m : ℕ). counts line w 1 x + m) q.seconds_1;
      ends = q.ends;
    }

abbrev pub begins : World
begins = emptied falls_silent

-- a second of host 1, where nothing is up, changes nothing
abbrev pub borrowed : CallState
borrowed = (event_of line begins (a_second 1 begins)).call_state

guard_is : guard All borrowed ≡ Answer.Done
unfolding opened after step history start past falls_silent
guard_is = refl

no_hold : borrowed.host.clock.hold.0 ≡ 0
unfolding opened after step history start past falls_silent
no_hold = refl

abbrev table : List Entry
table = take 3 (places_of 1)

table_is : entries_of borrowed ≡ table
unfolding opened after step history start past falls_silent
table_is = refl

size : length (begins.state 1).places ≡ places_per_host
unfolding opened after step history start past falls_silent
size = refl

stays_so : (c : Clock) → c.hold.0 ≡ 0 → clock.hold_second c ≡ c
unfolding clock.hold_second
stays_so c e = ap (λ (n : ℕ). record { clock = c.clock; delta = c.delta; hold = seconds n; date = c.date }) (ap (λ (n : ℕ). n - 1) e ∙ sym e)

aged_table : changes (each (settings_for 1) Aged) table ≡ table
unfolding changes aged fresh_entry
aged_table = refl

sized : length borrowed.entries ≡ 2 * places_per_host
sized = length-append (replicate places_per_host fresh_entry) (begins.state 1).places ∙ rw size refl

pub same_outcome : result line begins (a_second 1 begins)
    ≡ record { reply = plainly Answer.Done; clock = borrowed.host.clock; links = borrowed.host.links; walk = borrowed.walk; copy = borrowed.copy; entries = borrowed.entries; buffer = [] }
unfolding perform effects.second
same_outcome =
    rw (guard_is, stays_so borrowed.host.clock no_hold, ap (changes (each (settings_for 1) Aged)) table_is ∙ aged_table ∙ sym table_is, entries_put (settings_for 1) 1 borrowed.entries (omega (arith, sized))) refl

same_1 : after_outcome 1 (begins.state 1).places (result line begins (a_second 1 begins)) ≡ begins.state 1
same_1 =
    ap (after_outcome 1 (begins.state 1).places) same_outcome
    ∙ ap (λ (l : List Entry). record { clock = borrowed.host.clock; links = borrowed.host.links; walk = borrowed.walk; copy = borrowed.copy; places = l })
    (either (λ (l : List Entry). l ≡ (begins.state 1).places) (ltb (length borrowed.entries) (first_place 1 + places_per_host)) _ _ (λ _. refl)
    (λ _.
    ap (take places_per_host) (drop_at (replicate places_per_host fresh_entry) (begins.state 1).places places_per_host (length-replicate places_per_host fresh_entry))
    ∙ take_all places_per_host (begins.state 1).places (omega (arith, size))))

pub still : step line begins (a_second 1 begins) ≡ begins
unfolding step after
still = λ i. record { state = λ j. stays j i; mail = [] }
  where
    stays : (j : ℕ) → cond (eqb j 1) (after_outcome 1 (begins.state 1).places (result line begins (a_second 1 begins))) (begins.state j) ≡ begins.state j
    stays j = go (eqb j 1) refl
      where
        go : (t : Bool) → eqb j 1 ≡ t → cond t (after_outcome 1 (begins.state 1).places (result line begins (a_second 1 begins))) (begins.state j) ≡ begins.state j
        go true e = same_1 ∙ ap begins.state (sym (eqb-true j 1 e))
        go false e = refl

waits : (rest : List (World → Step)) (m : ℕ) (v : World) → Quiet begins (in_turn begins rest) m 0 v → (k : ℕ) → Quiet begins (in_turn begins (replicate k (a_second 1) ++ rest)) m k v
waits rest m v q zero = q
waits rest m v q (suc k) =
    let none : counts line begins 0 (a_second 1 begins) + m ≡ m = omega arith in
    let one : counts line begins 1 (a_second 1 begins) + k ≡ suc k = rw (ap (λ (o : Outcome). done o.reply.answer) same_outcome) (omega arith) in
    subst₂ (λ (s t : ℕ). Quiet begins (in_turn begins (replicate (suc k) (a_second 1) ++ rest)) s t v) none one
    (one_more (a_second_lem 1 (omega arith) begins) tt (subst (λ (w : World). Quiet w (in_turn w (replicate k (a_second 1) ++ rest)) m k v) (sym still) (waits rest m v q k)))

-- the message of host 0, its arrival at host 1, and the seconds of host 0
abbrev sent : World
sent = step line begins (a_send 0 1 begins)

abbrev came : World
came = step line sent (an_arrival 1 1 sent)

abbrev minutes : List Step
minutes = in_turn came (replicate epoch_seconds (a_second 0))

read_0 : OnTime begins 0 (omega arith)
unfolding opened after step history start past falls_silent
read_0 = refl

read_1 : OnTime sent 1 (omega arith)
unfolding opened after step history start past falls_silent
read_1 = refl

came_allowed : Allowed line sent (an_arrival 1 1 sent)
unfolding opened after step history start past falls_silent
came_allowed = an_arrival_lem sent 1 (omega arith) 1 refl refl refl read_1

seconds_0 : seconds_at line came 0 minutes ≡ epoch_seconds
unfolding opened after step history seconds_at aged clock.hold_second effects.second start past falls_silent
seconds_0 = refl

seconds_1 : seconds_at line came 1 minutes ≡ 0
unfolding seconds_at
seconds_1 = refl

delay_0 : (entry_of line (history line came minutes) 0 2).delay.0 ≡ pos 30000
unfolding opened after step history aged clock.hold_second effects.second start past falls_silent
delay_0 = refl

delay_1 : (entry_of line (history line came minutes) 1 2).delay.0 ≡ pos (rise * 2)
unfolding opened after step history start past falls_silent
delay_1 = refl

all_allowed : (n : ℕ) (w : World) → Allows line w (in_turn w (replicate n (a_second 0)))
unfolding Allows
all_allowed zero w = tt
all_allowed (suc n) w = (a_second_lem 0 (omega arith) w, all_allowed n (step line w (a_second 0 w)))

all_unheard : (n : ℕ) (w : World) → NothingOf line w 2 (in_turn w (replicate n (a_second 0)))
unfolding NothingOf
all_unheard zero w = tt
all_unheard (suc n) w = (tt, all_unheard n (step line w (a_second 0 w)))

epoch : Quiet begins silence epoch_seconds epoch_seconds (history line came minutes)
unfolding silence
epoch =
    waits (a_send 0 1 ∷ an_arrival 1 1 ∷ replicate epoch_seconds (a_second 0)) epoch_seconds (history line came minutes)
    (one_more (a_send_lem begins 0 (omega arith) 1 read_0) tt
    (one_more came_allowed (λ j e. let z : ◌≡◌ {A = ℕ} 0 2 = cc in omega arith)
    record { allowed = all_allowed epoch_seconds came; unheard = all_unheard epoch_seconds came; seconds_0 = seconds_0; seconds_1 = seconds_1; ends = refl })) epoch_seconds

pub example_holds : SilenceExample
unfolding falls_silent last
example_holds =
    let q = epoch in
    record {
      proper = line_proper;
      ways = omega arith;
      starts = begins_so;
      allowed = past_allowed;
      silent_in = omega arith;
      host_there = marked_2;
      epochs =
          next begin silence
          record {
            allowed = q.allowed;
            unheard = q.unheard;
            long = below_3 (λ (b : ℕ). (b ≡ 2 → ⊥) → epoch_seconds ≤ seconds_at line begins b silence) (λ _. omega (arith, q.seconds_0)) (λ _. omega (arith, q.seconds_1)) (λ out. absurd (out refl));
          };
      still_up = ap (λ (w : World). (entry_of line w 1 2).delay) q.ends ∙ ap millis delay_1;
      gone = ap (λ (w : World). (entry_of line w 0 2).delay) q.ends ∙ ap millis delay_0;
    }
