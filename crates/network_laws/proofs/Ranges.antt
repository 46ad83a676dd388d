-- What keeps a host's links, its clock and its entries in range: a link that is set or sent on, our reading, and the updates that an arrival makes.
use mathlib.Core.Path.{◌≡◌, refl, subst}
use mathlib.Core.Bool.{true}
use mathlib.Core.List.{List, map}
use Prim.Native.Nat.{ℕ, ◌-◌, ◌≤◌, ◌<◌, ◌^◌}
use native.Mathlib.Omega.{arith}
use borrow.Author.Tests.{leb-true, le-leb}
use lib.ListN.{take, set}
use lib.Seq.{get_or-take, take-set-lt}
use Rattle.lists.proofs.Tests.{either}
use Rattle.quantity.specs.declared.Millis.{Millis}
use Rattle.quantity.specs.Quantity.{less_millis}
use Rattle.quantity.proofs.Ints.{up, dn, sum, lt_no}
use Rattle.clock.specs.declared.Clock.{Clock}
use Rattle.clock.specs.Midnight.{day_millis}
use Rattle.clock.specs.Clock.{clock_in_range}
use Rattle.wire.specs.Hello.{report_at}
use Rattle.table.specs.declared.Entry.{Entry}
use Rattle.table.specs.declared.Update.{Update}
use Rattle.table.specs.declared.entries.Updates.{Updates}
use Rattle.table.specs.Forms.{every}
use Rattle.table.specs.Entry.{min_delay, up_to, entry_in_range}
use Rattle.table.specs.Runs.{update_at, updated_at}
use Rattle.table.proofs.Kept.{update_in_range, clock_in_range_lem}
use Rattle.host.specs.declared.Settings.{Settings}
use Rattle.host.specs.declared.Link.{Link}
use Rattle.host.specs.declared.Links.{Links}
use Rattle.host.specs.Settings.{link_count_of}
use Rattle.host.specs.State.{unset, fresh_link, fresh_links, link_of, with_link, link_in_range}
use Rattle.host.proofs.Guarded.{Counted}
use Rattle.sending.specs.Message.{link_sent}
use Rattle.arrival.specs.declared.Flight.{Flight}
use Rattle.arrival.specs.Steps.{at_least_min, neighbor_update, report_update}
use Rattle.network_laws.proofs.Arrivals.{Flown}
use Rattle.network_laws.proofs.Lists.{all_at, all_set, all_made, all_take, every_all, all_every}

-- ---- links

module _ (s : Settings) (l : Links) (i : ℕ) (has : Counted s i) (links : every link_in_range (take (link_count_of s) l.all) ≡ true) where
  pub link_in : link_in_range (link_of l i) ≡ true
  link_in =
      subst (λ x. link_in_range x ≡ true) (get_or-take (link_count_of s) l.all (i - 1) (fresh_link unset) has.at_place)
      (all_at (λ _ x. link_in_range x ≡ true) (fresh_link unset) (λ _. refl) (take (link_count_of s) l.all)
      (every_all link_in_range (take (link_count_of s) l.all) links) (i - 1))

  pub with_link_in : (x : Link) → link_in_range x ≡ true → every link_in_range (take (link_count_of s) (with_link i x l).all) ≡ true
  with_link_in x h =
      rw (take-set-lt (link_count_of s) l.all (i - 1) x has.at_place)
      (all_every link_in_range (set (take (link_count_of s) l.all) (i - 1) x)
      (all_set (λ _ y. link_in_range y ≡ true) (i - 1) x h (take (link_count_of s) l.all)
      (every_all link_in_range (take (link_count_of s) l.all) links)))

  -- a send takes one off KEEP-ALIVE
  pub sent_in : every link_in_range (take (link_count_of s) (with_link i (link_sent (link_of l i)) l).all) ≡ true
  sent_in =
      let h : (link_of l i).keep_alive ≤ 4 = leb-true (link_of l i).keep_alive 4 link_in in
      with_link_in (link_sent (link_of l i)) (le-leb ((link_of l i).keep_alive - 1) 4 (omega arith))

pub fresh_links_in : (s : Settings) → every link_in_range (take (link_count_of s) (fresh_links s).all) ≡ true
unfolding fresh_links
fresh_links_in s =
    all_every link_in_range (take (link_count_of s) (map fresh_link s.links))
    (all_take (λ _ x. link_in_range x ≡ true) (link_count_of s) (map fresh_link s.links)
    (all_made (λ _ x. link_in_range x ≡ true) fresh_link (λ _ x. refl) s.links))

-- ---- updates

-- an update that keeps an entry in range
pub record Sane (u : Update) : Type 0 where
  pub delay_low : dn u.delay.0 ≤ 0
  pub pid_high : u.pid ≤ 8
  pub reading_in : up_to day_millis u.reading ≡ true

-- DELAY as step 5 raises it
pub raised_low : (d : Millis) → (dn (at_least_min d).0 ≤ 0) × (100 ≤ up (at_least_min d).0)
raised_low d =
    either (λ (m : Millis). (dn m.0 ≤ 0) × (100 ≤ up m.0)) (less_millis d min_delay) _ _ (λ _. (omega arith, omega arith))
    (λ t. let l = lt_no d.0 min_delay.0 t in (omega arith, omega arith))

module _ (s : Settings) (time : Millis) (i : ℕ) (f : Flight) (has : Counted s i) (in_day : up_to day_millis time ≡ true) (flown : Flown time f) where
  pub neighbor_sane : Sane (neighbor_update i f)
  neighbor_sane =
      record { delay_low = (raised_low f.delay).0; pid_high = has.to_eight; reading_in = rw flown.reading_is in_day }

  pub report_sane : (hello : List ℕ) (id : ℕ) → Sane (report_update i f (report_at hello id))
  unfolding report_at
  report_sane hello id =
      record {
        delay_low = omega (arith, raised_low f.delay, sum (at_least_min f.delay).0 (report_at hello id).delay.0);
        pid_high = has.to_eight;
        reading_in = rw flown.reading_is in_day;
      }

-- the updates of an arrival
module _ (w : Updates) (packet : List ℕ) (id : ℕ) (c : Clock) (e : Entry) where
  pub entry_in : Sane (update_at w (id - w.base) packet) → entry_in_range e ≡ true → entry_in_range (updated_at w packet id c e).entry ≡ true
  entry_in good h = update_in_range _ good.delay_low good.pid_high good.reading_in _ w.hold_interval w.count w.date c e h

  pub clock_in : w.hold_interval.0 ≤ 255 → w.count.0 < 2 ^ 16 → clock_in_range c ≡ true → clock_in_range (updated_at w packet id c e).clock ≡ true
  clock_in small few = clock_in_range_lem _ w.hold_interval small w.count few w.date _ c e
