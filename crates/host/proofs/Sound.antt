-- What good settings have, in numbers: each test of `settings_good` by itself.
use Rattle.std.specs.Prelude.{is_some}
use mathlib.Core.Path.{◌≡◌}
use mathlib.Core.Bool.{true, ◌||◌, ◌&&◌, not}
use mathlib.Core.List.{[], ◌∷◌}
use Prim.Native.Nat.{◌≤◌}
use borrow.Author.Tests.{leb-true}
use lib.Dec.{ltb, leb, eqb}
use lib.IntN.{pos}
use Rattle.lists.proofs.Tests.{both, each}
use Rattle.quantity.specs.Quantity.{millis, less_millis}
use Rattle.calendar.specs.Date.{real}
use Rattle.clock.specs.Midnight.{day_millis}
use Rattle.clock.specs.Clock.{tick_in_range}
use Rattle.table.specs.Marks.{none_from}
use Rattle.host.specs.declared.Settings.{Settings}
use Rattle.host.specs.Settings.{from_to, clock_setting_off, own_id, found_marked, switches_good, numbers_good, marks_good, settings_good}

pub record Sound (s : Settings) : Type 0 where
  pub links_from : 1 ≤ s.link_count
  pub links_to : s.link_count ≤ 8
  pub switches : switches_good s ≡ true
  pub hosts_from : 1 ≤ s.layout.nhosts
  pub hosts_to : s.layout.nhosts ≤ 255
  pub class_from : 1 ≤ s.address.first
  pub class_to : s.address.first ≤ 223
  pub clock_host : (eqb s.clock_host clock_setting_off || ltb s.clock_host s.layout.nhosts) ≡ true
  pub hold_from : 1 ≤ s.hold_interval.0
  pub hold_to : s.hold_interval.0 ≤ 255
  pub tick : tick_in_range s.clock_tick ≡ true
  pub time : (not (less_millis s.time (millis (pos 0))) && less_millis s.time day_millis) ≡ true
  pub date : real s.date ≡ true
  pub own_id_lem : is_some (own_id s) ≡ true
  pub own_marked : found_marked s.marks (own_id s) ≡ true
  pub marks_below : none_from s.marks s.layout.nhosts ≡ true

pub sound : (s : Settings) → settings_good s ≡ true → Sound s
unfolding settings_good
sound s e =
    let parts = both (numbers_good s) (marks_good s) e in
    let t =
    each (from_to 1 8 s.link_count)
    (switches_good s
    ∷ from_to 1 255 s.layout.nhosts
    ∷ from_to 1 223 s.address.first
    ∷ (eqb s.clock_host clock_setting_off || ltb s.clock_host s.layout.nhosts)
    ∷ from_to 1 255 s.hold_interval.0
    ∷ tick_in_range s.clock_tick
    ∷ (not (less_millis s.time (millis (pos 0))) && less_millis s.time day_millis)
    ∷ real s.date
    ∷ []) parts.0 in
    let marks = each (is_some (own_id s)) (found_marked s.marks (own_id s) ∷ none_from s.marks s.layout.nhosts ∷ []) parts.1 in
    let links = both (leb 1 s.link_count) (leb s.link_count 8) t.0 in
    let hosts = both (leb 1 s.layout.nhosts) (leb s.layout.nhosts 255) t.1.1.0 in
    let class = both (leb 1 s.address.first) (leb s.address.first 223) t.1.1.1.0 in
    let hold = both (leb 1 s.hold_interval.0) (leb s.hold_interval.0 255) t.1.1.1.1.1.0 in
    record {
      links_from = leb-true _ _ links.0;
      links_to = leb-true _ _ links.1;
      hosts_from = leb-true _ _ hosts.0;
      hosts_to = leb-true _ _ hosts.1;
      switches = t.1.0;
      class_from = leb-true _ _ class.0;
      class_to = leb-true _ _ class.1;
      clock_host = t.1.1.1.1.0;
      hold_from = leb-true _ _ hold.0;
      hold_to = leb-true _ _ hold.1;
      tick = t.1.1.1.1.1.1.0;
      time = t.1.1.1.1.1.1.1.0;
      date = t.1.1.1.1.1.1.1.1.0;
      own_id_lem = marks.0;
      own_marked = marks.1.0;
      marks_below = marks.1.1.0;
    }
