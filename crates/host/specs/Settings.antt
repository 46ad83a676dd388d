-- HOST-1, ANSWER-1: the settings and their ranges.
use Rattle.std.specs.Prelude.{Bool, false, not, ◌&&◌, ◌||◌, ℕ, min, ltb, leb, eqb, pos, take, Option, Some, None, is_some}
use Rattle.quantity.specs.Quantity.{millis, less_millis}
use Rattle.calendar.specs.Date.{real}
use Rattle.clock.specs.Midnight.{day_millis}
use Rattle.clock.specs.Clock.{tick_in_range}
use Rattle.table.specs.declared.marks.Marks.{Marks}
use Rattle.table.specs.Forms.{every}
use Rattle.table.specs.Marks.{marked, none_from}
use Rattle.wire.specs.declared.Address.{Address}
use Rattle.route.specs.Find.{local_id, find}
use Rattle.net_table.specs.declared.NetTable.{NetTable}
use Rattle.host.specs.declared.LinkSetting.{LinkSetting}
use Rattle.host.specs.declared.Settings.{Settings}

-- HOST-1: is n between two limits?
abbrev pub from_to : (least most n : ℕ) → Bool
from_to least most n = leb least n && leb n most

-- HOST-1: the clock host 255: clock setting off
abbrev pub clock_setting_off : ℕ
clock_setting_off = 255

-- HOST-5: the id that LOCAL-ADDRESS gives
abbrev pub own_id : Settings → Option ℕ
own_id s = local_id s.layout s.address

-- ROUTE-6, NET-1: the id of an address, by our net or by the class's net table
abbrev pub found_for : NetTable → Settings → Address → Option ℕ
found_for t s a = find s.address s.layout t.net a

-- HOST-2: how many links the host has, 8 at most
abbrev pub link_count_of : Settings → ℕ
link_count_of s = min s.link_count 8

-- HOST-2: is a link's switch 0 or 1?
abbrev pub switch_good : LinkSetting → Bool
switch_good x = leb x.broadcast 1

-- HOST-2: are the switches of all the host's links good?
abbrev pub switches_good : Settings → Bool
switches_good s = every switch_good (take (link_count_of s) s.links)

-- MARK-2: was an id found that is marked?
abbrev pub found_marked : Marks → Option ℕ → Bool
found_marked m None = false
found_marked m (Some id) = marked m id

-- HOST-1: are links, numbers, time and date in range?
abbrev pub numbers_good : Settings → Bool
numbers_good s =
    from_to 1 8 s.link_count
    && switches_good s
    && from_to 1 255 s.layout.nhosts
    && from_to 1 223 s.address.first
    && (eqb s.clock_host clock_setting_off || ltb s.clock_host s.layout.nhosts)
    && from_to 1 255 s.hold_interval.0
    && tick_in_range s.clock_tick
    && (not (less_millis s.time (millis (pos 0))) && less_millis s.time day_millis)
    && real s.date

-- MARK-2, HOST-5: is there an own id that is marked, and no mark from NHOSTS on?
abbrev pub marks_good : Settings → Bool
marks_good s = is_some (own_id s) && found_marked s.marks (own_id s) && none_from s.marks s.layout.nhosts

-- HOST-1, ANSWER-1: are the settings good?
unfoldable pub settings_good : Settings → Bool
settings_good s = numbers_good s && marks_good s

-- NET-9, ANSWER-1: are the settings good, with the table's NHOSTS?
abbrev pub settings_fit : NetTable → Settings → Bool
settings_fit t s = settings_good s && eqb s.layout.nhosts t.nhosts
