-- TABLE-8, UPDATE-2: changes to the entries at the places from `first` to before `end`.
use Rattle.std.specs.Prelude.{cond, List, ℕ, ◌-◌, eqb}
use Rattle.lists.specs.Lists.{part, over}
use Rattle.clock.specs.declared.Clock.{Clock}
use Rattle.wire.specs.Hello.{report_at}
use Rattle.wire.specs.Packet.{hello_of}
use Rattle.table.specs.declared.Entry.{Entry}
use Rattle.table.specs.declared.Update.{Update}
use Rattle.table.specs.declared.Updated.{Updated}
use Rattle.table.specs.declared.marks.Marks.{Marks}
use Rattle.table.specs.declared.entries.Change.{Change}
use Rattle.table.specs.declared.entries.Change.TheVariants.{Fresh, Aged, Reported, Put}
use Rattle.table.specs.declared.entries.Changes.{Changes}
use Rattle.table.specs.declared.entries.Updates.{Updates}
use Rattle.table.specs.Forms.{map_from}
use Rattle.table.specs.Marks.{mark}
use Rattle.table.specs.Entry.{fresh_entry, with_mark, aged}
use Rattle.table.specs.Update.{plus_report, update, reported_here}
use Rattle.table.specs.Sweep.{Swept, sweep}

-- ---- changing each entry

-- MARK-1, TABLE-5, SELF-1: the n-th entry after a change; a fresh entry has the mark of id n
abbrev pub changed : Marks → Change → (n : ℕ) → Entry → Entry
changed m Fresh n e = with_mark (mark m n) fresh_entry
changed m Aged n e = aged e
changed m (Reported reading) n e = reported_here reading e
changed m (Put x) n e = x

-- TABLE-8, TABLE-9: the host table after a change to these places
unfoldable pub changes : Changes → List Entry → List Entry
changes w entries = over entries w.first (map_from 0 (changed w.marks w.change) (part w.first (w.end - w.first) entries))

-- ---- the updates of an arrival

-- UPDATE-1: the update of an id: with its report if the packet has a table
abbrev pub update_at : Updates → (id : ℕ) → (packet : List ℕ) → Update
update_at w id packet = cond w.table (plus_report w.update (report_at (hello_of packet) id)) w.update

-- UPDATE-2, UPDATE-d: clock and entry after the update of a place; line (d) for the clock host
abbrev pub updated_at : Updates → (packet : List ℕ) → (place : ℕ) → Clock → Entry → Updated
updated_at w packet i c e =
    update (eqb (i - w.base) w.clock_host) w.hold_interval w.count w.date (update_at w (i - w.base) packet) c e

-- UPDATE-2: clock and host table after all updates of an arrival
unfoldable pub updates : Updates → (packet : List ℕ) → List Entry → Swept
updates w packet entries =
    let swept : Swept = sweep w.first (updated_at w packet) w.clock (part w.first (w.end - w.first) entries) in
    record { clock = swept.clock; own_entries = over entries w.first swept.own_entries }
