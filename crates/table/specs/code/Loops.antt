-- The preconditions of the loops over the host table, and the results of those that only read it. There is no rule here.
use Rattle.std.specs.Prelude.{◌≡◌, Bool, true, ◌&&◌, List, map, ℕ, ◌+◌, ◌-◌, ◌≤◌, ◌<◌, ◌^◌, length, get_or, Option, Some, None}
use Rattle.lists.specs.Lists.{part}
use Rattle.clock.specs.Clock.{clock_in_range}
use Rattle.wire.specs.Ip.{header_length}
use Rattle.wire.specs.Hello.{report_length, report_place}
use Rattle.wire.specs.Packet.{packet_length}
use Rattle.wire.specs.code.Sealing.{with_report, with_reports}
use Rattle.table.specs.declared.Entry.{Entry}
use Rattle.table.specs.declared.entries.Changes.{Changes}
use Rattle.table.specs.declared.entries.Scan.{Scan}
use Rattle.table.specs.declared.entries.Updates.{Updates}
use Rattle.table.specs.declared.entries.Reports.{Reports}
use Rattle.table.specs.Forms.{every, every_from}
use Rattle.table.specs.Entry.{fresh_entry, as_marked, advertised, up_to, entry_in_range}
use Rattle.table.specs.Update.{own_most}
use Rattle.table.specs.Runs.{changed}

-- ---- places

pub record InEntries (first end : ℕ) (entries : List Entry) : Type 0 where
  pub rising : first ≤ end
  pub inside : end ≤ length entries

-- ---- changing

-- what a call gives for an entry, the n-th of those that change, is the entry after the change
abbrev pub Makes : (Entry → ℕ → Entry → Type 0) → Changes → Type 0
Makes gives w = (e x : Entry) (n : ℕ) → gives e n x → x ≡ changed w.marks w.change n e

-- ---- looking

-- the entries are in range, and marked as the ids from 0 on
unfoldable pub all_in_range : Scan → List Entry → Bool
all_in_range w entries =
    every entry_in_range (part w.first (w.end - w.first) entries)
    && every_from 0 (as_marked w.marks) (part w.first (w.end - w.first) entries)

-- the entry of a place; a fresh one where there is none
unfoldable pub entry_of : (place : Option ℕ) → List Entry → Entry
entry_of None entries = fresh_entry
entry_of (Some i) entries = get_or entries i fresh_entry

-- ---- the updates of an arrival

pub record Updatable (w : Updates) (id : ℕ) (packet : List ℕ) : Type 0 where
  pub delay : up_to own_most w.update.delay ≡ true
  pub report : w.table ≡ true → header_length + report_place id + report_length ≤ length packet

-- what each update asks, where there is one
pub record Sound (w : Updates) (packet : List ℕ) : Type 0 where
  pub based : w.base ≤ w.first
  pub clock : clock_in_range w.clock ≡ true
  pub hold : w.hold_interval.0 ≤ 255
  pub count : w.count.0 < 2 ^ 16
  pub delay : up_to own_most w.update.delay ≡ true
  pub reports : w.table ≡ true → packet_length (w.end - w.base) ≤ length packet

pub record UpdatesFit (w : Updates) (entries : List Entry) (packet : List ℕ) : Type 0 where
  pub places : InEntries w.first w.end entries
  pub sound : w.first < w.end → Sound w packet

-- ---- reading out for a send: each report is put in its place in the buffer

abbrev pub reported : Reports → (place : ℕ) → Entry → (buffer : List ℕ) → List ℕ
reported w i e buffer = with_report (i - w.first) (advertised w.pid e) buffer

unfoldable pub read_out : Reports → List Entry → (buffer : List ℕ) → List ℕ
read_out w entries buffer = with_reports 0 (map (advertised w.pid) (part w.first (w.end - w.first) entries)) buffer

pub record ReportFits (w : Reports) (place : ℕ) (buffer : List ℕ) : Type 0 where
  pub based : w.first ≤ place
  pub room : header_length + report_place (place - w.first) + report_length ≤ length buffer

pub record ReportsFit (w : Reports) (entries : List Entry) (buffer : List ℕ) : Type 0 where
  pub places : InEntries w.first w.end entries
  pub room : w.first < w.end → packet_length (w.end - w.first) ≤ length buffer
