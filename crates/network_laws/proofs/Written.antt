-- Entries written to a host's first places: they are read there, and every other place is kept.
use mathlib.Core.Path.{◌≡◌, ap, ◌∙◌}
use mathlib.Core.List.{List, []}
use Prim.Native.Nat.{ℕ}
use native.Mathlib.Omega.{arith}
use lib.ListN.{length}
use Rattle.lists.proofs.Parts.{over_nothing}
use Rattle.answer.specs.declared.Answer.{Answer}
use Rattle.clock.specs.declared.Clock.{Clock}
use Rattle.table.specs.declared.Entry.{Entry}
use Rattle.table.specs.Runs.{changes}
use Rattle.host.specs.declared.Links.{Links}
use Rattle.host.specs.declared.walk.Walk.{Walk}
use Rattle.host.specs.declared.Reply.{Reply}
use Rattle.host.specs.State.{host_count, own_entries, with_entries}
use Rattle.host.specs.Effect.{answers}
use Rattle.host.specs.declared.Host.{Host}
use Rattle.host.specs.CallState.{CallState, entries_of}
use Rattle.host.specs.Reply.{plainly}
use Rattle.host.proofs.Places.{Holds, entries_length, with_entries_length, with_entries_front, with_entries_after, entries_with_entries}
use Rattle.arrival.specs.Arrival.{ends}
use Rattle.calls.specs.Perform.{Outcome, carried_out, updated_by}
use Rattle.calls.proofs.Carried.{entries_put}
use Rattle.calls.proofs.Pair.{quieted}
use Rattle.network_laws.specs.Frame.{Kept}

module _ (x : CallState) (es : List Entry) (there : Holds x.number x.entries) (same : length es ≡ length (entries_of x)) where
  count : length es ≡ host_count x.host.settings
  count = same ∙ entries_length x.host.settings x.number x.entries there

  pub written_kept : Kept x.host.settings x.number x.entries (with_entries x.number es x.entries)
  written_kept =
      let n = count in
      record {
        same_length = with_entries_length x.number es x.entries (omega arith);
        before_places = with_entries_front x.number es x.entries (omega arith);
        behind = λ i d b. with_entries_after x.number es x.entries (omega arith) i d (omega arith);
      }

  pub written_back : own_entries x.host.settings x.number (with_entries x.number es x.entries) ≡ es
  written_back =
      let n = count in
      entries_with_entries x.number es x.entries (omega arith) x.host.settings count

-- ---- a call that does nothing to the entries

module _ (x : CallState) (there : Holds x.number x.entries) where
  -- the state afterwards, with this reply, this clock, these links and this walk
  abbrev pub leaving : Reply → Clock → Links → Walk → Outcome
  leaving r c l w = record { reply = r; clock = c; links = l; walk = w; copy = x.copy; entries = x.entries; buffer = [] }

  pub answered : (r : Reply) (c : Clock) (l : Links) (w : Walk) → carried_out (answers r c l w) x ≡ leaving r c l w
  unfolding changes
  answered r c l w = ap (λ entries. record { reply = r; clock = c; links = l; walk = w; copy = x.copy; entries = entries; buffer = [] }) (rw (over_nothing 0 (entries_of x)) (entries_put x.host.settings x.number x.entries there))

  pub ended : (a : Answer) (h : Host) (octets : List ℕ) → updated_by (ends a h) octets x ≡ leaving (plainly a) h.clock h.links x.walk
  ended a h octets = quieted x there (plainly a) h octets
