-- CALL-2: the guard tests for 12, 16 and 1, in this order, before every call.
use Rattle.std.specs.Prelude.{Bool, false, cond, not, ◌||◌, List, ℕ, ◌+◌, ltb, eqb, length}
use Rattle.answer.specs.declared.Answer.{Answer}
use Rattle.answer.specs.declared.Answer.TheVariants.{Done, Setting, OutOfRange, InWalk}
use Rattle.answer.specs.Answer.{number}
use Rattle.wire.specs.Packet.{packet_length}
use Rattle.net_table.specs.Table.{table_bad}
use Rattle.table.specs.declared.Entry.{Entry}
use Rattle.host.specs.declared.walk.Walk.{Walk}
use Rattle.host.specs.declared.guard.Scope.{Scope}
use Rattle.host.specs.declared.guard.Scope.TheVariants.{Places, All, OnLink, Opening, Walking}
use Rattle.host.specs.Settings.{settings_fit}
use Rattle.host.specs.State.{places_per_host, first_place, no_link}
use Rattle.host.specs.Walk.{is_open}
use Rattle.host.specs.CallState.{CallState, state_in_range}

-- ---- 12

-- ANSWER-12, TABLE-8: is the host's number over 15, or are its places not all in the host table?
unfoldable pub no_places : (number : ℕ) → List Entry → Bool
no_places k entries = ltb 15 k || ltb (length entries) (first_place k + places_per_host)

-- WALK-1: the octets of the longest packet
abbrev pub longest : ℕ
longest = packet_length 255

-- ANSWER-12, HOST-6, HOST-7: is the host's state out of range, or the link not there? Initialize tests number and places only.
abbrev pub own_out_of_range : Scope → CallState → Bool
own_out_of_range Places x = no_places x.number x.entries
own_out_of_range All x = no_places x.number x.entries || not (state_in_range x)
own_out_of_range Walking x = no_places x.number x.entries || not (state_in_range x)
own_out_of_range (OnLink i) x = no_link x.host.settings i || (no_places x.number x.entries || not (state_in_range x))
own_out_of_range (Opening i) x =
    ltb (length x.copy) longest
    || (no_link x.host.settings i || (no_places x.number x.entries || not (state_in_range x)))

-- ANSWER-12, NET-8: that, or a bad net table
abbrev pub out_of_range : Scope → CallState → Bool
out_of_range a x = table_bad x.nets || own_out_of_range a x

-- ---- 16
-- ANSWER-16, WALK-4: is a walk open, in a call that it excludes?
abbrev pub in_walk : Scope → Walk → Bool
in_walk Places w = false
in_walk All w = is_open w
in_walk Walking w = false
in_walk (OnLink i) w = is_open w
in_walk (Opening i) w = is_open w

-- CALL-2, REPLY-1, ANSWER-1, NET-9: 12, then 16, then 1, else Done
unfoldable pub guard : Scope → CallState → Answer
guard a x =
    cond (out_of_range a x) OutOfRange
    (cond (in_walk a x.walk) InWalk
    (cond (not (settings_fit x.nets x.host.settings)) Setting Done))

-- ANSWER-0: is the answer 0?
abbrev pub done : Answer → Bool
done a = eqb (number a) 0
