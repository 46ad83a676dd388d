-- REPLY-1, ISOLATION-1: for each call, its answers with their conditions in order. The call gives the first whose condition is true, or 0.
use Rattle.std.specs.Prelude.{◌≡◌, not, List, [], ◌∷◌, ◌++◌, ℕ, ltb, length, is_some}
use Rattle.answer.specs.declared.Answer.TheVariants.{Setting, ShortBuffer, IpForm, IpChecksum, Protocol, HelloForm, HelloChecksum, OtherLayout, LoopedLine, DelayNotValid, NoHost, OutOfRange, HostDown, InWalk, NoWalk}
use Rattle.clock.specs.declared.Counter.{Counter}
use Rattle.wire.specs.Ip.{ip_form, ip_checksum, protocol}
use Rattle.wire.specs.Hello.{hello_form, hello_checksum}
use Rattle.wire.specs.Packet.{hello_of, fields, packet_length}
use Rattle.net_table.specs.declared.NetTable.{NetTable}
use Rattle.host.specs.Settings.{settings_fit, found_for}
use Rattle.host.specs.State.{link_of}
use Rattle.host.specs.declared.Host.{Host}
use Rattle.host.specs.CallState.{CallState, entries_of}
use Rattle.host.specs.Guard.{out_of_range, in_walk}
use Rattle.host.specs.Walk.{is_open}
use Rattle.sending.specs.Send.{report_count}
use Rattle.arrival.specs.declared.Delivery.{Delivery}
use Rattle.arrival.specs.declared.Delivery.TheVariants.{Inspect, Act, Receive}
use Rattle.host.specs.Inspection.{other_layout, looped}
use Rattle.calls.specs.declared.Request.{Request}
use Rattle.calls.specs.declared.Request.TheVariants.{Initialize, Tick, Adjust, Set, Read, Second, SelfReport, Lookup, Step}
use Rattle.calls.specs.Perform.{Call, ask, send, deliver, open_walk, scope_of_call, perform}
pub use Rattle.network_laws.specs.AnswerTests.{Test}
unfoldable pub use Rattle.network_laws.specs.AnswerTests.{on, first_of, delay_invalid_in, delay_invalid, neighbor_now, neighbor_unknown, before_step, held, walk_delay_invalid, walk_neighbor_unknown, host_down}

-- ---- the tests of each call, after 12, 16 and 1

-- REPLY-1, ANSWER-17: the tests of a request after 12, 16 and 1
abbrev pub request_tests : Request → CallState → List Test
request_tests Initialize x = []
request_tests (Tick n) x = []
request_tests (Adjust n) x = []
request_tests (Set ms n) x = []
request_tests (Read k) x = []
request_tests Second x = []
request_tests (SelfReport k) x = []
request_tests (Lookup a) x =
    on NoHost (not (is_some (found_for x.nets x.host.settings a)))
    ∷ on HostDown (host_down (entries_of x) (found_for x.nets x.host.settings a))
    ∷ []
request_tests (Step k) x =
    on DelayNotValid (walk_delay_invalid x) ∷ on NoHost (walk_neighbor_unknown x) ∷ on NoWalk (not (is_open x.walk)) ∷ []

-- REPLY-1, ANSWER-2: the test of a send
abbrev pub send_tests : (link : ℕ) (buffer : List ℕ) → Host → List Test
send_tests i buffer h =
    on ShortBuffer (ltb (length buffer) (packet_length (report_count h.settings (link_of h.links i)))) ∷ []

-- INSPECT-5, PACKET-8: the tests of an inspection
abbrev pub inspection_tests : (link : ℕ) (octets : List ℕ) → Host → List Test
inspection_tests i octets h =
    on IpForm (not (ip_form octets))
    ∷ on IpChecksum (not (ip_checksum octets))
    ∷ on Protocol (not (protocol octets))
    ∷ on HelloForm (not (hello_form (hello_of octets)))
    ∷ on HelloChecksum (not (hello_checksum (hello_of octets)))
    ∷ on OtherLayout (other_layout h.settings (fields octets))
    ∷ on LoopedLine (looped h.settings i (fields octets))
    ∷ []

-- INSPECT-5: the tests of an action
abbrev pub action_tests : (link : ℕ) → Counter → (octets : List ℕ) → NetTable → Host → List Test
action_tests i k octets t h =
    inspection_tests i octets h
    ++ on DelayNotValid (delay_invalid k h i (fields octets))
    ∷ on NoHost (neighbor_unknown t h i (fields octets))
    ∷ []

-- INSPECT-5: the tests of each of the three calls
abbrev pub delivery_tests : Delivery → (octets : List ℕ) → NetTable → Host → List Test
delivery_tests (Inspect i) octets t h = inspection_tests i octets h
delivery_tests (Act i k) octets t h = action_tests i k octets t h
delivery_tests (Receive i k) octets t h = action_tests i k octets t h

-- REPLY-1: the tests of a call after 12, 16 and 1
abbrev pub own_tests : Call → CallState → List Test
own_tests (ask q) x = request_tests q x
own_tests (send i k buffer) x = send_tests i buffer x.host
own_tests (deliver d packet) x = delivery_tests d packet x.nets x.host
own_tests (open_walk i packet) x = inspection_tests i packet x.host

-- REPLY-1, CALL-2: all tests of a call, in order
abbrev pub tests : Call → CallState → List Test
tests c x =
    on OutOfRange (out_of_range (scope_of_call c) x)
    ∷ on InWalk (in_walk (scope_of_call c) x.walk)
    ∷ on Setting (not (settings_fit x.nets x.host.settings))
    ∷ own_tests c x

-- REPLY-1, REPLY-4, ISOLATION-1: for every call and everything that it takes: it gives the first answer whose condition is true
unfoldable pub Answers : Type 0
Answers = (c : Call) (x : CallState) → (perform c x).reply.answer ≡ first_of (tests c x)
