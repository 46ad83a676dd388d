-- ROOM-4: the calls of a network.
use Rattle.std.specs.Prelude.{◌≡◌, Bool, true, false, List, ℕ, ℤ}
use Rattle.quantity.specs.declared.Count.{Count}
use Rattle.wire.specs.declared.Address.{Address}
use Rattle.clock.specs.declared.Counter.{Counter}
use Rattle.net_table.specs.declared.NetTable.{NetTable}
use Rattle.table.specs.declared.Entry.{Entry}
use Rattle.table.specs.Forms.{every}
use Rattle.host.specs.declared.Links.{Links}
use Rattle.calls.specs.declared.Request.TheVariants.{Tick, Adjust, Set, Read, Lookup, Second, SelfReport}
use Rattle.calls.specs.Perform.{Call, ask, send, inspect, act, receive, open_walk}
use Rattle.calls.specs.Perform as calls

-- ---- the calls of the list

-- ROOM-4: every call on a host except initialize. Send and arrival have the network's millisecond. An action is an arrival, and so is a walk, at its first box.
pub data NetworkCall : Type 0 where
  ticks : Count → NetworkCall
  seconds : NetworkCall
  reports : Counter → NetworkCall
  sends : (link : ℕ) → Counter → (buffer : List ℕ) (ms : ℤ) → NetworkCall
  arrives : (link : ℕ) → Counter → (packet : List ℕ) (ms : ℤ) → NetworkCall
  acts : (link : ℕ) → Counter → (packet : List ℕ) (ms : ℤ) → NetworkCall
  inspects : (link : ℕ) (packet : List ℕ) → NetworkCall
  opens : (link : ℕ) (packet : List ℕ) → NetworkCall
  steps : Counter → (ms : ℤ) → NetworkCall
  adjusts : Count → NetworkCall
  sets : (ms : ℤ) → Count → NetworkCall
  clocks : Counter → NetworkCall
  looks : Address → NetworkCall

-- ROOM-4: the call itself
abbrev pub call_of : NetworkCall → Call
call_of (ticks n) = ask (Tick n)
call_of seconds = ask Second
call_of (reports k) = ask (SelfReport k)
call_of (sends i k buffer t) = send i k buffer
call_of (arrives i k packet t) = receive i k packet
call_of (acts i k packet t) = act i k packet
call_of (inspects i packet) = inspect i packet
call_of (opens i packet) = open_walk i packet
call_of (steps k t) = calls.step k
call_of (adjusts n) = ask (Adjust n)
call_of (sets ms n) = ask (Set ms n)
call_of (clocks k) = ask (Read k)
call_of (looks a) = ask (Lookup a)

-- ROOM-4: the calls that demand 3 names, with the forms of an arrival: action, walk and inspection. Adjust, set, read and lookup are not named.
abbrev pub named : NetworkCall → Bool
named (ticks n) = true
named seconds = true
named (reports k) = true
named (sends i k buffer t) = true
named (arrives i k packet t) = true
named (acts i k packet t) = true
named (inspects i packet) = true
named (opens i packet) = true
named (steps k t) = true
named (adjusts n) = false
named (sets ms n) = false
named (clocks k) = false
named (looks a) = false

-- ROOM-4, NET-10: a call at a host with the state that it gets. The net table may be any.
pub record Step : Type 0 where
  pub node : ℕ
  pub nets : NetTable
  pub links : Links
  pub copy : List ℕ
  pub entries : List Entry
  pub call : NetworkCall

-- ROOM-4: every call of the list is one that demand 3 names
abbrev pub AllNamed : List Step → Type 0
AllNamed xs = every (λ (x : Step). named x.call) xs ≡ true
