-- A call with the packet of a slot at a host borrows what the definition says.
use mathlib.Core.Path.{◌≡◌}
use mathlib.Core.List.{List}
use Prim.Native.Nat.{ℕ, ◌+◌, ◌-◌, ◌*◌, ◌<◌}
use native.Mathlib.Omega.{arith}
use lib.ListN.{length, get_or}
use Rattle.lists.specs.Lists.{part}
use Rattle.net_table.specs.declared.NetTable.{NetTable}
use Rattle.table.specs.declared.Entry.{Entry}
use Rattle.host.specs.Guard.{longest}
use Rattle.host.specs.CallState.{call_state}
use Rattle.calls.specs.Perform.{Call, perform}
use Rattle.bench.specs.declared.HostState.{HostState}
use Rattle.bench.specs.declared.takes.Taking.{Taking}
use Rattle.bench.specs.Slots.{room_place}
use Rattle.bench.proofs.Defaults.{any_default, nobody}
use Rattle.bench.specs.code.Takes.{host_of, packet}

module _ (call : List ℕ → Call) (w : Taking) (t : NetTable) (hosts : List HostState) (copies : List ℕ) (entries : List Entry) (slots : List ℕ)
    (copy : List ℕ) (copy_is : copy ≡ part (longest * w.host) longest copies)
    (here there : ℕ) (here_is : here ≡ room_place w.slot) (there_is : there ≡ room_place w.slot + w.size) (d : HostState) (at : w.host < length hosts) where
  abbrev v : HostState
  v = get_or hosts w.host nobody

  pub same : perform (call (part here (there - here) slots)) (call_state w.settings t w.host v.clock v.links v.walk copy entries)
      ≡ perform (call (packet w t hosts copies entries slots d)) (host_of w t hosts copies entries slots d)
  same =
      let m : room_place w.slot + w.size - room_place w.slot ≡ w.size = omega arith in
      rw (copy_is, here_is, there_is, m, any_default hosts w.host nobody d at)
