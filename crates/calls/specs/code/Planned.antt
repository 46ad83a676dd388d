-- The plans of the calls that change neither links nor walk and look nothing up: what they hold is the effect's, whatever walk, net table and entry are.
use Rattle.std.specs.Prelude.{◌≡◌, List, ℕ}
use Rattle.net_table.specs.declared.NetTable.{NetTable}
use Rattle.table.specs.declared.Entry.{Entry}
use Rattle.host.specs.declared.Host.{Host}
use Rattle.host.specs.declared.walk.Walk.{Walk}
use Rattle.calls.specs.declared.Request.{Request}
use Rattle.calls.specs.declared.plans.Timed.{Timed}
use Rattle.calls.specs.declared.plans.Aged.{Aged}
use Rattle.calls.specs.Effects.{effect}

abbrev pub Timely : Timed → Request → Host → Type 0
Timely p q h =
    (t : NetTable) (w : Walk) (o : List ℕ) (e : Entry)
    → p ≡ record { reply = (effect q t h w o e).reply; clock = (effect q t h w o e).clock }

abbrev pub Aging : Aged → Request → Host → Type 0
Aging p q h =
    (t : NetTable) (w : Walk) (o : List ℕ) (e : Entry)
    → p
    ≡ record {
      reply = (effect q t h w o e).reply;
      clock = (effect q t h w o e).clock;
      work = (effect q t h w o e).work;
    }
