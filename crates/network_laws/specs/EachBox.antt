-- WALK-3: what each box of a walk changes, and that it changes nothing else.
use Rattle.std.specs.Prelude.{◌≡◌, true, ℕ, ◌+◌, ◌≤◌, eqb, get_or, Option, Some, None}
use Rattle.clock.specs.declared.Counter.{Counter}
use Rattle.table.specs.declared.Entry.{Entry}
use Rattle.host.specs.declared.Link.{Link}
use Rattle.host.specs.declared.walk.Place.{Place}
use Rattle.host.specs.declared.walk.Place.TheVariants.{Step1, Step2, Step3, Step4, Step5, LineA, LineB, LineC, LineD}
use Rattle.host.specs.Settings.{found_for}
use Rattle.host.specs.State.{first_place, link_of}
use Rattle.host.specs.CallState.{CallState, our_reading}
use Rattle.host.specs.Walk.{place_of}
use Rattle.host.specs.Guard.{done}
use Rattle.calls.specs.Perform.{Outcome, step, perform}
use Rattle.network_laws.specs.Answers.{held}

-- ---- what stays

-- WALK-3: the clock stays
abbrev pub SameClock : CallState → Outcome → Type 0
SameClock x o = o.clock ≡ x.host.clock

-- WALK-3: the links stay
abbrev pub SameLinks : CallState → Outcome → Type 0
SameLinks x o = o.links ≡ x.host.links

-- WALK-3: the host table stays
abbrev pub SameEntries : CallState → Outcome → Type 0
SameEntries x o = o.entries ≡ x.entries

-- ---- what changes

-- WALK-6: the clock is the one after the reading
abbrev pub Reads : Counter → CallState → Outcome → Type 0
Reads k x o = done o.reply.answer ≡ true → o.clock ≡ (our_reading k x.host).clock

-- WALK-3: the clock changes for the clock host's id only
abbrev pub SetsClock : CallState → Outcome → Type 0
SetsClock x o = (x.walk.id ≡ x.host.settings.clock_host → ⊥) → SameClock x o

-- WALK-3: one field of the walk's link changes, and no other link
pub record ChangesLink (OneField : (before after : Link) → Type 0) (x : CallState) (o : Outcome) : Type 0 where
  pub field : OneField (link_of x.host.links x.walk.link) (link_of o.links x.walk.link)
  pub others : (i : ℕ) → 1 ≤ i → (i ≡ x.walk.link → ⊥) → link_of o.links i ≡ link_of x.host.links i

-- WALK-3: only KEEP-ALIVE changes
abbrev pub KeepAlive : (before after : Link) → Type 0
KeepAlive before after = (after.neighbor ≡ before.neighbor) × (after.tsp ≡ before.tsp)

-- WALK-3: only TSP changes
abbrev pub Tsp : (before after : Link) → Type 0
Tsp before after = (after.neighbor ≡ before.neighbor) × (after.keep_alive ≡ before.keep_alive)

-- WALK-3: only NEIGHBOR-ADDRESS changes
abbrev pub Neighbor : (before after : Link) → Type 0
Neighbor before after = (after.keep_alive ≡ before.keep_alive) × (after.tsp ≡ before.tsp)

-- WALK-3: only the entry of the walk's id changes
abbrev pub ChangesEntry : CallState → Outcome → Type 0
ChangesEntry x o = (i : ℕ) (d : Entry) → (i ≡ first_place x.number + x.walk.id → ⊥) → get_or o.entries i d ≡ get_or x.entries i d

-- ---- what is looked up

-- NET-11: without a table the neighbour's id is found by the net table of this box
abbrev pub LooksUp : CallState → Outcome → Type 0
LooksUp x o =
    eqb (held x).nhosts 0 ≡ true → done o.reply.answer ≡ true
    → found_for x.nets x.host.settings (link_of x.host.links x.walk.link).neighbor ≡ Some o.walk.id

-- ---- the boxes

-- WALK-3: what each box changes
abbrev pub Changes : Option Place → Counter → CallState → Outcome → Type 0
Changes None k x o = SameClock x o × SameLinks x o × SameEntries x o
Changes (Some Step1) k x o = Reads k x o × SameLinks x o × SameEntries x o
Changes (Some Step2) k x o = SameClock x o × ChangesLink KeepAlive x o × SameEntries x o
Changes (Some Step3) k x o = SameClock x o × ChangesLink Tsp x o × SameEntries x o
Changes (Some Step4) k x o = SameClock x o × ChangesLink Neighbor x o × SameEntries x o
Changes (Some Step5) k x o = SameClock x o × SameLinks x o × SameEntries x o × LooksUp x o
Changes (Some LineA) k x o = SameClock x o × SameLinks x o × SameEntries x o
Changes (Some LineB) k x o = SameClock x o × SameLinks x o × ChangesEntry x o
Changes (Some LineC) k x o = SameClock x o × SameLinks x o × ChangesEntry x o
Changes (Some LineD) k x o = SetsClock x o × SameLinks x o × SameEntries x o

-- WALK-3: a box and the place of the walk; the copy of the packet stays
pub record Box (k : Counter) (x : CallState) (o : Outcome) : Type 0 where
  pub changes : Changes (place_of x.walk) k x o
  pub copy : o.copy ≡ x.copy

-- WALK-3: for every counter and everything that a step takes
unfoldable pub EachBox : Type 0
EachBox = (k : Counter) (x : CallState) → Box k x (perform (step k) x)
