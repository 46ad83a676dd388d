-- WALK-5, LIVE-2: a host has a slot for each of its links. In the compiled library it always has: eight slots, and at most eight links.
use Rattle.std.specs.Prelude.{ℕ, ◌≤◌, ◌<◌, length}
use Rattle.host.specs.declared.Settings.{Settings}
use Rattle.host.specs.declared.Links.{Links}
use Rattle.host.specs.Settings.{link_count_of}
use Rattle.network_laws.specs.Network.{Network}

-- WALK-5, LIVE-1: of a host's links, as a call borrows them
abbrev pub Slots : Settings → Links → Type 0
Slots s l = link_count_of s ≤ length l.all

-- LIVE-2, LIVE-3, LIVE-6: of every host of a network, whose links are initialized from its settings
abbrev pub EverySlot : Network → Type 0
EverySlot r = (a : ℕ) → a < r.nodes → link_count_of (r.settings a) ≤ length (r.settings a).links
