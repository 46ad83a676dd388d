-- HOST-2, TABLE-8: a host's links by number, and its places in the host table.
use Rattle.std.specs.Prelude.{Bool, true, cond, ◌||◌, List, map, ℕ, ◌-◌, ◌*◌, min, ltb, leb, eqb, pos, get_or, set, Option, Some, None}
use Rattle.lists.specs.Lists.{part, over}
use Rattle.quantity.specs.Words.{word}
use Rattle.wire.specs.Octets.{zero_address}
use Rattle.table.specs.declared.Entry.{Entry}
use Rattle.host.specs.declared.Settings.{Settings}
use Rattle.host.specs.declared.LinkSetting.{LinkSetting}
use Rattle.host.specs.declared.Link.{Link}
use Rattle.host.specs.declared.Links.{Links}
use Rattle.host.specs.Settings.{link_count_of}

-- ---- links

-- HOST-2: is the switch broadcast?
abbrev pub is_broadcast : LinkSetting → Bool
is_broadcast x = eqb x.broadcast 1

-- HOST-2: a link that is not set
abbrev pub unset : LinkSetting
unset = record { broadcast = 0; neighbor = zero_address }

-- HOST-2: is link i a broadcast link?
abbrev pub broadcast : Settings → ℕ → Bool
broadcast s i = is_broadcast (get_or s.links (i - 1) unset)

-- HOST-4: a fresh link
abbrev pub fresh_link : LinkSetting → Link
fresh_link x = record { neighbor = cond (is_broadcast x) x.neighbor zero_address; keep_alive = 0; tsp = word (pos 0) }

-- HOST-4: all links fresh
unfoldable pub fresh_links : Settings → Links
fresh_links s = record { all = map fresh_link s.links }

-- HOST-2: link i
abbrev pub link_of : Links → ℕ → Link
link_of l i = get_or l.all (i - 1) (fresh_link unset)

-- HOST-2: the links with another link i
abbrev pub with_link : ℕ → Link → Links → Links
with_link i x l = record { all = set l.all (i - 1) x }

-- HOST-2, ANSWER-12: is i no link of the host?
unfoldable pub no_link : Settings → (link : ℕ) → Bool
no_link s i = eqb i 0 || ltb (link_count_of s) i

-- HOST-3: KEEP-ALIVE-INTERVAL
abbrev pub keep_alive_interval : ℕ
keep_alive_interval = 4

-- HOST-3: is KEEP-ALIVE in range?
abbrev pub link_in_range : Link → Bool
link_in_range x = leb x.keep_alive keep_alive_interval

-- ---- entries

-- TABLE-8: the places of each host
abbrev pub places_per_host : ℕ
places_per_host = 255

-- TABLE-8: the first place of a host
abbrev pub first_place : (number : ℕ) → ℕ
first_place k = places_per_host * k

-- TABLE-9: how many places the host uses: NHOSTS, 255 at most
abbrev pub host_count : Settings → ℕ
host_count s = min s.layout.nhosts places_per_host

-- helper: has a found id a place?
abbrev pub has_place : Option ℕ → Bool
has_place None = true
has_place (Some id) = ltb id places_per_host

-- TABLE-8: the host's entries
unfoldable pub own_entries : Settings → (number : ℕ) → List Entry → List Entry
own_entries s k entries = part (first_place k) (host_count s) entries

-- TABLE-9: the host table with these entries in the host's first places; all others stay
unfoldable pub with_entries : (number : ℕ) → List Entry → List Entry → List Entry
with_entries k es entries = over entries (first_place k) es
