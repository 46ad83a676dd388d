-- Distances in a network, in cables, and the links that lead along them.
use Rattle.std.specs.Prelude.{◌≡◌, ℕ, suc, ◌≤◌, ◌<◌}
use Rattle.network_laws.specs.Network.{Network, at}

-- LIVE-6: a way of `count` cables leads from host b to host c
pub data Hops (r : Network) (c : ℕ) : (b count : ℕ) → Type 0 where
  there : Hops r c c 0
  over : {b j a i h : ℕ} → r.cable b j ≡ at a i → Hops r c a h → Hops r c b (suc h)

-- LIVE-6: no way has fewer cables
abbrev pub Shortest : (r : Network) (c b count : ℕ) → Type 0
Shortest r c b h = (g : ℕ) → Hops r c b g → h ≤ g

-- LIVE-6: a PID at host b begins a way of `hops` cables to host c: 0 at c itself, else the link of its first cable
pub data Via (r : Network) (c b : ℕ) (pid : ℕ) : (hops : ℕ) → Type 0 where
  own : pid ≡ 0 → Via r c b pid 0
  by : {a l g : ℕ} → r.cable b pid ≡ at a l → Hops r c a g → Via r c b pid (suc g)

-- LIVE-6: between any two hosts there is a way of at most `width` cables
abbrev pub Width : Network → (width : ℕ) → Type 0
Width r d = (b c : ℕ) → b < r.nodes → c < r.nodes → (h : ℕ) × Hops r c b h × (h ≤ d)
