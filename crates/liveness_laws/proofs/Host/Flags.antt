-- Which links were heard along a list of calls: a link that was heard once stays so.
use mathlib.Core.Path.{◌≡◌, refl, sym}
use mathlib.Core.Bool.{Bool, true, false, cond, not, ◌&&◌}
use mathlib.Core.List.{List, [], ◌∷◌}
use mathlib.Core.Logic.{inl, inr}
use Prim.Native.Nat.{ℕ, ◌+◌, ◌≤◌}
use native.Mathlib.Omega.{arith}
use borrow.Author.Tests.{eq-eqb}
use lib.Dec.{eqb}
use lib.ListN.{length, drop, length-take, length-drop}
use Rattle.lists.proofs.Tests.{either}
use Rattle.table.specs.declared.Entry.{Entry}
use Rattle.host.specs.declared.Settings.{Settings}
use Rattle.host.specs.declared.walk.Walk.{Walk}
use Rattle.host.specs.Guard.{done}
use Rattle.host.specs.State.{places_per_host, first_place, host_count}
use Rattle.host.specs.Walk.{is_open}
use Rattle.calls.specs.Perform.{Outcome}
use Rattle.network_laws.specs.History.{places}
use Rattle.network_laws.specs.Network.{Network}
use Rattle.network_laws.specs.Demand3.{NetworkCall, ticks, seconds, reports, sends, arrives, acts, inspects, opens, steps, adjusts, sets, clocks, looks, Step, World, after_at, result, step}
use Rattle.liveness_laws.specs.Seconds.{is_second, counts}
use Rattle.liveness_laws.specs.Rounds.{ReportsNow, HearsNow, Reported, Heard}
use Rattle.liveness_laws.proofs.Rounds.Entry.{hearing}

-- the seconds that a call adds at its host
abbrev pub gain : NetworkCall → Outcome → ℕ
gain call o = cond (is_second call && done o.reply.answer) 1 0

pub own_gain : (r : Network) (w : World) (x : Step) → gain x.call (result r w x) ≡ counts r w x.node x
own_gain r w x = rw (eq-eqb x.node x.node refl) refl

-- all places of a host, in a run that holds them
pub full_places : (s : Settings) (n : ℕ) (entries : List Entry) → first_place n + places_per_host ≤ length entries → host_count s ≤ length (places n entries)
full_places s n entries h = omega (arith, length-take places_per_host (drop (first_place n) entries), length-drop (first_place n) entries)

module _ (r : Network) (c : ℕ) where
  -- the links heard after a call of host b, whose walk was v
  abbrev pub flags : (b : ℕ) → Walk → NetworkCall → Outcome → (ℕ → Bool) → ℕ → Bool
  flags b v (ticks n) o heard = heard
  flags b v seconds o heard = heard
  flags b v (reports k) o heard = cond (done o.reply.answer) (hearing r c b 0 heard) heard
  flags b v (sends j k buffer t) o heard = heard
  flags b v (arrives j k packet t) o heard = cond (done o.reply.answer) (hearing r c b j heard) heard
  flags b v (acts j k packet t) o heard = cond (done o.reply.answer) (hearing r c b j heard) heard
  flags b v (inspects j packet) o heard = heard
  flags b v (opens j packet) o heard = heard
  flags b v (steps k t) o heard = cond (done o.reply.answer && not (is_open o.walk)) (hearing r c b v.link heard) heard
  flags b v (adjusts n) o heard = heard
  flags b v (sets ms n) o heard = heard
  flags b v (clocks κ) o heard = heard
  flags b v (looks a) o heard = heard

  pub no_flags : (b : ℕ) (v : Walk) (call : NetworkCall) (o : Outcome) (heard : ℕ → Bool) → done o.reply.answer ≡ false → flags b v call o heard ≡ heard
  no_flags b v (ticks n) o heard refused = refl
  no_flags b v seconds o heard refused = refl
  no_flags b v (reports k) o heard refused = rw refused
  no_flags b v (sends j k buffer t) o heard refused = refl
  no_flags b v (arrives j k packet t) o heard refused = rw refused
  no_flags b v (acts j k packet t) o heard refused = rw refused
  no_flags b v (inspects j packet) o heard refused = refl
  no_flags b v (opens j packet) o heard refused = refl
  no_flags b v (steps k t) o heard refused = rw refused
  no_flags b v (adjusts n) o heard refused = refl
  no_flags b v (sets ms n) o heard refused = refl
  no_flags b v (clocks κ) o heard refused = refl
  no_flags b v (looks d) o heard refused = refl

  -- at each host
  unfoldable pub flags_after : (w : World) (x : Step) → (ℕ → ℕ → Bool) → ℕ → ℕ → Bool
  flags_after w x heard b = cond (eqb x.node b) (flags b (after_at r w b).walk x.call (result r w x) (heard b)) (heard b)

  unfoldable pub flags_all : (w : World) → List Step → (ℕ → ℕ → Bool) → ℕ → ℕ → Bool
  flags_all w [] heard = heard
  flags_all w (x ∷ xs) heard = flags_all (step r w x) xs (flags_after w x heard)

  -- a link once heard stays so
  hears_stay : (b j q : ℕ) (d : Bool) (heard : ℕ → Bool) → heard q ≡ true → cond d (hearing r c b j heard) heard q ≡ true
  hears_stay b j q true heard on = either (λ (t : Bool). t ≡ true) (eqb q j) _ _ (λ _. refl) (λ _. on)
  hears_stay b j q false heard on = on

  flags_stay : (b q : ℕ) (v : Walk) (call : NetworkCall) (o : Outcome) (heard : ℕ → Bool) → heard q ≡ true → flags b v call o heard q ≡ true
  flags_stay b q v (ticks n) o heard on = on
  flags_stay b q v seconds o heard on = on
  flags_stay b q v (reports n) o heard on = hears_stay b 0 q (done o.reply.answer) heard on
  flags_stay b q v (sends j n buffer t) o heard on = on
  flags_stay b q v (arrives j n packet t) o heard on = hears_stay b j q (done o.reply.answer) heard on
  flags_stay b q v (acts j n packet t) o heard on = hears_stay b j q (done o.reply.answer) heard on
  flags_stay b q v (inspects j packet) o heard on = on
  flags_stay b q v (opens j packet) o heard on = on
  flags_stay b q v (steps n t) o heard on = hears_stay b v.link q (done o.reply.answer && not (is_open o.walk)) heard on
  flags_stay b q v (adjusts _) o heard on = on
  flags_stay b q v (sets _ _) o heard on = on
  flags_stay b q v (clocks _) o heard on = on
  flags_stay b q v (looks _) o heard on = on

  after_stay : (w : World) (x : Step) (heard : ℕ → ℕ → Bool) (b q : ℕ) → heard b q ≡ true → flags_after w x heard b q ≡ true
  unfolding flags_after
  after_stay w x heard b q on = either (λ (f : ℕ → Bool). f q ≡ true) (eqb x.node b) _ _ (λ _. flags_stay b q (after_at r w b).walk x.call (result r w x) (heard b) on) (λ _. on)

  pub all_stay : (w : World) (xs : List Step) (heard : ℕ → ℕ → Bool) (b q : ℕ) → heard b q ≡ true → flags_all w xs heard b q ≡ true
  unfolding flags_all
  all_stay w [] heard b q on = on
  all_stay w (x ∷ xs) heard b q on = all_stay (step r w x) xs (flags_after w x heard) b q (after_stay w x heard b q on)

  here_on : (w : World) (x : Step) (heard : ℕ → ℕ → Bool) (b q : ℕ) → x.node ≡ b → flags b (after_at r w b).walk x.call (result r w x) (heard b) q ≡ true → flags_after w x heard b q ≡ true
  unfolding flags_after
  here_on w x heard b q is on = rw (eq-eqb x.node b is) on

  set_on : (b j q : ℕ) (heard : ℕ → Bool) → j ≡ q → hearing r c b j heard q ≡ true
  set_on b j q heard same = rw (eq-eqb q j (sym same)) refl

  now_heard : (w : World) (x : Step) (heard : ℕ → ℕ → Bool) (b j : ℕ) (call : NetworkCall) → HearsNow r w b j x call
      → (x.node ≡ b) × (flags b (after_at r w b).walk call (result r w x) (heard b) j ≡ true)
  now_heard w x heard b j (ticks n) h = absurd h
  now_heard w x heard b j seconds h = absurd h
  now_heard w x heard b j (reports n) h = absurd h
  now_heard w x heard b j (sends l n buffer t) h = absurd h
  now_heard w x heard b j (arrives l n packet t) h = (h.0, rw h.2 (set_on b l j (heard b) h.1))
  now_heard w x heard b j (acts l n packet t) h = (h.0, rw h.2 (set_on b l j (heard b) h.1))
  now_heard w x heard b j (inspects l packet) h = absurd h
  now_heard w x heard b j (opens l packet) h = absurd h
  now_heard w x heard b j (steps n t) h = (h.0, rw (h.3, h.2) (set_on b (after_at r w b).walk.link j (heard b) h.1))
  now_heard w x heard b j (adjusts _) h = absurd h
  now_heard w x heard b j (sets _ _) h = absurd h
  now_heard w x heard b j (clocks _) h = absurd h
  now_heard w x heard b j (looks _) h = absurd h

  now_reported : (w : World) (x : Step) (heard : ℕ → ℕ → Bool) (b : ℕ) (call : NetworkCall) → ReportsNow r w b x call
      → (x.node ≡ b) × (flags b (after_at r w b).walk call (result r w x) (heard b) 0 ≡ true)
  now_reported w x heard b (ticks n) h = absurd h
  now_reported w x heard b seconds h = absurd h
  now_reported w x heard b (reports n) h = (h.0, rw h.1 refl)
  now_reported w x heard b (sends l n buffer t) h = absurd h
  now_reported w x heard b (arrives l n packet t) h = absurd h
  now_reported w x heard b (acts l n packet t) h = absurd h
  now_reported w x heard b (inspects l packet) h = absurd h
  now_reported w x heard b (opens l packet) h = absurd h
  now_reported w x heard b (steps n t) h = absurd h
  now_reported w x heard b (adjusts _) h = absurd h
  now_reported w x heard b (sets _ _) h = absurd h
  now_reported w x heard b (clocks _) h = absurd h
  now_reported w x heard b (looks _) h = absurd h

  pub heard_on : (w : World) (xs : List Step) (heard : ℕ → ℕ → Bool) (b j : ℕ) → Heard r w b j xs → flags_all w xs heard b j ≡ true
  unfolding Heard flags_all
  heard_on w [] heard b j h = absurd h
  heard_on w (x ∷ xs) heard b j (inl h) = let n = now_heard w x heard b j x.call h in all_stay (step r w x) xs (flags_after w x heard) b j (here_on w x heard b j n.0 n.1)
  heard_on w (x ∷ xs) heard b j (inr h) = heard_on (step r w x) xs (flags_after w x heard) b j h

  pub reported_on : (w : World) (xs : List Step) (heard : ℕ → ℕ → Bool) (b : ℕ) → Reported r w b xs → flags_all w xs heard b 0 ≡ true
  unfolding Reported flags_all
  reported_on w [] heard b h = absurd h
  reported_on w (x ∷ xs) heard b (inl h) = let n = now_reported w x heard b x.call h in all_stay (step r w x) xs (flags_after w x heard) b 0 (here_on w x heard b 0 n.0 n.1)
  reported_on w (x ∷ xs) heard b (inr h) = reported_on (step r w x) xs (flags_after w x heard) b h
