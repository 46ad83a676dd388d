-- What a box does to the entries: nothing, or it puts one in the place of its id, which is one of the host's.
use Rattle.std.specs.Prelude.{Option, Some, None, Result, Ok, Err}
use Rattle.answer.specs.declared.Answer.{Answer}
use mathlib.Core.Path.{◌≡◌, refl}
use mathlib.Core.Bool.{Bool, true, false, false≢true, not, ◌&&◌, ◌||◌}
use mathlib.Core.List.{List}
use Prim.Native.Nat.{ℕ, ◌+◌, ◌<◌}
use native.Mathlib.Omega.{arith}
use borrow.Author.Tests.{ltb-true}
use lib.Dec.{ltb, eqb}
use Rattle.lists.proofs.Tests.{either, both, is_so}
use Rattle.clock.specs.declared.Counter.{Counter}
use Rattle.wire.specs.declared.Packet.{Packet}
use Rattle.net_table.specs.declared.NetTable.{NetTable}
use Rattle.table.specs.declared.Entry.{Entry}
use Rattle.table.specs.declared.entries.Changes.{Changes}
use Rattle.table.specs.Forms.{Stage, on, end}
use Rattle.table.specs.Update.{line_a, line_b, line_c}
use Rattle.host.specs.declared.Effect.{Effect}
use Rattle.host.specs.declared.Settings.{Settings}
use Rattle.host.specs.declared.walk.Walk.{Walk}
use Rattle.host.specs.declared.walk.Place.{Place}
use Rattle.host.specs.declared.walk.Place.TheVariants.{Step1, Step2, Step3, Step4, Step5, LineA, LineB, LineC, LineD}
use Rattle.host.specs.Settings.{settings_good, found_for}
use Rattle.host.specs.State.{host_count, broadcast, link_of}
use Rattle.host.specs.declared.Host.{Host}
use Rattle.host.specs.CallState.{host}
use Rattle.host.specs.Inspection.{inspect}
use Rattle.host.specs.Walk.{is_open, place_of, line_place, packet_of, line_update, reading_in_range, id_in_range, walk_fields_at, packet_fits, walk_in_range}
use Rattle.host.specs.Effect.{nothing}
use Rattle.host.proofs.Sound.{sound}
use Rattle.host.proofs.Walks.{opened_says}
use Rattle.arrival.specs.declared.Flight.{Flight}
use Rattle.arrival.specs.Steps.{step4}
use Rattle.walk.specs.Boxes.{in_flight, raised, fourth, to_neighbor, next_id, put, is_clock_host, clock_set, after_a, after_b, after_c, box1, box2, box3, box4, box5, box_a, box_b, box_c, box_d, at_hand, box_at, box_of, step}

module _ (P : Changes → Type 0) (k : Counter) (p : Packet) (octets : List ℕ) (t : NetTable) (h : Host) (w : Walk) (e : Entry) (none : P nothing) where
  abbrev Does : Effect → Type 0
  Does x = P x.work

  four : (s : Stage Flight) → Does (fourth h w s)
  four (end f) = none
  four (on f) = none

  found : (f : Option ℕ) → Does (to_neighbor h (raised w) f)
  found None = none
  found (Some id) = none

  next : (g : Host) (work : Changes) → P work → Does (next_id p g w work)
  next g work done = either Does (eqb p.nhosts 0 || not (ltb (w.id + 1) (host_count g.settings))) _ _ (λ _. done) (λ _. done)

  module _ (puts : (x : Entry) → P (put w x)) where
    a : (s : Stage Entry) → Does (after_a p h w s)
    a (end x) = next h nothing none
    a (on x) = none

    b : (s : Stage Entry) → Does (after_b p h w s)
    b (end x) = next h (put w x) (puts x)
    b (on x) = none

    c : (s : Stage Entry) → Does (after_c p h w s)
    c (end x) = next h (put w x) (puts x)
    c (on x) = either Does (is_clock_host h w) _ _ (λ _. puts x) (λ _. next h (put w x) (puts x))

  -- an id that is held is one of the host's
  pub box_work : (id_in_range h.settings w ≡ true → (x : Entry) → P (put w x)) → (q : Option Place) → walk_fields_at q h.settings w p octets ≡ true
      → Does (box_at q k p octets t h w e)
  unfolding box1 box2 box3 box4 box5 box_a box_b box_c box_d
  box_work puts None held = none
  box_work puts (Some Step1) held = none
  box_work puts (Some Step2) held = none
  box_work puts (Some Step3) held = none
  box_work puts (Some Step4) held = four (step4 (broadcast h.settings w.link) h.clock.hold p (in_flight h.links w))
  box_work puts (Some Step5) held =
      either Does (eqb p.nhosts 0) _ _ (λ _. found (found_for t h.settings (link_of h.links w.link).neighbor)) (λ _. none)
  box_work puts (Some LineA) held =
      let id = (both (reading_in_range w) (id_in_range h.settings w) held).1 in
      a (puts id) (line_a (line_update w p octets) e)
  box_work puts (Some LineB) held =
      let id = (both (reading_in_range w) (id_in_range h.settings w) held).1 in
      b (puts id) (line_b (line_update w p octets) e)
  box_work puts (Some LineC) held =
      let id = (both (reading_in_range w) (id_in_range h.settings w) (both (reading_in_range w && id_in_range h.settings w) _ held).0).1 in
      c (puts id) (line_c (line_update w p octets) e)
  box_work puts (Some LineD) held = next (host h.settings (clock_set p octets h w) h.links) nothing none

found_id : {i j : ℕ} → Some i ≡ Some j → i ≡ j
found_id e = cc

nothing_is_no_id : {A : Type 0} {i : ℕ} → None ≡ Some i → A
nothing_is_no_id e = let z : ◌≡◌ {A = ℕ} 0 1 = cc in absurd (omega arith)

module _ (s : Settings) (w : Walk) (copy : List ℕ) (in_range : walk_in_range s w copy ≡ true) where
  -- the work of a step
  pub step_work : (P : Changes → Type 0) (k : Counter) (t : NetTable) (h : Host) (e : Entry) → h.settings ≡ s → P nothing
      → (id_in_range s w ≡ true → (x : Entry) → P (put w x)) → P (step k t h w copy e).work
  unfolding step
  step_work P k t h e same none puts =
      either (λ (x : Effect). P x.work) (not (is_open w)) _ _ (λ _. none)
      (λ f. (let o = opened_says s w copy in_range (is_so _ f) in
      go (inspect h.settings w.link (packet_of w copy)) (rw same o.held)))
    where
      go : (q : Result Packet Answer) → packet_fits h.settings w (packet_of w copy) q ≡ true → P (box_of k (packet_of w copy) t h w e q).work
      go (Err a) held = absurd (false≢true held)
      go (Ok p) held = box_work P k p (packet_of w copy) t h w e none (λ i. puts (rw (← same) i)) (place_of w) held

  -- at a line an id is held
  module _ (p : Packet) (octets : List ℕ) where
    abbrev Held : Option Place → Type 0
    Held q = walk_fields_at q s w p octets ≡ true → id_in_range s w ≡ true

    nowhere : Held None
    nowhere f = absurd (false≢true f)

    line : (m : ℕ) → Held (line_place m)
    line m =
        either Held (eqb m 1) _ _ (λ _ f. (both (reading_in_range w) (id_in_range s w) f).1)
        (λ _. either Held (eqb m 2) _ _ (λ _ f. (both (reading_in_range w) (id_in_range s w) f).1)
        (λ _. either Held (eqb m 3) _ _ (λ _ f. (both (reading_in_range w) (id_in_range s w) (both (reading_in_range w && id_in_range s w) _ f).0).1)
        (λ _. either Held (eqb m 4) (Some LineD) None (λ _ f. (both (reading_in_range w) (id_in_range s w) f).1) (λ _. nowhere))))

    at_line_lem : eqb w.line 0 ≡ false → Held (place_of w)
    unfolding place_of
    at_line_lem some = rw some (either Held (eqb w.step 5) (line_place w.line) None (λ _. line w.line) (λ _. nowhere))

  -- the id at hand
  pub at_hand_in : settings_good s ≡ true → (id : ℕ) → at_hand w ≡ Some id → id < host_count s
  at_hand_in good id e = go (is_open w) (eqb w.line 0) refl refl
    where
      held : (q : Result Packet Answer) → packet_fits s w (packet_of w copy) q ≡ true → eqb w.line 0 ≡ false → id_in_range s w ≡ true
      held (Err a) f some = absurd (false≢true f)
      held (Ok p) f some = at_line_lem p (packet_of w copy) some f

      go : (a b : Bool) → is_open w ≡ a → eqb w.line 0 ≡ b → id < host_count s
      go true false f g =
          let o = opened_says s w copy in_range f in
          let i = ltb-true w.id s.layout.nhosts (held (inspect s w.link (packet_of w copy)) o.held g) in
          let same : w.id ≡ id = found_id (rw (f, g) at e) in
          omega (arith, i, same, (sound s good).hosts_to)
      go false b f g = nothing_is_no_id (rw f at e)
      go true true f g = nothing_is_no_id (rw (f, g) at e)
