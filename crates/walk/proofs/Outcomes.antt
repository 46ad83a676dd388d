-- What a box comes to by how its step or line came out in the code.
use mathlib.Core.Path.{◌≡◌}
use mathlib.Core.List.{List}
use mathlib.Core.Bool.{true, false}
use Prim.Native.Nat.{ℕ, ◌+◌}
use lib.Dec.{ltb, eqb}
use Rattle.answer.specs.declared.Answer.TheVariants.{Done, DelayNotValid}
use Rattle.wire.specs.declared.Packet.{Packet}
use Rattle.table.specs.declared.Entry.{Entry}
use Rattle.std.specs.declared.ops.ControlFlow.TheVariants.{Continue, Break}
use Rattle.table.specs.declared.entries.Changes.{Changes}
use Rattle.table.specs.Forms.{Stage, on, flow_of}
use Rattle.table.specs.Update.{line_a, line_b, line_c}
use Rattle.table.proofs.Stages.{goes_on, ends}
use Rattle.host.specs.declared.walk.Walk.{Walk}
use Rattle.host.specs.State.{host_count, broadcast}
use Rattle.host.specs.declared.Host.{Host}
use Rattle.host.specs.Walk.{line_update}
use Rattle.host.specs.Effect.{nothing}
use Rattle.arrival.specs.declared.Flight.{Flight}
use Rattle.arrival.specs.Steps.{step4}
use Rattle.walk.specs.Boxes.{in_flight, storing, holding, at_step, at_line, onward, ended, next_id, put, after_c, box4, box_a, box_b, box_c}

module _ (p : Packet) (octets : List ℕ) (h : Host) (w : Walk) (e x : Entry) where
  pub a_ends : Break x ≡ flow_of (line_a (line_update w p octets) e) → next_id p h w nothing ≡ box_a p octets h w e
  unfolding box_a
  a_ends q = rw (ends (line_a (line_update w p octets) e) x q)

  pub a_goes_on : Continue x ≡ flow_of (line_a (line_update w p octets) e) → onward (at_line 2 w.id w) h.clock h.links nothing ≡ box_a p octets h w e
  unfolding box_a
  a_goes_on q = rw (goes_on (line_a (line_update w p octets) e) x q)

  pub b_ends : Break x ≡ flow_of (line_b (line_update w p octets) e) → next_id p h w (put w x) ≡ box_b p octets h w e
  unfolding box_b
  b_ends q = rw (ends (line_b (line_update w p octets) e) x q)

  pub b_goes_on : Continue x ≡ flow_of (line_b (line_update w p octets) e) → onward (at_line 3 w.id w) h.clock h.links nothing ≡ box_b p octets h w e
  unfolding box_b
  b_goes_on q = rw (goes_on (line_b (line_update w p octets) e) x q)

  pub c_ends : Break x ≡ flow_of (line_c (line_update w p octets) e) → next_id p h w (put w x) ≡ box_c p octets h w e
  unfolding box_c
  c_ends q = rw (ends (line_c (line_update w p octets) e) x q)

  pub c_goes_on : Continue x ≡ flow_of (line_c (line_update w p octets) e) → after_c p h w (on x) ≡ box_c p octets h w e
  unfolding box_c
  c_goes_on q = rw (goes_on (line_c (line_update w p octets) e) x q)

module _ (p : Packet) (h : Host) (w : Walk) (f : Flight) where
  abbrev came : Stage Flight
  came = step4 (broadcast h.settings w.link) h.clock.hold p (in_flight h.links w)

  pub four_ends : Break f ≡ flow_of came → ended DelayNotValid h.clock (storing f w h.links) nothing ≡ box4 p h w
  unfolding box4
  four_ends q = rw (ends came f q)

  pub four_goes_on : Continue f ≡ flow_of came → onward (at_step 5 (holding f w)) h.clock (storing f w h.links) nothing ≡ box4 p h w
  unfolding box4
  four_goes_on q = rw (goes_on came f q)

-- behind an id
module _ (p : Packet) (h : Host) (w : Walk) (work : Changes) (some : eqb p.nhosts 0 ≡ false) where
  pub last : ltb (w.id + 1) (host_count h.settings) ≡ false → ended Done h.clock h.links work ≡ next_id p h w work
  last e = rw (some, e)

  pub more : ltb (w.id + 1) (host_count h.settings) ≡ true → onward (at_line 1 (w.id + 1) w) h.clock h.links work ≡ next_id p h w work
  more e = rw (some, e)
