-- What is known of a message that arrived at node b on link i a known time after it was sent, by our reading: its fields, and the result of steps 2 to 4.
use Rattle.std.specs.Prelude.{Some, None}
use mathlib.Core.Path.{◌≡◌, refl, sym, ap, subst₂, ◌∙◌}
use mathlib.Core.Bool.{Bool, true, false, true≢false, false≢true, not, cond, ◌&&◌, ◌||◌}
use mathlib.Core.List.{List}
use Prim.Native.Nat.{ℕ, ◌+◌, ◌≤◌, ◌<◌}
use native.Mathlib.Omega.{arith}
use borrow.Author.Tests.{eqb-true}
use lib.Dec.{eqb}
use lib.IntN.{pos, ◌+ℤ◌, ◌-ℤ◌}
use lib.ListN.{length, get_or}
use lib.Signed.{shr_z}
use Rattle.lists.proofs.Tests.{either}
use Rattle.quantity.specs.declared.Millis.{Millis}
use Rattle.quantity.specs.declared.Word.{Word}
use Rattle.quantity.specs.Quantity.{millis, less_millis}
use Rattle.quantity.specs.Words.{word, wrap, zero_word}
use Rattle.quantity.proofs.Ints.{up, dn, diff, one, lt_yes, lt_no}
use Rattle.quantity.proofs.Wrap.{wrap_range}
use Rattle.wire.specs.declared.Address.{Address}
use Rattle.wire.specs.declared.Packet.{Packet}
use Rattle.wire.specs.declared.Report.{Report}
use Rattle.wire.specs.Hello.{report_at}
use Rattle.wire.specs.Packet.{hello_of, fields}
use Rattle.wire.proofs.ReadBack.{source_back, nhosts_back, time_back, tsp_back, delay_back, offset_back}
use Rattle.route.specs.Find.{above_c, same_net, local_id, find, net_of, search, rows_of}
use Rattle.table.specs.Entry.{max_delay, min_delay}
use Rattle.net_table.specs.declared.NetTable.{NetTable}
use Rattle.host.specs.declared.Settings.{Settings}
use Rattle.host.specs.State.{host_count}
use Rattle.host.specs.Inspection.{other_layout}
use Rattle.arrival.specs.Steps.{tsp_of, delay_of, offset_of, at_least_min}
use Rattle.network_laws.specs.Network.{longest_way, Network, at, Proper}
use Rattle.network_laws.specs.Demand3.{Message}
use Rattle.exchange.proofs.Steps.{tsp_same, tsp_exact, delay_exact}
use Rattle.network_laws.proofs.Lists.{all_at}
use Rattle.network_laws.proofs.Demand3.Near.{Near, Apart, apart, offset_exact, offset_near}
use Rattle.network_laws.proofs.Demand3.Invariant.{RightReport, Tied, Carries, RightMessage, Direct}

-- a packet with a table is in our layout
pub same_count : (s : Settings) (p : Packet) → eqb p.nhosts 0 ≡ false → other_layout s p ≡ false → p.nhosts ≡ s.layout.nhosts
unfolding other_layout
same_count s p n e =
    go (eqb p.nhosts 0) (eqb p.nhosts s.layout.nhosts) (not (eqb p.address_offset s.layout.address_offset)) n refl e
  where
    go : (a b c : Bool) → a ≡ false → eqb p.nhosts s.layout.nhosts ≡ b → (not a && (not b || c)) ≡ false → p.nhosts ≡ s.layout.nhosts
    go true b c n t e = absurd (true≢false n)
    go false true c n t e = eqb-true p.nhosts s.layout.nhosts t
    go false false c n t e = absurd (true≢false e)

-- an id that is found for an address of our net is the one that the address gives, whatever the table
pub found_own : (ours a : Address) (s : Settings) (t : NetTable) (id : ℕ) → same_net ours a ≡ true → find ours s.layout t.net a ≡ Some id → local_id s.layout a ≡ Some id
unfolding find
found_own ours a s t id net e = go (above_c a) (same_net ours a) net e
  where
    go : (x n : Bool) → n ≡ true → cond x None (cond n (local_id s.layout a) (search (net_of a) (rows_of t.net))) ≡ Some id → local_id s.layout a ≡ Some id
    go true n t e = cc
    go false true t e = e
    go false false t e = absurd (false≢true t)

-- a report of a host that is down, as the default for a missing one
abbrev no_report : Report
no_report = record { delay = max_delay; offset = word (pos 0) }

pub raised : (n : ℕ) → (n + dn (at_least_min (millis (pos n))).0 ≤ up (at_least_min (millis (pos n))).0) × (100 + dn (at_least_min (millis (pos n))).0 ≤ up (at_least_min (millis (pos n))).0)
raised n =
    either (λ (m : Millis). (n + dn m.0 ≤ up m.0) × (100 + dn m.0 ≤ up m.0)) (less_millis (millis (pos n)) min_delay) _ _
    (λ t. let l = lt_yes (pos n) (pos 100) t in (omega arith, omega arith))
    (λ t. let l = lt_no (pos n) (pos 100) t in (omega arith, omega arith))

module _ (r : Network) (proper : Proper r) (ways : r.longest ≤ longest_way) (b i : ℕ) (hb : b < r.nodes) (m : Message) (cable : r.cable b i ≡ at m.node m.link) (right : RightMessage r m)
    (now : Millis) (way : ℕ) (short : way ≤ r.longest) (clock : now.0 ≡ (m.ms +ℤ pos way) +ℤ r.fixed b) where
  abbrev a : ℕ
  a = m.node

  abbrev p : Packet
  p = fields m.octets

  -- what is read is what was written
  pub source_is : p.source ≡ (r.settings a).address
  source_is = ap (λ (o : List ℕ). (fields o).source) right.octets_are ∙ source_back right.destination right.packet right.reports ∙ right.source

  pub time_is : p.time.0 ≡ m.ms +ℤ r.fixed a
  time_is =
      ap (λ (o : List ℕ). (fields o).time.0) right.octets_are
      ∙ ap (λ (t : Millis). t.0) (time_back right.destination right.packet right.reports right.time_low (omega (arith, right.time_high)))
      ∙ right.time

  pub tsp_read : p.tsp ≡ right.packet.tsp
  tsp_read = ap (λ (o : List ℕ). (fields o).tsp) right.octets_are ∙ tsp_back right.destination right.packet right.reports right.tsp_fits.high right.tsp_fits.low

  pub count_read : p.nhosts ≡ length right.reports
  count_read = ap (λ (o : List ℕ). (fields o).nhosts) right.octets_are ∙ nhosts_back right.destination right.packet right.reports ∙ right.count

  pub report_read : (id : ℕ) → id < length right.reports → RightReport r a id (report_at (hello_of m.octets) id)
  report_read id inside =
      let here : RightReport r a id (get_or right.reports id no_report) =
      all_at (RightReport r a) no_report
      (λ n. record { not_negative = omega arith; delay_fits = omega arith; fits = omega arith; known = λ low. absurd (false≢true low) })
      right.reports right.right id in
      rw right.octets_are
      (rw (
        delay_back right.destination right.packet right.reports id no_report inside here.not_negative here.delay_fits,
        offset_back right.destination right.packet right.reports id no_report inside here.fits.high here.fits.low,
      ) here)

  pub near_clocks : Apart (r.fixed a) (r.fixed b)
  near_clocks = apart (r.fixed a) (r.fixed b) (proper.fixed_near a b right.node_in hb)

  -- 3: the link's TSP has the bits of the true difference less this way
  pub tied : (b' j : ℕ) → r.cable b i ≡ at b' j → Tied r b b' (tsp_of p.time now).0
  tied b' j e =
      let same : b' ≡ a = cc in
      record {
        way = way;
        short = short;
        bits =
            rw same
            (tsp_same 16 (omega arith) (r.fixed a) (r.fixed b) m.ms p.time.0 now.0 way time_is clock);
      }

  -- 3, of a packet whose TSP is not 0: DELAY is the sum of the ways, and OFFSET is near
  pub direct_right : zero_word p.tsp ≡ false → Direct r b a (delay_of now p.tsp) (offset_of (tsp_of p.time now) (delay_of now p.tsp))
  direct_right z = record { fits = record { high = w.0; low = w.1 }; near = λ _. near }
    where
      w : (up (wrap 16 ((tsp_of p.time now).0 +ℤ shr_z (delay_of now p.tsp).0 2)) < 32768) × (dn (wrap 16 ((tsp_of p.time now).0 +ℤ shr_z (delay_of now p.tsp).0 2)) ≤ 32768)
      w = wrap_range 16 (omega arith) ((tsp_of p.time now).0 +ℤ shr_z (delay_of now p.tsp).0 2)

      carried : Carries r b m.ms p.tsp.0
      carried = rw tsp_read (right.tsp b i (proper.cables b i a m.link cable).other_end (rw tsp_read at z))

      delay_is : delay_of now p.tsp ≡ millis (pos (carried.way + way))
      delay_is = ap millis (delay_exact 16 (omega arith) (r.fixed b) m.ms p.tsp.0 now.0 carried.way way carried.bits clock (omega (arith, carried.short)))

      tsp_is : tsp_of p.time now ≡ word ((r.fixed a -ℤ r.fixed b) -ℤ pos way)
      tsp_is =
          let range = diff (r.fixed a -ℤ r.fixed b) (pos way) in
          ap word
          (tsp_exact 16 (omega arith) (r.fixed a) (r.fixed b) m.ms p.time.0 now.0 way time_is clock
          (omega (arith, near_clocks, one ((r.fixed a -ℤ r.fixed b) -ℤ pos way))) (omega (arith, near_clocks, one ((r.fixed a -ℤ r.fixed b) -ℤ pos way))))

      near : Near (wrap 16 ((tsp_of p.time now).0 +ℤ shr_z (delay_of now p.tsp).0 2)) (r.fixed a) (r.fixed b) (at_least_min (delay_of now p.tsp)).0
      near =
          subst₂ (λ (v : Word) (d : Millis). Near (wrap 16 (v.0 +ℤ shr_z d.0 2)) (r.fixed a) (r.fixed b) (at_least_min d).0) (sym tsp_is) (sym delay_is)
          (rw (offset_exact (r.fixed a) (r.fixed b) carried.way way near_clocks (omega (arith, carried.short)) (omega arith))
          (offset_near (r.fixed a) (r.fixed b) carried.way way near_clocks (omega (arith, carried.short)) (omega arith) (at_least_min (millis (pos (carried.way + way)))).0
          (raised (carried.way + way)).0 (raised (carried.way + way)).1))

  -- 4, a new neighbour: DELAY is 30,000, and nothing is stored
  pub new_right : (d : Millis) → Direct r b a max_delay (offset_of (tsp_of p.time now) d)
  new_right d =
      let w = wrap_range 16 (omega arith) ((tsp_of p.time now).0 +ℤ shr_z d.0 2) in
      record { fits = record { high = w.0; low = w.1 }; near = λ low. absurd (false≢true low) }

  -- each id of our table has a report
  pub reports_read : other_layout (r.settings b) p ≡ false → eqb p.nhosts 0 ≡ false
      → (id : ℕ) → id < host_count (r.settings b) → RightReport r a id (report_at (hello_of m.octets) id)
  reports_read ours some id inside =
      report_read id (omega (arith, same_count (r.settings b) p some ours, count_read))
