-- A box's effect by its place: a clock, links and work. Each is unchanged, or made from one link, one entry or the clock.
use Rattle.std.specs.Prelude.{Option, Some, None, Result}
use Rattle.answer.specs.declared.Answer.{Answer}
use mathlib.Core.Path.{◌≡◌, refl, ap, sym, subst, ◌∙◌}
use mathlib.Core.Bool.{Bool, true, false, false≢true, not, ◌&&◌, ◌||◌}
use mathlib.Core.List.{List, [], ◌∷◌}
use Prim.Native.Nat.{ℕ, zero, suc, ◌+◌, ◌-◌}
use native.Mathlib.Omega.{arith}
use borrow.Author.Tests.{ltb-true, ltb-false, eqb-true}
use lib.Dec.{ltb, eqb}
use lib.ListN.{length, get_or, set}
use lib.Seq.{get_or-set_other}
use Rattle.lists.proofs.Tests.{either, is_so}
use Rattle.quantity.specs.Quantity.{add_millis, less_millis}
use Rattle.quantity.specs.Words.{zero_word}
use Rattle.answer.specs.declared.Answer.TheVariants.{Done}
use Rattle.clock.specs.declared.Clock.{Clock}
use Rattle.clock.specs.declared.Counter.{Counter}
use Rattle.wire.specs.declared.Packet.{Packet}
use Rattle.wire.specs.Octets.{same_address}
use Rattle.wire.specs.Packet.{fields}
use Rattle.table.specs.declared.Entry.{Entry}
use Rattle.table.specs.declared.Update.{Update}
use Rattle.table.specs.declared.entries.Changes as entries
use Rattle.table.specs.Forms.{Stage, on}
use Rattle.table.specs.Entry.{max_delay, min_delay, up, taken_down}
use Rattle.table.specs.Update.{line_a, line_b, line_c}
use Rattle.table.specs.Runs as runs
use Rattle.table.proofs.Cases.{stored}
use Rattle.host.specs.declared.Link.{Link}
use Rattle.host.specs.declared.Effect.{Effect}
use Rattle.host.specs.declared.walk.Walk.{Walk}
use Rattle.host.specs.declared.walk.Place.{Place}
use Rattle.host.specs.declared.walk.Place.TheVariants.{Step1, Step2, Step3, Step4, Step5, LineA, LineB, LineC, LineD}
use Rattle.host.specs.declared.guard.Scope.TheVariants.{Walking}
use Rattle.host.specs.Settings.{found_for}
use Rattle.host.specs.State.{first_place, host_count, broadcast, unset, fresh_link, link_of, with_link, no_link, own_entries, with_entries}
use Rattle.host.specs.declared.Host.{Host}
use Rattle.host.specs.CallState.{host, CallState, entries_of}
use Rattle.host.specs.Reply.{plainly}
use Rattle.host.specs.Walk.{is_open, place_of, packet_of, line_update, walk_in_range}
use Rattle.host.specs.Effect.{nothing}
use Rattle.host.specs.Guard.{done}
use Rattle.host.proofs.Places.{Holds}
use Rattle.host.proofs.Guarded.{passed, walk_state, counted}
use Rattle.host.proofs.Walks.{opened_says}
use Rattle.arrival.specs.declared.Flight.{Flight}
use Rattle.arrival.specs.Steps.{step2, step3, step4}
use Rattle.walk.specs.Boxes.{in_flight, raised, fourth, to_neighbor, next_id, put, is_clock_host, clock_set, after_a, after_b, box1, box2, box3, box4, box5, box_a, box_b, box_c, box_d, box_at, box_of, at_hand}
use Rattle.walk.specs.Boxes as walk
use Rattle.calls.specs.Perform.{Outcome, step, entry_at, carried_out, work}
use Rattle.network_laws.specs.EachBox.{SameClock, SameLinks, SameEntries, ChangesLink, KeepAlive, Tsp, Neighbor, Changes, EachBox}
use Rattle.network_laws.proofs.Lists.{All, all_of, all_there, all_part, all_over}
use Rattle.network_laws.proofs.Performs.{performs, there}
use Rattle.network_laws.proofs.Swept.{changes_length, changes_keep}
use Rattle.network_laws.proofs.Written.{written_kept, answered}
use Rattle.network_laws.proofs.Walking.{inspect_cases}

-- ---- one element stored in a list

-- what a function of the element says at its place stays, where it says the same of the element stored
same_there : {A B : Type 0} (f : A → B) (l : List A) (i : ℕ) (a d : A) → f a ≡ f (get_or l i d) → f (get_or (set l i a) i d) ≡ f (get_or l i d)
same_there f [] i a d e = refl
same_there f (b ∷ l) zero a d e = e
same_there f (b ∷ l) (suc i) a d e = same_there f l i a d e

module _ (k : Counter) (x : CallState) where
  abbrev h : Host
  h = x.host

  abbrev w : Walk
  w = x.walk

  -- ---- links: as they were, or with one stored

  linked : (F : (before after : Link) → Type 0) → ((y : Link) → F y y) → (o : Outcome) → SameLinks x o → ChangesLink F x o
  linked F same o l =
      record {
        field = subst (λ m. F (link_of h.links w.link) (link_of m w.link)) (sym l) (same (link_of h.links w.link));
        others = λ i g not. ap (λ m. link_of m i) l;
      }

  module _ (has : no_link h.settings w.link ≡ false) (y : Link) where
    abbrev was : Link
    was = link_of h.links w.link

    abbrev now_is : Link
    now_is = link_of (with_link w.link y h.links) w.link

    keeps : {B : Type 0} (f : Link → B) → f y ≡ f was → f now_is ≡ f was
    keeps f e = same_there f h.links.all (w.link - 1) y (fresh_link unset) e

    stored_in : (F : (before after : Link) → Type 0) → F was now_is → (o : Outcome) → o.links ≡ with_link w.link y h.links → ChangesLink F x o
    stored_in F e o l =
        record {
          field = subst (λ m. F was (link_of m w.link)) (sym l) e;
          others = λ i g not.
              ap (λ m. link_of m i) l
              ∙ get_or-set_other h.links.all (w.link - 1) (i - 1) y (fresh_link unset)
              (λ z. not (let c = (counted h.settings w.link has).from_one in omega arith));
        }

  -- ---- a refusal

  refusal : (o : Outcome) → done o.reply.answer ≡ false → SameClock x o → SameLinks x o → SameEntries x o → (q : Option Place) → Changes q k x o
  refusal o bad c l r None = (c, l, r)
  refusal o bad c l r (Some Step1) = ((λ yes. absurd (false≢true (sym bad ∙ yes))), l, r)
  refusal o bad c l r (Some Step2) = (c, linked KeepAlive (λ y. (refl, refl)) o l, r)
  refusal o bad c l r (Some Step3) = (c, linked Tsp (λ y. (refl, refl)) o l, r)
  refusal o bad c l r (Some Step4) = (c, linked Neighbor (λ y. (refl, refl)) o l, r)
  refusal o bad c l r (Some Step5) = (c, l, r, λ _ yes. absurd (false≢true (sym bad ∙ yes)))
  refusal o bad c l r (Some LineA) = (c, l, r)
  refusal o bad c l r (Some LineB) = (c, l, λ i d not. ap (λ entries. get_or entries i d) r)
  refusal o bad c l r (Some LineC) = (c, l, λ i d not. ap (λ entries. get_or entries i d) r)
  refusal o bad c l r (Some LineD) = ((λ not. c), l, r)

  -- ---- the host table: as it was, or with one entry changed

  module _ (held : Holds x.number x.entries) where
    abbrev after : entries.Changes → List Entry
    after work = with_entries x.number (runs.changes work (entries_of x)) x.entries

    same_run : after nothing ≡ x.entries
    same_run = ap (λ (o : Outcome). o.entries) (answered x held (plainly Done) h.clock h.links w)

    module _ (y : Entry) (i : ℕ) (d : Entry) (not : i ≡ first_place x.number + w.id → ⊥) where
      abbrev P : ℕ → Entry → Type 0
      P j e = (j ≡ first_place x.number + w.id → ⊥) → e ≡ get_or x.entries j d

      put_kept : (t : Bool) → ltb i (length x.entries) ≡ t → get_or (after (put w y)) i d ≡ get_or x.entries i d
      unfolding own_entries with_entries
      put_kept true e =
          let all : All P x.entries = all_of P d x.entries (λ j g n. refl) in
          let own = all_part P d (first_place x.number) (host_count h.settings) x.entries all in
          let made = changes_keep (put w y) (entries_of x) (λ j. P (j + first_place x.number)) (λ id a low high is z n. absurd (n (omega arith))) own in
          let long = changes_length (put w y) (entries_of x) in
          let whole = all_over (first_place x.number) (host_count h.settings) x.entries (runs.changes (put w y) (entries_of x)) long P d all made in
          let size = (written_kept x (runs.changes (put w y) (entries_of x)) held long).same_length in
          all_there P d (after (put w y)) whole i (let l = ltb-true i (length x.entries) e in omega (arith, size)) not
      put_kept false e =
          let l = ltb-false i (length x.entries) e in
          (written_kept x (runs.changes (put w y) (entries_of x)) held (changes_length (put w y) (entries_of x))).behind i d (omega arith)

    abbrev Puts : entries.Changes → Type 0
    Puts work = (i : ℕ) (d : Entry) → (i ≡ first_place x.number + w.id → ⊥) → get_or (after work) i d ≡ get_or x.entries i d

    puts : (y : Entry) → Puts (put w y)
    puts y i d not = put_kept y i d not (ltb i (length x.entries)) refl

    puts_none : Puts nothing
    puts_none i d not = ap (λ (entries : List Entry). get_or entries i d) same_run

    -- ---- the boxes

    abbrev octets : List ℕ
    octets = packet_of w x.copy

    abbrev p : Packet
    p = fields octets

    module _ (has : no_link h.settings w.link ≡ false) (e : Entry) where
      abbrev Is : Option Place → Effect → Type 0
      Is q f = Changes q k x (carried_out f x)

      -- the next id, or the end, with this work
      next : (P : Effect → Type 0) (c : Clock) (work : entries.Changes)
          → ((r : Effect) → r.clock ≡ c → r.links ≡ h.links → r.work ≡ work → P r) → P (next_id p (host h.settings c h.links) w work)
      next P c work f = either P (eqb p.nhosts 0 || not (ltb (w.id + 1) (host_count h.settings))) _ _ (λ _. f _ refl refl refl) (λ _. f _ refl refl refl)

      quiet : (r : Effect) → r.work ≡ nothing → SameEntries x (carried_out r x)
      quiet r z = ap after z ∙ same_run

      second : Is (Some Step2) (box2 h w)
      unfolding box2 step2
      second = (refl, stored_in has _ KeepAlive (keeps has _ (λ (l : Link). l.neighbor) refl, keeps has _ (λ (l : Link). l.tsp) refl) _ refl, same_run)

      third : Is (Some Step3) (box3 p h w)
      unfolding box3 step3
      third = (refl, stored_in has _ Tsp (keeps has _ (λ (l : Link). l.neighbor) refl, keeps has _ (λ (l : Link). l.keep_alive) refl) _ refl, same_run)

      neighbor : (y : Link) → y.keep_alive ≡ (link_of h.links w.link).keep_alive → y.tsp ≡ (link_of h.links w.link).tsp
          → (o : Outcome) → o.links ≡ with_link w.link y h.links → ChangesLink Neighbor x o
      neighbor y a b o l = stored_in has y Neighbor (keeps has y (λ (l : Link). l.keep_alive) a, keeps has y (λ (l : Link). l.tsp) b) o l

      abbrev f : Flight
      f = in_flight h.links w

      fourth_box : Is (Some Step4) (box4 p h w)
      unfolding box4 step4
      fourth_box =
          either Q (broadcast h.settings w.link) _ _ (λ _. goes_on)
          (λ _. either Q (not (same_address p.source f.link.neighbor)) _ _ (λ _. (refl, neighbor _ refl refl _ refl, same_run))
          (λ _. either Q (zero_word p.tsp || not (eqb h.clock.hold.0 0)) _ _ (λ _. (refl, neighbor _ refl refl _ refl, same_run)) (λ _. goes_on)))
        where
          Q : Stage Flight → Type 0
          Q s = Is (Some Step4) (fourth h w s)

          goes_on : Q (on f)
          goes_on = (refl, neighbor _ refl refl _ refl, same_run)

      -- the id by the net table of this box
      found : (g : Option ℕ) → found_for x.nets h.settings (link_of h.links w.link).neighbor ≡ g → Is (Some Step5) (to_neighbor h (raised w) g)
      found None is = (refl, refl, same_run, λ _ yes. absurd (false≢true yes))
      found (Some id) is = (refl, refl, same_run, λ _ _. is)

      abbrev u : Update
      u = line_update w p octets

      line_a_lem : Is (Some LineA) (box_a p octets h w e)
      unfolding box_a line_a
      line_a_lem =
          either (λ (s : Stage Entry). Is (Some LineA) (after_a p h w s)) (not (eqb u.pid e.pid) && less_millis e.delay (add_millis u.delay min_delay)) _ _
          (λ _. next (Is (Some LineA)) h.clock nothing (λ r a b z. (a, b, quiet r z))) (λ _. (refl, refl, same_run))

      put_next : (q : Option Place) → ((r : Effect) → r.clock ≡ h.clock → r.links ≡ h.links → Puts r.work → Is q r) → (y : Entry) → Is q (next_id p h w (put w y))
      put_next q g y = next (Is q) h.clock (put w y) (λ r a b z. g r a b (subst Puts (sym z) (puts y)))

      line_b_lem : Is (Some LineB) (box_b p octets h w e)
      unfolding box_b line_b
      line_b_lem =
          either Q (up e) _ _
          (λ _. either Q (less_millis u.delay max_delay) _ _ (λ _. goes_on) (λ _. put_next (Some LineB) (λ r a b z. (a, b, z)) (taken_down e)))
          (λ _. either Q (less_millis u.delay max_delay && eqb e.ttl.0 0) _ _ (λ _. goes_on) (λ _. put_next (Some LineB) (λ r a b z. (a, b, z)) e))
        where
          Q : Stage Entry → Type 0
          Q s = Is (Some LineB) (after_b p h w s)

          goes_on : Q (on e)
          goes_on = (refl, refl, puts_none)

      line_c_lem : Is (Some LineC) (box_c p octets h w e)
      unfolding box_c line_c
      line_c_lem = either (Is (Some LineC)) (is_clock_host h w) _ _ (λ _. (refl, refl, puts (stored u e))) (λ _. put_next (Some LineC) (λ r a b z. (a, b, z)) (stored u e))

      line_d_lem : Is (Some LineD) (box_d p octets h w)
      unfolding box_d
      line_d_lem = next (Is (Some LineD)) (clock_set p octets h w) nothing (λ r a b z. ((λ not. a ∙ stays not), b, quiet r z))
        where
          stays : (w.id ≡ h.settings.clock_host → ⊥) → clock_set p octets h w ≡ h.clock
          stays not = either (λ (c : Clock). c ≡ h.clock) (is_clock_host h w) _ _ (λ t. absurd (not (eqb-true _ _ t))) (λ _. refl)

      boxed : (q : Option Place) → Is q (box_at q k p octets x.nets h w e)
      unfolding box1 box5
      boxed None = (refl, refl, same_run)
      boxed (Some Step1) = ((λ _. refl), refl, same_run)
      boxed (Some Step2) = second
      boxed (Some Step3) = third
      boxed (Some Step4) = fourth_box
      boxed (Some Step5) =
          either (Is (Some Step5)) (eqb p.nhosts 0) _ _ (λ _. found (found_for x.nets h.settings (link_of h.links w.link).neighbor) refl)
          (λ no. (refl, refl, same_run, λ none _. absurd (false≢true (sym no ∙ none))))
      boxed (Some LineA) = line_a_lem
      boxed (Some LineB) = line_b_lem
      boxed (Some LineC) = line_c_lem
      boxed (Some LineD) = line_d_lem

    stepped : (e : Entry) → walk_in_range h.settings w x.copy ≡ true → Changes (place_of w) k x (carried_out (walk.step k x.nets h w x.copy e) x)
    unfolding walk.step
    stepped e in_range =
        either (λ (f : Effect). Changes (place_of w) k x (carried_out f x)) (not (is_open w)) _ _ (λ _. refusal _ refl refl refl same_run (place_of w))
        (λ f.
        inspect_cases (λ (q : Result Packet Answer). Changes (place_of w) k x (carried_out (box_of k octets x.nets h w e q) x)) h.settings w.link octets
        (λ a. refusal _ refl refl refl same_run (place_of w))
        (boxed (opened_says h.settings w x.copy in_range (is_so _ f)).link e (place_of w)))

pub each_box_holds : EachBox
unfolding EachBox
each_box_holds k x =
    record {
      changes = performs (step k) x (Changes (place_of x.walk) k x) (λ no. refusal k x _ no refl refl refl (place_of x.walk))
          (λ ok. stepped k x (there (step k) x ok) (entry_at (at_hand x.walk) x) (walk_state x ((passed Walking x ok).call_state refl)));
      copy = performs (step k) x (λ o. o.copy ≡ x.copy) (λ _. refl) (λ _. refl);
    }
