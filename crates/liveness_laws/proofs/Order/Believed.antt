-- A message that arrives in order makes an entry better: its report is no more than any that the entry came by, because reports of one sender only fall.
use mathlib.Core.Path.{◌≡◌, sym, ap, subst, ◌∙◌}
use mathlib.Core.Bool.{Bool, true}
use mathlib.Core.List.{List}
use mathlib.Core.Logic.{◌⊎◌, inl, inr}
use Prim.Native.Nat.{ℕ, suc, ◌+◌, ◌≤◌}
use native.Mathlib.Omega.{arith}
use lib.IntN.{pos}
use Rattle.quantity.proofs.Ints.{up}
use Rattle.table.specs.declared.Entry.{Entry}
use Rattle.table.specs.declared.Update.{Update}
use Rattle.table.specs.Entry as entry
use Rattle.table.specs.Update.{lines, left}
use Rattle.host.proofs.Guarded.{counted}
use Rattle.network_laws.specs.Network.{Network, at, Proper}
use Rattle.network_laws.specs.Demand3.{Message}
use Rattle.liveness_laws.specs.Numbers.{rise}
use Rattle.liveness_laws.specs.Hops.{Hops}
use Rattle.liveness_laws.specs.Order.{Stands}
use Rattle.liveness_laws.proofs.Lines.{any_hops}
use Rattle.liveness_laws.proofs.Measured as measured
use Rattle.liveness_laws.proofs.Measured.{Worded}
use Rattle.liveness_laws.proofs.Rounds.Entry.{hearing}
use Rattle.liveness_laws.proofs.Rounds.Heard.{Mine, flag}
use Rattle.liveness_laws.proofs.Host.State.{Believes}
use Rattle.liveness_laws.proofs.Order.Entry.{Better, Below, better_shown, From, before, returned, Returned, returned_entry}
use Rattle.liveness_laws.proofs.Order.Cables.{On, Word, Web, Arrow, same_arrow}

-- a message that an arrival at link j of host b has taken in order
pub record Sent (r : Network) (i b : ℕ) (mail : List Message) (last-b : ℕ → ℕ) (e : Entry) (j : ℕ) (octets : List ℕ) : Type 0 where
  pub letter : Message
  pub number : ℕ
  pub stands : Stands letter number mail
  pub other_end : r.cable b j ≡ at letter.node letter.link
  pub a_copy : octets ≡ letter.octets
  pub no_later : number ≤ last-b j
  pub near : Worded octets → entry.up e ≡ true → e.pid ≡ j → rise + measured.returned i octets ≤ up e.delay.0

-- the entry of host b after a call: it is no longer, and its PID leads to a smaller DELAY
pub record Rest (r : Network) (c i k : ℕ) (E : ℕ → Entry) (mail : List Message) (b : ℕ) (last-b : ℕ → ℕ) (f : Entry) : Type 0 where
  pub better : Better (E b) f
  pub arrows : (j a n : ℕ) → r.cable b j ≡ at a n → entry.up f ≡ true → f.pid ≡ j → Arrow r c i k b j a n f (E a) mail (last-b j)

module _ (r : Network) (proper : Proper r) (c i k : ℕ) (E : ℕ → Entry) (mail : List Message) (last : ℕ → ℕ → ℕ) (web : Web r c i k E mail last) (b s : ℕ) (heard : ℕ → Bool)
    (mine : Mine r c b k any_hops s heard (E b)) (next-b : ℕ → ℕ) (grows : (q : ℕ) → last b q ≤ next-b q) where
  module _ (j a n : ℕ) (octets : List ℕ) (cable : r.cable b j ≡ at a n) (sent : Sent r i b mail next-b (E b) j octets) (worded : Worded octets) where
    abbrev y : ℕ
    y = measured.returned i octets

    from_1 : 1 ≤ j
    from_1 = (counted (r.settings b) j (proper.cables b j a n cable).link_in).from_one

    node_is : sent.letter.node ≡ a
    node_is = let z = sent.other_end in cc

    link_is : sent.letter.link ≡ n
    link_is = let z = sent.other_end in cc

    on_it : On a n mail sent.letter sent.number
    on_it = record { stands = sent.stands; node = node_is; link = link_is; worded = subst (λ (o : List ℕ). Worded o) sent.a_copy worded }

    word : Word r c i k b a octets (E a)
    word = subst (λ (o : List ℕ). Word r c i k b a o (E a)) (sym sent.a_copy) ((web b j a n cable).words sent.letter sent.number on_it)

    module _ (u : Update) (pid : u.pid ≡ j) (is : u.delay.0 ≡ pos (rise + y)) where
      abbrev f : Entry
      f = left (lines u (E b))

      f_returned : Returned r c b k s heard (E b) mine.steady j a n from_1 cable y word.said (sent.near worded) u pid is f
      f_returned = returned_entry r c b k s heard (E b) mine.steady j a n from_1 cable y word.said (sent.near worded) u pid is

      far_end_lem : (d o : ℕ) → r.cable b j ≡ at d o → d ≡ a
      far_end_lem d o z = cc

      end_link : (d o : ℕ) → r.cable b j ≡ at d o → o ≡ n
      end_link d o z = cc

      mine_then : Mine r c b k any_hops s (hearing r c b j heard) f
      mine_then =
          record {
            steady = f_returned.steady;
            hears =
                λ q d o cord on h way less short.
                elim (flag r c b k any_hops s heard (E b) mine j q on) [
                  | inl v ↦ (let same : d ≡ a = far_end_lem d o (ap (r.cable b) (sym v) ∙ cord) in f_returned.hears h (subst (λ (t : ℕ). Hops r c t h) same way) less short)
                  | inr v ↦ better_shown r c b (E b) f f_returned.better (suc h) (mine.hears q d o cord v h way less short)
                ];
            home =
                λ on is_c.
                elim (flag r c b k any_hops s heard (E b) mine j 0 on) [ inl v ↦ absurd (omega (arith, v, from_1)) | inr v ↦ better_shown r c b (E b) f f_returned.better 0 (mine.home v is_c) ];
          }

      abbrev From-it : Entry → Type 0
      From-it = From r c b k s heard (E b) mine.steady j a n from_1 cable y word.said (sent.near worded) u pid is

      later_says : (v : Message) (g : ℕ) → On a n mail v g → sent.number ≤ g → up f.delay.0 ≡ rise + y → (entry.up (E b) ≡ true → rise + y ≤ up (E b).delay.0) → rise + measured.returned i v.octets ≤ up f.delay.0
      later_says v g it late is_y no_worse = go ((web b j a n cable).order sent.letter sent.number v g on_it it late)
        where
          same : measured.returned i sent.letter.octets ≡ y
          same = ap (measured.returned i) (sym sent.a_copy)

          go : (measured.returned i v.octets ≤ measured.returned i sent.letter.octets) ⊎ ((entry.up (E b) ≡ true) × (rise + up (E b).delay.0 ≤ measured.returned i sent.letter.octets)) → rise + measured.returned i v.octets ≤ up f.delay.0
          go (inl z) = omega (arith, z, same, is_y)
          go (inr z) = absurd (omega (arith, z.1, same, no_worse z.0))

      arrow : (q d o : ℕ) → r.cable b q ≡ at d o → entry.up f ≡ true → f.pid ≡ q → From-it f → Arrow r c i k b q d o f (E d) mail (next-b q)
      arrow q d o cord t at-q (before v at-e same) =
          same_arrow r c i k E mail last web b f (λ _. inl (v, at-e, same)) q d o (next-b q) (grows q) (counted (r.settings b) q (proper.cables b q d o cord).link_in).from_one cord t at-q
      arrow q d o cord t at-q (returned at_j is_y low no_worse) =
          let q-is : q ≡ j = sym at-q ∙ at_j in
          let cord' : r.cable b j ≡ at d o = ap (r.cable b) (sym q-is) ∙ cord in
          let d-is : d ≡ a = far_end_lem d o cord' in
          let o_is : o ≡ n = end_link d o cord' in
          let h = word.has (omega (arith, low)) in
          record {
            leads = subst (λ (t : ℕ). Below (E t) f) (sym d-is) record { is_up = h.0; less = omega (arith, h.1, is_y) };
            heads =
                λ v g it late.
                let late' : sent.number ≤ g = omega (arith, late, ap next-b q-is, sent.no_later) in
                later_says v g record { stands = it.stands; node = it.node ∙ d-is; link = it.link ∙ o_is; worded = it.worded } late' is_y no_worse;
          }

      rest_then : Rest r c i k E mail b next-b f
      rest_then = record { better = f_returned.better; arrows = λ q d o cord t at-q. arrow q d o cord t at-q (f_returned.from t) }

  pub believes : Believes r c i k any_hops b s heard (Sent r i b mail next-b) (Rest r c i k E mail b next-b) (E b)
  believes j a n octets cable sent worded =
      ((word j a n octets cable sent worded).counted, λ u pid is. (mine_then j a n octets cable sent worded u pid is, rest_then j a n octets cable sent worded u pid is))
