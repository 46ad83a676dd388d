-- A link of a host: when it knows its neighbour. One link changes at a time, because a call changes the link that it names.
use mathlib.Core.Path.{◌≡◌, refl, sym, ap, subst, ◌∙◌}
use mathlib.Core.Bool.{Bool, true, false, ◌&&◌}
use mathlib.Core.Logic.{◌⊎◌}
use Prim.Native.Nat.{ℕ, ◌-◌, ◌≤◌}
use native.Mathlib.Omega.{arith}
use borrow.Author.Tests.{eqb-true, eqb-false, ne_eqb}
use lib.Dec.{eqb}
use lib.ListN.{length, get_or, length-set}
use lib.Seq.{get_or-set_same, get_or-set_other}
use Rattle.std.proofs.Common.{Option, Some, None}
use Rattle.table.specs.declared.Entry.{Entry}
use Rattle.table.specs.Entry as entry
use Rattle.host.specs.declared.Link.{Link}
use Rattle.host.specs.declared.Links.{Links}
use Rattle.host.specs.declared.walk.Walk.{Walk}
use Rattle.host.specs.declared.walk.Place.{Place}
use Rattle.host.specs.declared.walk.Place.TheVariants.{Step1, Step2, Step3, Step4, Step5, LineA, LineB, LineC, LineD}
use Rattle.host.specs.Settings.{link_count_of}
use Rattle.host.specs.State.{link_of, with_link, fresh_link, unset, no_link}
use Rattle.host.specs.Walk.{is_open, place_of}
use Rattle.host.proofs.Guarded.{counted}
use Rattle.sending.specs.Message.{link_sent}
use Rattle.network_laws.specs.Network.{Network, at, Proper}

-- link j of a host, cabled to host a, with the host's entry e
pub record LinkOk (r : Network) (k : ℕ) (speaking learning heard : Bool) (j a : ℕ) (e : Entry) (x : Link) : Type 0 where
  -- nothing is heard before all have sent
  pub quiet : speaking ≡ true → k ≡ 0 → x.keep_alive ≡ 0
  pub spoke : learning ≡ false → eqb x.keep_alive 0 ≡ false → x.neighbor ≡ (r.settings a).address
  pub known : (1 ≤ k) ⊎ (heard ≡ true) → x.neighbor ≡ (r.settings a).address
  pub met : entry.up e ≡ true → e.pid ≡ j → x.neighbor ≡ (r.settings a).address

abbrev pub LinksOk : (r : Network) (k : ℕ) (speaking : Bool) (learning heard : ℕ → Bool) (b : ℕ) → Entry → Links → Type 0
LinksOk r k speaking learning heard b e l = (j a n : ℕ) → r.cable b j ≡ at a n → LinkOk r k speaking (learning j) (heard j) j a e (link_of l j)

-- box 2 sets KEEP-ALIVE, and box 4 learns the neighbour
abbrev pub learns_at : Option Place → Bool
learns_at None = false
learns_at (Some Step1) = false
learns_at (Some Step2) = false
learns_at (Some Step3) = true
learns_at (Some Step4) = true
learns_at (Some Step5) = false
learns_at (Some LineA) = false
learns_at (Some LineB) = false
learns_at (Some LineC) = false
learns_at (Some LineD) = false

-- the link of a walk between these boxes
abbrev pub learns : Walk → ℕ → Bool
learns w q = is_open w && learns_at (place_of w) && eqb w.link q

module _ (r : Network) (proper : Proper r) (k b : ℕ) (speaking : Bool) (l : Links) (room : link_count_of (r.settings b) ≤ length l.all) (j : ℕ) (has : no_link (r.settings b) j ≡ false) where
  -- one link is stored
  pub relinked : (learning heard : ℕ → Bool) (f : Entry) (z : Link) → ((a n : ℕ) → r.cable b j ≡ at a n → LinkOk r k speaking (learning j) (heard j) j a f z)
      → ((q a n : ℕ) → (q ≡ j → ⊥) → r.cable b q ≡ at a n → LinkOk r k speaking (learning q) (heard q) q a f (link_of l q))
      → LinksOk r k speaking learning heard b f (with_link j z l)
  relinked learning heard f z here others q a n cord = go (eqb q j) refl
    where
      go : (t : Bool) → eqb q j ≡ t → LinkOk r k speaking (learning q) (heard q) q a f (link_of (with_link j z l) q)
      go true e =
          let is = eqb-true q j e in
          let there : get_or (with_link j z l).all (q - 1) (fresh_link unset) ≡ z =
          ap (λ (t : ℕ). get_or (with_link j z l).all (t - 1) (fresh_link unset)) is ∙ get_or-set_same l.all (j - 1) z (fresh_link unset) (omega (arith, (counted (r.settings b) j has).at_place, room)) in
          subst (LinkOk r k speaking (learning q) (heard q) q a f) (sym there)
          (subst (λ (t : ℕ). LinkOk r k speaking (learning t) (heard t) t a f z) (sym is) (here a n (ap (r.cable b) (sym is) ∙ cord)))
      go false e =
          let other = eqb-false q j e in
          let from-q = (counted (r.settings b) q (proper.cables b q a n cord).link_in).from_one in
          let from-j = (counted (r.settings b) j has).from_one in
          let there : get_or (with_link j z l).all (q - 1) (fresh_link unset) ≡ link_of l q = get_or-set_other l.all (j - 1) (q - 1) z (fresh_link unset) (λ y. other (omega (arith, y, from-q, from-j))) in
          subst (LinkOk r k speaking (learning q) (heard q) q a f) (sym there) (others q a n other cord)

  pub same_room : (z : Link) → link_count_of (r.settings b) ≤ length (with_link j z l).all
  same_room z = omega (arith, length-set l.all (j - 1) z, room)

  -- a send lowers KEEP-ALIVE
  pub sent_links : (learning heard : ℕ → Bool) (e : Entry) → LinksOk r k speaking learning heard b e l → LinksOk r k speaking learning heard b e (with_link j (link_sent (link_of l j)) l)
  sent_links learning heard e links =
      relinked learning heard e (link_sent y)
      (λ a n cord.
      let g = links j a n cord in
      record {
        quiet = λ speaks first. omega (arith, g.quiet speaks first);
        spoke = λ no on. g.spoke no (ne_eqb y.keep_alive 0 (λ z. eqb-false (link_sent y).keep_alive 0 on (omega (arith, z))));
        known = g.known;
        met = g.met;
      })
      (λ q a n _ cord. links q a n cord)
    where
      y : Link
      y = link_of l j
