-- What every call of a round keeps at one host b, for the entry of id i. A law adds Rest of the entry, and Sent of a message that a walk has taken.
use mathlib.Core.Path.{◌≡◌, refl, sym, ap, subst, ◌∙◌}
use mathlib.Core.Bool.{Bool, true, false}
use mathlib.Core.List.{List}
use Prim.Native.Nat.{ℕ, suc, ◌+◌, ◌≤◌, ◌<◌}
use lib.Dec.{eqb}
use lib.IntN.{pos}
use lib.ListN.{length}
use Rattle.std.proofs.Common.{Option, Some, None}
use Rattle.quantity.specs.declared.Millis.{Millis}
use Rattle.quantity.specs.Quantity.{millis}
use Rattle.quantity.specs.Words.{of_word}
use Rattle.wire.specs.Packet.{fields}
use Rattle.table.specs.declared.Entry.{Entry}
use Rattle.table.specs.declared.Update.{Update}
use Rattle.table.specs.Entry.{max_delay}
use Rattle.table.specs.Entry as entry
use Rattle.table.specs.Forms.{◌then◌}
use Rattle.table.specs.Update.{line_b, line_c, lines, left}
use Rattle.host.specs.declared.Link.{Link}
use Rattle.host.specs.declared.Links.{Links}
use Rattle.host.specs.declared.walk.Walk.{Walk}
use Rattle.host.specs.declared.walk.Place.{Place}
use Rattle.host.specs.declared.walk.Place.TheVariants.{Step1, Step2, Step3, Step4, Step5, LineA, LineB, LineC, LineD}
use Rattle.host.specs.Settings.{link_count_of}
use Rattle.host.specs.State.{own_entries, link_of}
use Rattle.host.specs.Walk.{is_open, place_of, packet_of, line_update}
use Rattle.host.proofs.Places.{Holds}
use Rattle.arrival.specs.Steps.{at_least_min}
use Rattle.network_laws.specs.Network.{Network, at}
use Rattle.network_laws.proofs.Lists.{All, all_weaken}
use Rattle.liveness_laws.specs.Numbers.{rise}
use Rattle.liveness_laws.proofs.Links.{LinksOk, learns}
use Rattle.liveness_laws.proofs.Measured.{Worded, returned}
use Rattle.liveness_laws.proofs.Rounds.Entry.{hearing}
use Rattle.liveness_laws.proofs.Rounds.Heard.{Mine}

-- ---- a walk

module _ (r : Network) (c i k m b s : ℕ) (heard : ℕ → Bool) (Sent : Entry → (link : ℕ) → (octets : List ℕ) → Type 0) where
  -- after box 4, with the ids below n over: nothing is believed; id i is over; or id i is to come
  pub data Course (e : Entry) (j : ℕ) (octets : List ℕ) (delay : Millis) (n : ℕ) : Type 0 where
    is_new : delay ≡ max_delay → (entry.up e ≡ true → e.pid ≡ j → ⊥) → Mine r c b k m s (hearing r c b j heard) e → Course e j octets delay n
    is_over : i < n → Mine r c b k m s (hearing r c b j heard) e → Course e j octets delay n
    is_ahead : n ≤ i → Worded octets → eqb (fields octets).nhosts 0 ≡ false → delay ≡ millis (pos rise) → Sent e j octets → Course e j octets delay n

  -- the link knows its neighbour
  pub record Aim (e : Entry) (j : ℕ) (octets : List ℕ) (l : Links) (delay : Millis) (n : ℕ) : Type 0 where
    pub node : ℕ
    pub port : ℕ
    pub cable : r.cable b j ≡ at node port
    pub known : (link_of l j).neighbor ≡ (r.settings node).address
    pub course : Course e j octets delay n

  abbrev pub update_of : Walk → List ℕ → Update
  update_of w octets = line_update w (fields octets) octets

  -- by the place of the next box; at lines (b) and (c) the lines before went on
  abbrev pub WalkAt : Entry → Walk → (octets : List ℕ) → Links → Option Place → Type 0
  WalkAt e w octets l None = Unit {0}
  WalkAt e w octets l (Some Step1) = Unit {0}
  WalkAt e w octets l (Some Step2) = Sent e w.link octets
  WalkAt e w octets l (Some Step3) = Sent e w.link octets
  WalkAt e w octets l (Some Step4) = Sent e w.link octets
  WalkAt e w octets l (Some Step5) = Aim e w.link octets l (at_least_min (of_word w.delay)) 0
  WalkAt e w octets l (Some LineA) = Aim e w.link octets l (of_word w.delay) w.id
  WalkAt e w octets l (Some LineB) = Aim e w.link octets l (of_word w.delay) w.id × (w.id ≡ i → left (line_b (update_of w octets) e then line_c (update_of w octets)) ≡ left (lines (update_of w octets) e))
  WalkAt e w octets l (Some LineC) = Aim e w.link octets l (of_word w.delay) w.id × (w.id ≡ i → left (line_c (update_of w octets) e) ≡ left (lines (update_of w octets) e))
  WalkAt e w octets l (Some LineD) = Aim e w.link octets l (of_word w.delay) (suc w.id)

  abbrev pub WalkOk : Entry → Walk → (copy : List ℕ) → Links → Type 0
  WalkOk e w copy l = is_open w ≡ true → WalkAt e w (packet_of w copy) l (place_of w)

-- more is known of messages, and the walk's link is the same
module _ (r : Network) (c i k m b s : ℕ) (heard : ℕ → Bool) (Sent Sent' : Entry → (link : ℕ) → (octets : List ℕ) → Type 0) (e : Entry) (w : Walk) (octets : List ℕ) (l l' : Links)
    (more : Sent e w.link octets → Sent' e w.link octets) (same_link : (a n : ℕ) → r.cable b w.link ≡ at a n → link_of l' w.link ≡ link_of l w.link) where
  course_moves : (delay : Millis) (n : ℕ) → Course r c i k m b s heard Sent e w.link octets delay n → Course r c i k m b s heard Sent' e w.link octets delay n
  course_moves delay n (is_new far other mine) = is_new far other mine
  course_moves delay n (is_over less mine) = is_over less mine
  course_moves delay n (is_ahead less worded some exact sent) = is_ahead less worded some exact (more sent)

  aim_moves : (delay : Millis) (n : ℕ) → Aim r c i k m b s heard Sent e w.link octets l delay n → Aim r c i k m b s heard Sent' e w.link octets l' delay n
  aim_moves delay n aim =
      record {
        node = aim.node;
        port = aim.port;
        cable = aim.cable;
        known = ap (λ (x : Link). x.neighbor) (same_link aim.node aim.port aim.cable) ∙ aim.known;
        course = course_moves delay n aim.course;
      }

  pub walk_moves_lem : (q : Option Place) → WalkAt r c i k m b s heard Sent e w octets l q → WalkAt r c i k m b s heard Sent' e w octets l' q
  walk_moves_lem None now = now
  walk_moves_lem (Some Step1) now = now
  walk_moves_lem (Some Step2) now = more now
  walk_moves_lem (Some Step3) now = more now
  walk_moves_lem (Some Step4) now = more now
  walk_moves_lem (Some Step5) now = aim_moves _ _ now
  walk_moves_lem (Some LineA) now = aim_moves _ _ now
  walk_moves_lem (Some LineB) now = (aim_moves _ _ now.0, now.1)
  walk_moves_lem (Some LineC) now = (aim_moves _ _ now.0, now.1)
  walk_moves_lem (Some LineD) now = aim_moves _ _ now

-- what a law shows of an update by such a message, if the message can be believed
abbrev pub Believes : (r : Network) (c i k m b s : ℕ) (heard : ℕ → Bool) (Sent : Entry → (link : ℕ) → (octets : List ℕ) → Type 0) (Rest : Entry → Type 0) → Entry → Type 0
Believes r c i k m b s heard Sent Rest e =
    (j a n : ℕ) (octets : List ℕ) → r.cable b j ≡ at a n → Sent e j octets → Worded octets
    → (eqb (fields octets).nhosts 0 ≡ false)
    × ((u : Update) → u.pid ≡ j → u.delay.0 ≡ pos (rise + returned i octets) → Mine r c b k m s (hearing r c b j heard) (left (lines u e)) × Rest (left (lines u e)))

-- ---- a host, before and after a call

module _ (r : Network) (c i k m b : ℕ) (speaking : Bool) (Sent : Entry → (link : ℕ) → (octets : List ℕ) → Type 0) (Rest : Entry → Type 0) where
  pub record Good (s : ℕ) (heard : ℕ → Bool) (w : Walk) (copy : List ℕ) (l : Links) (f : Entry) : Type 0 where
    pub mine : Mine r c b k m s heard f
    pub rest : Rest f
    pub links : LinksOk r k speaking (learns w) heard b f l
    -- no message arrives before all have sent
    pub waits : speaking ≡ true → is_open w ≡ true → place_of w ≡ Some Step1
    pub walk : WalkOk r c i k m b s heard Sent f w copy l

  pub record Before (s : ℕ) (heard : ℕ → Bool) (w : Walk) (copy : List ℕ) (l : Links) (entries : List Entry) (e : Entry) : Type 0 where
    pub room : link_count_of (r.settings b) ≤ length l.all
    pub good : Good s heard w copy l e
    pub table : Holds (r.number b) entries → All (λ (id : ℕ) (z : Entry). id ≡ i → z ≡ e) (own_entries (r.settings b) (r.number b) entries)

  pub record After (s : ℕ) (heard : ℕ → Bool) (were : List Entry) (w : Walk) (copy : List ℕ) (l : Links) (entries : List Entry) : Type 0 where
    pub room : link_count_of (r.settings b) ≤ length l.all
    pub table : Holds (r.number b) were → All (λ (id : ℕ) (z : Entry). id ≡ i → Good s heard w copy l z) (own_entries (r.settings b) (r.number b) entries)
    pub same_length : length entries ≡ length were

  -- a call that changes no entry
  pub same_entries : (s : ℕ) (heard : ℕ → Bool) (w : Walk) (copy : List ℕ) (l : Links) (entries : List Entry) (e : Entry) → link_count_of (r.settings b) ≤ length l.all → Good s heard w copy l e
      → (Holds (r.number b) entries → All (λ (id : ℕ) (z : Entry). id ≡ i → z ≡ e) (own_entries (r.settings b) (r.number b) entries)) → After s heard entries w copy l entries
  same_entries s heard w copy l entries e room good table =
      record {
        room = room;
        table =
            λ holds.
            all_weaken (λ (id : ℕ) (z : Entry). id ≡ i → z ≡ e) (λ (id : ℕ) (z : Entry). id ≡ i → Good s heard w copy l z) (λ id z h same. subst (Good s heard w copy l) (sym (h same)) good)
            (own_entries (r.settings b) (r.number b) entries) (table holds);
        same_length = refl;
      }

  -- a refusal
  pub unchanged : (s : ℕ) (heard : ℕ → Bool) (w : Walk) (copy : List ℕ) (l : Links) (entries : List Entry) (e : Entry) → Before s heard w copy l entries e → After s heard entries w copy l entries
  unchanged s heard w copy l entries e was = same_entries s heard w copy l entries e was.room was.good was.table
