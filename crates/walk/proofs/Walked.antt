-- The lines of a walk, run box by box to the last id, leave what the sweep of an arrival leaves.
use mathlib.Core.Path.{◌≡◌, refl, sym, ap, ◌∙◌, subst}
use mathlib.Core.Bool.{Bool, true, false, false≢true, cond, not, ◌&&◌}
use mathlib.Core.List.{List, [], ◌∷◌, ◌++◌, append_assoc}
use Prim.Native.Nat.{ℕ, zero, suc, ◌+◌, ◌*◌, ◌-◌, ◌≤◌, ◌<◌}
use native.Mathlib.Omega.{arith}
use borrow.Author.Tests.{lt-ltb, le-ltb}
use lib.Dec.{eqb}
use lib.ListN.{length, get_or, take, drop, length-append}
use Rattle.lists.proofs.Tests.{either}
use Rattle.lists.proofs.Parts.{over_nothing}
use Rattle.answer.specs.declared.Answer.TheVariants.{Done, InWalk}
use Rattle.clock.specs.declared.Clock.{Clock}
use Rattle.clock.specs.declared.Counter.{Counter}
use Rattle.wire.specs.declared.Packet.{Packet}
use Rattle.net_table.specs.declared.NetTable.{NetTable}
use Rattle.table.specs.declared.Entry.{Entry}
use Rattle.table.specs.declared.Update.{Update}
use Rattle.table.specs.declared.Updated.{Updated}
use Rattle.table.specs.declared.entries.Change.TheVariants.{Put}
use Rattle.table.specs.declared.entries.Changes.{Changes}
use Rattle.table.specs.Forms.{Stage, on, end, ◌then◌}
use Rattle.quantity.specs.Quantity.{add_millis, less_millis}
use Rattle.table.specs.Entry.{min_delay, max_delay, fresh_entry, up, taken_down}
use Rattle.table.specs.Update.{line_a, line_b, line_c, lines, settled, update, left}
use Rattle.table.specs.Runs.{changes}
use Rattle.table.specs.Sweep.{Swept, sweep}
use Rattle.host.specs.declared.Effect.{Effect}
use Rattle.host.specs.declared.Links.{Links}
use Rattle.host.specs.declared.Reply.{Reply}
use Rattle.host.specs.declared.Settings.{Settings}
use Rattle.host.specs.declared.walk.Walk.{Walk}
use Rattle.host.specs.State.{host_count}
use Rattle.host.specs.CallState.{host}
use Rattle.host.specs.Reply.{plainly}
use Rattle.host.specs.Walk.{is_open, place_of, line_update}
use Rattle.host.specs.Effect.{nothing, one}
use Rattle.walk.specs.Boxes.{at_line, onward, next_id, after_a, box_a, box_b, box_c, box_d, box_at}

-- what a box is handed: its counter, and the class's net table as it then is
pub record Handed : Type 0 where
  pub counter : Counter
  pub nets : NetTable

-- a host between boxes
pub record Node : Type 0 where
  pub clock : Clock
  pub links : Links
  pub walk : Walk
  pub own_entries : List Entry

-- the end of a walk
pub record Final : Type 0 where
  pub reply : Reply
  pub clock : Clock
  pub links : Links
  pub own_entries : List Entry

abbrev pub node : Clock → Links → Walk → List Entry → Node
node c l w es = record { clock = c; links = l; walk = w; own_entries = es }

abbrev pub final : Reply → Clock → Links → List Entry → Final
final r c l es = record { reply = r; clock = c; links = l; own_entries = es }

-- ---- changes of entries

pub nothing_changes : (es : List Entry) → changes nothing es ≡ es
unfolding changes
nothing_changes es = over_nothing 0 es

module _ {A : Type 0} where
  take_front : (pre rest : List A) → take (length pre) (pre ++ rest) ≡ pre
  take_front [] rest = refl
  take_front (x ∷ pre) rest = ap (λ (l : List A). x ∷ l) (take_front pre rest)

  drop_front : (pre rest : List A) → drop (length pre) (pre ++ rest) ≡ rest
  drop_front [] rest = refl
  drop_front (x ∷ pre) rest = drop_front pre rest

  drop_front_one : (pre : List A) (e : A) (rest : List A) → drop (length pre + 1) (pre ++ e ∷ rest) ≡ rest
  drop_front_one [] e rest = refl
  drop_front_one (x ∷ pre) e rest =
      let m : suc (length pre) + 1 ≡ suc (length pre + 1) = omega arith in
      rw m (drop_front_one pre e rest)

  get_d_front : (pre : List A) (e : A) (rest : List A) (d : A) → get_or (pre ++ e ∷ rest) (length pre) d ≡ e
  get_d_front [] e rest d = refl
  get_d_front (x ∷ pre) e rest d = get_d_front pre e rest d

pub put_changes : (pre : List Entry) (e : Entry) (rest : List Entry) (x : Entry)
    → changes (one (length pre) (Put x)) (pre ++ e ∷ rest) ≡ pre ++ x ∷ rest
unfolding changes
put_changes pre e rest x =
    let n : length pre + 1 - length pre ≡ 1 = omega arith in
    rw (n, drop_front pre (e ∷ rest), take_front pre (e ∷ rest), drop_front_one pre e rest) (append_assoc pre (x ∷ []) rest)

-- ---- line (b) that goes on has changed nothing

abbrev goes_on : Stage Entry → Bool
goes_on (on e) = true
goes_on (end e) = false

b_keeps : (u : Update) (e x : Entry) → line_b u e ≡ on x → x ≡ e
unfolding line_b
b_keeps u e x =
    either Keeps (up e) _ _
    (λ _. either Keeps (less_millis u.delay max_delay) _ _ (λ _. stays) (λ _. ended (taken_down e)))
    (λ _. either Keeps (less_millis u.delay max_delay && eqb e.ttl.0 0) _ _ (λ _. stays) (λ _. ended e))
  where
    Keeps : Stage Entry → Type 0
    Keeps q = q ≡ on x → x ≡ e

    stays : Keeps (on e)
    stays is = ap left (sym is)

    ended : (y : Entry) → Keeps (end y)
    ended y is = absurd (false≢true (ap goes_on is))

-- ---- a walk through an arrival of this packet

module _ (s : Settings) (p : Packet) (octets : List ℕ) where
  abbrev pub box_here : Handed → Node → Effect
  box_here b x =
      box_at (place_of x.walk) b.counter p octets b.nets (host s x.clock x.links) x.walk (get_or x.own_entries x.walk.id fresh_entry)

  abbrev pub go_on : (Node → Final) → Effect → List Entry → Final
  go_on W e es =
      cond (is_open e.walk) (W (node e.clock e.links e.walk (changes e.work es)))
      (final e.reply e.clock e.links (changes e.work es))

  unfoldable pub walk_from : (boxes : ℕ) → (ℕ → Handed) → Node → Final
  walk_from zero ks x = final (plainly InWalk) x.clock x.links x.own_entries
  walk_from (suc n) ks x = go_on (walk_from n (λ j. ks (suc j))) (box_here (ks 0) x) x.own_entries

  pub box_is : (n : ℕ) (ks : ℕ → Handed) (x : Node) → walk_from (suc n) ks x ≡ go_on (walk_from n (λ j. ks (suc j))) (box_here (ks 0) x) x.own_entries
  unfolding walk_from
  box_is n ks x = refl

  -- ---- one id

  module _ (w : Walk) (opened : is_open w ≡ true) (l : Links) (j : ℕ) where
    abbrev pub u : Update
    u = line_update (at_line 1 j w) p octets

    abbrev pub clock_host_of : Bool
    clock_host_of = eqb j s.clock_host

    abbrev pub updated : Clock → Entry → Updated
    updated c e = update clock_host_of s.hold_interval w.count p.date u c e

    -- behind the id: its clock and entries, and boxes left
    abbrev pub Behind : (P : Final → Type 0) (r : ℕ) (c : Clock) (es : List Entry) → Type 0
    Behind P r c es =
        (n : ℕ) → r ≤ n → (ks : ℕ → Handed) (m : ℕ) (work : Changes) (es₀ : List Entry) → changes work es₀ ≡ es
        → P (go_on (walk_from n ks) (next_id p (host s c l) (at_line m j w) work) es₀)

    module _ (P : Final → Type 0) (r : ℕ) (c : Clock) (pre : List Entry) (e : Entry) (rest : List Entry) (here : length pre ≡ j) where
      abbrev es : List Entry
      es = pre ++ e ∷ rest

      at_hand_lem : get_or es j fresh_entry ≡ e
      at_hand_lem = ap (λ (n : ℕ). get_or es n fresh_entry) (sym here) ∙ get_d_front pre e rest fresh_entry

      putting : (x : Entry) → changes (one j (Put x)) es ≡ pre ++ x ∷ rest
      putting x = ap (λ (n : ℕ). changes (one n (Put x)) es) (sym here) ∙ put_changes pre e rest x

      abbrev HostAfter : Stage Entry → Type 0
      HostAfter q = Behind P r (settled clock_host_of s.hold_interval w.count p.date u c q).clock (pre ++ (settled clock_host_of s.hold_interval w.count p.date u c q).entry ∷ rest)

      abbrev later : (ℕ → Handed) → ℕ → Handed
      later ks i = ks (suc i)

      -- a box that goes on to another line of the id
      onto : (W : Node → Final) (m : ℕ) (work : Changes) (es₀ es₁ : List Entry) → changes work es₀ ≡ es₁ → P (W (node c l (at_line m j w) es₁))
          → P (go_on W (onward (at_line m j w) c l work) es₀)
      onto W m work es₀ es₁ is q = rw (opened, is) q

      -- line (d)
      d_box : (ks : ℕ → Handed) (x : Entry) → HostAfter (on x) → P (walk_from (suc r) ks (node c l (at_line 4 j w) (pre ++ x ∷ rest)))
      unfolding place_of box_d
      d_box ks x k =
          subst P (sym (box_is r ks (node c l (at_line 4 j w) (pre ++ x ∷ rest))))
          (k r (omega arith) (later ks) 4 nothing (pre ++ x ∷ rest) (nothing_changes (pre ++ x ∷ rest)))

      -- line (c)
      c_box : (ks : ℕ → Handed) (x : Entry) → line_c u e ≡ on x → HostAfter (on x) → P (walk_from (suc (suc r)) ks (node c l (at_line 3 j w) es))
      unfolding place_of box_c
      c_box ks x is k =
          subst P (sym (box_is (suc r) ks (node c l (at_line 3 j w) es)))
          (rw (at_hand_lem, is) (go clock_host_of refl))
        where
          go : (b : Bool) → clock_host_of ≡ b
              → P (go_on (walk_from (suc r) (later ks)) (cond b (onward (at_line 4 j w) c l (one j (Put x))) (next_id p (host s c l) (at_line 3 j w) (one j (Put x)))) es)
          go true own = onto (walk_from (suc r) (later ks)) 4 (one j (Put x)) es (pre ++ x ∷ rest) (putting x) (d_box (later ks) x k)
          go false own = rw own at (k (suc r) (omega arith) (later ks) 3 (one j (Put x)) es (putting x))

      -- line (b)
      b_box : (ks : ℕ → Handed) (q : Stage Entry) → line_b u e ≡ q → HostAfter (q then line_c u) → P (walk_from (suc (suc (suc r))) ks (node c l (at_line 2 j w) es))
      unfolding place_of box_b line_c
      b_box ks (end x) is k =
          subst P (sym (box_is (suc (suc r)) ks (node c l (at_line 2 j w) es)))
          (rw (at_hand_lem, is) (k (suc (suc r)) (omega arith) (later ks) 2 (one j (Put x)) es (putting x)))
      b_box ks (on x) is k =
          subst P (sym (box_is (suc (suc r)) ks (node c l (at_line 2 j w) es)))
          (rw (at_hand_lem, is) (onto (walk_from (suc (suc r)) (later ks)) 3 nothing es es (nothing_changes es)
          (c_box (later ks) _ refl (subst (λ (y : Entry). HostAfter (line_c u y)) (b_keeps u e x is) k))))

      -- line (a), and so all of them
      pub id_boxes : (ks : ℕ → Handed) → Behind P r (updated c e).clock (pre ++ (updated c e).entry ∷ rest)
          → P (walk_from (suc (suc (suc (suc r)))) ks (node c l (at_line 1 j w) es))
      unfolding place_of box_a update lines line_a
      id_boxes ks k =
          subst P (sym (box_is (suc (suc (suc r))) ks (node c l (at_line 1 j w) es)))
          (rw at_hand_lem (go (not (eqb u.pid e.pid) && less_millis e.delay (add_millis u.delay min_delay)) k))
        where
          go : (b : Bool) → HostAfter (cond b (end e) (on e) then line_b u then line_c u)
              → P (go_on (walk_from (suc (suc (suc r))) (later ks)) (after_a p (host s c l) (at_line 1 j w) (cond b (end e) (on e))) es)
          go true k = k (suc (suc (suc r))) (omega arith) (later ks) 1 nothing es (nothing_changes es)
          go false k = onto (walk_from (suc (suc (suc r))) (later ks)) 2 nothing es es (nothing_changes es) (b_box (later ks) (line_b u e) refl k)

  -- ---- all ids from one on, where the packet has a table

  module _ (w : Walk) (opened : is_open w ≡ true) (l : Links) (some : eqb p.nhosts 0 ≡ false) where
    abbrev pub updating : ℕ → Clock → Entry → Updated
    updating j = updated w opened l j

    -- the end, and the next id
    last : (W : Node → Final) (c : Clock) (m j : ℕ) (work : Changes) (es₀ es₁ : List Entry) → changes work es₀ ≡ es₁ → host_count s ≡ j + 1
        → go_on W (next_id p (host s c l) (at_line m j w) work) es₀ ≡ final (plainly Done) c l es₁
    last W c m j work es₀ es₁ is whole = rw (some, le-ltb (j + 1) (host_count s) (omega (arith, whole)), is) refl

    next : (W : Node → Final) (c : Clock) (m j : ℕ) (work : Changes) (es₀ es₁ : List Entry) → changes work es₀ ≡ es₁ → j + 1 < host_count s
        → go_on W (next_id p (host s c l) (at_line m j w) work) es₀ ≡ W (node c l (at_line 1 (j + 1) w) es₁)
    next W c m j work es₀ es₁ is whole = rw (some, lt-ltb (j + 1) (host_count s) whole, opened, is) refl

    abbrev pub swept : ℕ → Clock → List Entry → Swept
    swept j c es = sweep j updating c es

    pub ids_boxes : (rest : List Entry) (pre : List Entry) (e : Entry) (j : ℕ) (c : Clock) (n : ℕ) (ks : ℕ → Handed)
        → length pre ≡ j → host_count s ≡ j + 1 + length rest → 4 * (1 + length rest) ≤ n
        → walk_from n ks (node c l (at_line 1 j w) (pre ++ e ∷ rest)) ≡ final (plainly Done) (swept j c (e ∷ rest)).clock l (pre ++ (swept j c (e ∷ rest)).own_entries)
    unfolding sweep
    ids_boxes [] pre e j c n ks here whole room =
        let r : n ≡ suc (suc (suc (suc (n - 4)))) = omega arith in
        let x : Updated = updating j c e in
        rw r
        (id_boxes w opened l j (λ (f : Final). f ≡ final (plainly Done) x.clock l (pre ++ x.entry ∷ [])) (n - 4) c pre e [] here ks
        (λ n₁ _ ks₁ m work es₀ is. last (walk_from n₁ ks₁) x.clock m j work es₀ (pre ++ x.entry ∷ []) is (omega (arith, whole))))
    ids_boxes (f ∷ rest) pre e j c n ks here whole room =
        let r : n ≡ suc (suc (suc (suc (n - 4)))) = omega arith in
        let x : Updated = updating j c e in
        let front : List Entry = pre ++ x.entry ∷ [] in
        let more : j + 1 ≡ suc j = omega arith in
        let long : length front ≡ j + 1 = length-append pre (x.entry ∷ []) ∙ ap (λ (i : ℕ). i + 1) here in
        rw r
        (id_boxes w opened l j (λ (y : Final). y ≡ final (plainly Done) (swept j c (e ∷ f ∷ rest)).clock l (pre ++ (swept j c (e ∷ f ∷ rest)).own_entries)) (n - 4) c pre e (f ∷ rest) here ks
        (λ n₁ enough ks₁ m work es₀ is.
        next (walk_from n₁ ks₁) x.clock m j work es₀ (pre ++ x.entry ∷ f ∷ rest) is (omega (arith, whole))
        ∙ ap (λ (es₁ : List Entry). walk_from n₁ ks₁ (node x.clock l (at_line 1 (j + 1) w) es₁)) (sym (append_assoc pre (x.entry ∷ []) (f ∷ rest)))
        ∙ ids_boxes rest front f (j + 1) x.clock n₁ ks₁ long (omega (arith, whole)) (omega (arith, room, enough))
        ∙ rw more (ap (final (plainly Done) (swept (suc j) x.clock (f ∷ rest)).clock l) (append_assoc pre (x.entry ∷ []) (swept (suc j) x.clock (f ∷ rest)).own_entries))))
