-- The number of a link's newest message never falls; so arrivals that take the newest are in order.
use mathlib.Core.Path.{◌≡◌, refl, sym, ap, subst₂, ◌∙◌}
use mathlib.Core.Bool.{Bool, true, false, true≢false, ◌&&◌}
use mathlib.Core.List.{List, [], ◌∷◌}
use mathlib.Core.Logic.{◌⊎◌, inl, inr}
use Prim.Native.Nat.{ℕ, ◌≤◌}
use native.Mathlib.Omega.{arith}
use borrow.Author.Tests.{eqb-true, eq-eqb}
use lib.Dec.{eqb}
use lib.ListN.{length}
use Rattle.lists.proofs.Tests.{either, both}
use Rattle.host.specs.Guard.{done}
use Rattle.calls.specs.Perform.{Outcome}
use Rattle.host.specs.Walk.{packet_of}
use Rattle.network_laws.specs.Network.{Network, at}
use Rattle.network_laws.specs.Demand3.{NetworkCall, ticks, seconds, reports, sends, arrives, acts, inspects, opens, steps, adjusts, sets, clocks, looks, Step, Message, World, after_at, result, mail_after, step}
use Rattle.liveness_laws.specs.Seconds.{emptied}
use Rattle.liveness_laws.specs.Order.{Stands, Next, Fresh, came, last_after, AllFresh, nothing_came}
use Rattle.liveness_laws.specs.Newest.{is_from, newest_from, Newest, GivenNewest, AllNewest, NewestInOrder}
use Rattle.liveness_laws.proofs.Order.Cables.{stands_below}

-- the newest of a link is in the mail, and no other of the link has a higher number
record Top (a l : ℕ) (mail : List Message) (m : Message) : Type 0 where
  pub number : ℕ
  pub stands : Stands m number mail
  pub most : (q : Message) (g : ℕ) → Stands q g mail → q.node ≡ a → q.link ≡ l → g ≤ number

top : (a l : ℕ) (mail : List Message) (m : Message) → newest_from a l mail ≡ m ∷ [] → Top a l mail m
unfolding newest_from Stands
top a l [] m e = absurd (let z = ap length e in omega (arith, z))
top a l (x ∷ ms) m e = go (λ z. top a l ms m z) (is_from a l x) refl
  where
    one : (p q : Message) → ◌≡◌ {A = List Message} (p ∷ []) (q ∷ []) → p ≡ q
    one p q z = cc

    most_here : (q : Message) (g : ℕ) → ((x ≡ q) × (length ms ≡ g)) ⊎ Stands q g ms → g ≤ length ms
    most_here q g (inl z) = omega (arith, z.1)
    most_here q g (inr z) = omega (arith, stands_below q g ms z)

    go : (newest_from a l ms ≡ m ∷ [] → Top a l ms m) → (t : Bool) → is_from a l x ≡ t → Top a l (x ∷ ms) m
    go again true t = record { number = length ms; stands = inl (one x m (rw t at e), refl); most = λ q g z _ _. most_here q g z }
    go again false t =
        let o = again (rw t at e) in
        record { number = o.number; stands = inr o.stands; most = λ q g z node link. old o q g z node link }
      where
        old : (o : Top a l ms m) (q : Message) (g : ℕ) → ((x ≡ q) × (length ms ≡ g)) ⊎ Stands q g ms → q.node ≡ a → q.link ≡ l → g ≤ o.number
        old o q g (inl z) node link =
            let is : is_from a l x ≡ true = rw (eq-eqb x.node a (ap (λ (v : Message). v.node) z.0 ∙ node), eq-eqb x.link l (ap (λ (v : Message). v.link) z.0 ∙ link)) refl in
            absurd (true≢false (sym is ∙ t))
        old o q g (inr z) node link = o.most q g z node link

module _ (r : Network) where
  -- the last message that arrived is in the mail
  pub record Came (mail : List Message) (a l n : ℕ) : Type 0 where
    pub message : Message
    pub stands : Stands message n mail
    pub node : message.node ≡ a
    pub link : message.link ≡ l

  abbrev Kept : (ℕ → ℕ → ℕ) → List Message → Type 0
  Kept last mail = (b j a l : ℕ) → r.cable b j ≡ at a l → (last b j ≡ 0) ⊎ Came mail a l (last b j)

  stays_in : (a : ℕ) (o : Outcome) (call : NetworkCall) (mail : List Message) (m : Message) (n : ℕ) → Stands m n mail → Stands m n (mail_after a o call mail)
  unfolding Stands
  stays_in a o (ticks _) mail m n x = x
  stays_in a o seconds mail m n x = x
  stays_in a o (reports _) mail m n x = x
  stays_in a o (sends _ _ _ _) mail m n x = either (λ (ms : List Message). Stands m n ms) (done o.reply.answer) _ _ (λ _. inr x) (λ _. x)
  stays_in a o (arrives _ _ _ _) mail m n x = x
  stays_in a o (acts _ _ _ _) mail m n x = x
  stays_in a o (inspects _ _) mail m n x = x
  stays_in a o (opens _ _) mail m n x = x
  stays_in a o (steps _ _) mail m n x = x
  stays_in a o (adjusts _) mail m n x = x
  stays_in a o (sets _ _) mail m n x = x
  stays_in a o (clocks _) mail m n x = x
  stays_in a o (looks _) mail m n x = x

  module _ (w : World) (last : ℕ → ℕ → ℕ) (kept : Kept last w.mail) (b : ℕ) where
    record Both (call : NetworkCall) : Type 0 where
      pub fresh : Fresh r w last b call
      pub kept_then : Kept (last_after r w last b call fresh) w.mail

    next_of : (j : ℕ) (packet : List ℕ) → Newest r w b j packet → (f : Next r w last b j packet) × Kept (came b j f.number last) w.mail
    next_of j packet new = (
      record { message = new.message; number = t.number; stands = t.stands; other_end = new.other_end; a_copy = new.a_copy; in_order = ordered (kept b j new.message.node new.message.link new.other_end) },
      after,
    )
      where
        t : Top new.message.node new.message.link w.mail new.message
        t = top new.message.node new.message.link w.mail new.message new.newest

        ordered : (last b j ≡ 0) ⊎ Came w.mail new.message.node new.message.link (last b j) → last b j ≤ t.number
        ordered (inl z) = omega (arith, z)
        ordered (inr z) = t.most z.message (last b j) z.stands z.node z.link

        node_is : (a l : ℕ) → r.cable b j ≡ at a l → new.message.node ≡ a
        node_is a l z = let y = new.other_end in cc

        link_is : (a l : ℕ) → r.cable b j ≡ at a l → new.message.link ≡ l
        link_is a l z = let y = new.other_end in cc

        after : Kept (came b j t.number last) w.mail
        after p q a l cord =
            either (λ (n : ℕ). (n ≡ 0) ⊎ Came w.mail a l n) (eqb p b && eqb q j) _ _
            (λ e.
            let y = both _ _ e in
            let cord' : r.cable b j ≡ at a l = subst₂ (λ (s t : ℕ). r.cable s t ≡ at a l) (eqb-true p b y.0) (eqb-true q j y.1) cord in
            inr record { message = new.message; stands = t.stands; node = node_is a l cord'; link = link_is a l cord' })
            (λ _. kept p q a l cord)

    one_call : (call : NetworkCall) → GivenNewest r w b call → Both call
    one_call (ticks _) g = record { fresh = tt; kept_then = kept }
    one_call seconds g = record { fresh = tt; kept_then = kept }
    one_call (reports _) g = record { fresh = tt; kept_then = kept }
    one_call (sends _ _ _ _) g = record { fresh = tt; kept_then = kept }
    one_call (arrives j _ packet _) g = let n = next_of j packet g in record { fresh = n.0; kept_then = n.1 }
    one_call (acts j _ packet _) g = let n = next_of j packet g in record { fresh = n.0; kept_then = n.1 }
    one_call (inspects _ _) g = record { fresh = tt; kept_then = kept }
    one_call (opens _ _) g = record { fresh = tt; kept_then = kept }
    one_call (steps _ _) (inl g) = record { fresh = inl g; kept_then = kept }
    one_call (steps _ _) (inr g) = let n = next_of (after_at r w b).walk.link (packet_of (after_at r w b).walk (after_at r w b).copy) g in record { fresh = inr n.0; kept_then = n.1 }
    one_call (adjusts _) g = record { fresh = tt; kept_then = kept }
    one_call (sets _ _) g = record { fresh = tt; kept_then = kept }
    one_call (clocks _) g = record { fresh = tt; kept_then = kept }
    one_call (looks _) g = record { fresh = tt; kept_then = kept }

  all_in_order : (w : World) (last : ℕ → ℕ → ℕ) → Kept last w.mail → (xs : List Step) → AllNewest r w xs → AllFresh r w last xs
  unfolding AllNewest AllFresh step
  all_in_order w last kept [] given = tt
  all_in_order w last kept (x ∷ xs) given =
      let one = one_call w last kept x.node x.call given.0 in (
        one.fresh,
        all_in_order (step r w x) (last_after r w last x.node x.call one.fresh)
            (λ b j a l cord.
            elim (one.kept_then b j a l cord) [
              | inl z ↦ inl z
              | inr z ↦ inr record { message = z.message; stands = stays_in x.node (result r w x) x.call w.mail z.message _ z.stands; node = z.node; link = z.link }
            ]) xs given.1,
      )

pub newest_in_order : NewestInOrder
unfolding NewestInOrder
newest_in_order r w xs given = all_in_order r (emptied w) nothing_came (λ b j a l cord. inl refl) xs given
