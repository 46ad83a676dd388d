-- The history of specs/Example.antt, by computing.
use mathlib.Core.Path.{◌≡◌, refl, ap}
use mathlib.Core.Bool.{cond}
use mathlib.Core.List.{◌++◌, Memᴰ}
use Prim.Native.Nat.{ℕ, ◌*◌}
use native.Mathlib.Omega.{arith}
use lib.Dec.{eqb}
use lib.IntN.{ℤ, pos, ◌-ℤ◌}
use lib.ListN.{replicate}
use Rattle.quantity.specs.Quantity.{millis, counts, to_units}
use Rattle.clock.specs.Crystal.{counting}
use Rattle.quantity.specs.Words.{word}
use Rattle.answer.specs.declared.Answer.{Answer}
use Rattle.network_laws.specs.HostAfter.{message_of}
use Rattle.network_laws.specs.History.{after}
use Rattle.network_laws.specs.Network.{longest_way, at, initialized, Proper}
use Rattle.network_laws.specs.Demand3.{Message, Reads, result, step, history, AllNamed, Allowed, Allows, Starts}
use Rattle.network_laws.specs.TwoNodes.{Pair}
use Rattle.table.specs.Marks.{only_mark}
use Rattle.clock.specs.Clock as clock
use Rattle.calls.specs.Effects as effects
use Rattle.network_laws.specs.Example.{one_and_two, near, w₀, x₁, w₁, x₂, w₂, x₃, w₃, x₄, w₄, x₅, w₅, x₆, w₆, x₇, w₇, x₈, w₈, x₉, w₉, x₁₀, w₁₀, x₁₁, w₁₁, x₁₂, w₁₂, x₁₃, w₁₃, x₁₄, w₁₄, x₁₅, w₁₅, x₁₆, w₁₆, x₁₇, w₁₇, x₁₈, w₁₈, x₁₉, w₁₉, x₂₀, w₂₀, x₂₁, w₂₁, x₂₂, w₂₂, x₂₃, w₂₃, x₂₄, w₂₄, story, four, learnt, later, Example}
use Rattle.host.specs.Walk.{place_of, packet_of}
use Rattle.network_laws.proofs.Openings.{copied_back}
use Rattle.walk.specs.Opening as walk
use Rattle.walk.specs.Boxes.{box1, box2, box3, box4, box5, box_a, box_b, box_c}
use Rattle.walk.specs.Boxes as Boxes
use Rattle.network_laws.proofs.Opened.{opened}
use Rattle.network_laws.proofs.Demand3.TwoNodes.{below_2, apart, pair_proper, starts, as_after, reads, delivered}

abbrev p : Pair
p =
    record {
      tick = to_units (millis (pos 65536));
      start = λ a. 65500 * a;
      longest = longest_way;
      hosts = 3;
      marks = λ a. cond (eqb a 0) (only_mark 0) one_and_two;
      copy = replicate 1052 0;
    }

-- every call of the history computed
unfoldable played : Unit {0}
unfolding opened after step w₀ x₁ w₁ x₂ w₂ x₃ w₃ x₄ w₄ x₅ w₅ x₆ w₆ x₇ w₇ x₈ w₈ x₉ w₉ x₁₀ w₁₀ x₁₁ w₁₁ x₁₂ w₁₂ x₁₃ w₁₃ x₁₄ w₁₄ x₁₅ w₁₅ x₁₆ w₁₆ x₁₇ w₁₇ x₁₈ w₁₈ x₁₉ w₁₉ x₂₀ w₂₀ place_of walk.opening walk.copied box1 box2 box3 box4 box5 box_a box_b box_c Boxes.step
played = tt

entry_is : ((learnt 1).delay.0 ≡ pos 101) × ((learnt 1).offset.0 ≡ pos 449) × ((learnt 2).delay.0 ≡ pos 101) × ((learnt 2).offset.0 ≡ pos 449)
unfolding played history
entry_is = (refl, refl, refl, refl)

-- what was sent
abbrev first : Message
first = record { node = 0; link = 1; ms = pos 65500; octets = message_of (result near w₁ x₂) }

abbrev second : Message
second = record { node = 1; link = 1; ms = pos 65500; octets = message_of (result near w₃ x₄) }

ok₁ : Allowed near w₀ x₁
unfolding played
ok₁ = record { node_in = omega arith; continues = as_after p w₀ 1 x₁.call; timely = tt }

ok₂ : Allowed near w₁ x₂
unfolding played
ok₂ = record { node_in = omega arith; continues = as_after p w₁ 0 x₂.call; timely = λ _. (reads p w₁ 0 _ (pos 65500) refl record { lt = tt }) }

ok₃ : Allowed near w₂ x₃
unfolding played
ok₃ = record { node_in = omega arith; continues = as_after p w₂ 1 x₃.call; timely = delivered p w₂ 1 _ (pos 65500) _ first 0 (Memᴰ.head refl) refl (reads p w₂ 1 _ (pos 65500) refl record { lt = tt }) (omega arith) refl }

ok₄ : Allowed near w₃ x₄
unfolding played
ok₄ = record { node_in = omega arith; continues = as_after p w₃ 1 x₄.call; timely = λ _. (reads p w₃ 1 _ (pos 65500) refl record { lt = tt }) }

ok₅ : Allowed near w₄ x₅
unfolding played
ok₅ = record { node_in = omega arith; continues = as_after p w₄ 0 x₅.call; timely = delivered p w₄ 0 _ (pos 65601) _ second 101 (Memᴰ.head refl) refl (reads p w₄ 0 _ (pos 65601) refl record { lt = tt }) (omega arith) refl }

ok₆ : Allowed near w₅ x₆
unfolding played
ok₆ = record { node_in = omega arith; continues = as_after p w₅ 0 x₆.call; timely = tt }

ok₇ : Allowed near w₆ x₇
unfolding played
ok₇ = record { node_in = omega arith; continues = as_after p w₆ 0 x₇.call; timely = tt }

held_is : packet_of (w₇.state 0).walk (w₇.state 0).copy ≡ message_of (result near w₃ x₄)
unfolding opened after step w₀ x₁ w₁ x₂ w₂ x₃ w₃ x₄ w₄ x₅ w₅ x₆ w₆ x₇ w₇ place_of walk.opening box1 box2 box3 box4 box5 box_a box_b box_c Boxes.step
held_is = copied_back (message_of (result near w₃ x₄)) (w₆.state 0).copy

mem₄ : Memᴰ second w₄.mail
unfolding opened after step w₀ x₁ w₁ x₂ w₂ x₃ w₃ x₄ w₄ place_of walk.opening walk.copied box1 box2 box3 box4 box5 box_a box_b box_c Boxes.step
mem₄ = Memᴰ.head refl

mem₇ : Memᴰ second w₇.mail
unfolding step x₅ w₅ x₆ w₆ x₇ w₇
mem₇ = mem₄

reads₇ : Reads near w₇ 0 (counting (counts 65)) (pos 65601)
unfolding opened after step w₀ x₁ w₁ x₂ w₂ x₃ w₃ x₄ w₄ x₅ w₅ x₆ w₆ x₇ w₇ place_of walk.opening walk.copied box1 box2 box3 box4 box5 box_a box_b box_c Boxes.step
reads₇ = record { clock = refl; no_midnight = record { lt = tt } }

link₇ : (w₇.state 0).walk.link ≡ 1
unfolding opened after step w₀ x₁ w₁ x₂ w₂ x₃ w₃ x₄ w₄ x₅ w₅ x₆ w₆ x₇ w₇ place_of walk.opening walk.copied box1 box2 box3 box4 box5 box_a box_b box_c Boxes.step
link₇ = refl

end₇ : near.cable 0 (w₇.state 0).walk.link ≡ at 1 1
end₇ = ap (near.cable 0) link₇

ok₈ : Allowed near w₇ x₈
unfolding x₈
ok₈ = record { node_in = omega arith; continues = (let l = as_after p w₇ 0 x₈.call in record { own_clock = l.own_clock; own_links_lem = l.own_links_lem; own_walk = l.own_walk; own_packet = l.own_packet; own_entries_lem = l.own_entries_lem }); timely = λ _ _. record { message = second; earlier = mem₇; a_copy = held_is; other_end = end₇; in_time = λ _. record { reads = reads₇; way = 101; short = omega arith; later = refl } } }

ok₉ : Allowed near w₈ x₉
unfolding played
ok₉ = record { node_in = omega arith; continues = as_after p w₈ 0 x₉.call; timely = tt }

ok₁₀ : Allowed near w₉ x₁₀
unfolding played
ok₁₀ = record { node_in = omega arith; continues = as_after p w₉ 0 x₁₀.call; timely = λ _ e. absurd (let z : ◌≡◌ {A = ℕ} 0 1 = cc in omega arith) }

ok₁₁ : Allowed near w₁₀ x₁₁
unfolding played
ok₁₁ = record { node_in = omega arith; continues = as_after p w₁₀ 0 x₁₁.call; timely = λ _ e. absurd (let z : ◌≡◌ {A = ℕ} 0 1 = cc in omega arith) }

ok₁₂ : Allowed near w₁₁ x₁₂
unfolding played
ok₁₂ = record { node_in = omega arith; continues = as_after p w₁₁ 0 x₁₂.call; timely = λ _ e. absurd (let z : ◌≡◌ {A = ℕ} 0 1 = cc in omega arith) }

ok₁₃ : Allowed near w₁₂ x₁₃
unfolding played
ok₁₃ = record { node_in = omega arith; continues = as_after p w₁₂ 0 x₁₃.call; timely = λ _ e. absurd (let z : ◌≡◌ {A = ℕ} 0 1 = cc in omega arith) }

ok₁₄ : Allowed near w₁₃ x₁₄
unfolding played
ok₁₄ = record { node_in = omega arith; continues = as_after p w₁₃ 0 x₁₄.call; timely = λ _ e. absurd (let z : ◌≡◌ {A = ℕ} 0 1 = cc in omega arith) }

ok₁₅ : Allowed near w₁₄ x₁₅
unfolding played
ok₁₅ = record { node_in = omega arith; continues = as_after p w₁₄ 0 x₁₅.call; timely = λ _ e. absurd (let z : ◌≡◌ {A = ℕ} 0 1 = cc in omega arith) }

ok₁₆ : Allowed near w₁₅ x₁₆
unfolding played
ok₁₆ = record { node_in = omega arith; continues = as_after p w₁₅ 0 x₁₆.call; timely = λ _ e. absurd (let z : ◌≡◌ {A = ℕ} 0 1 = cc in omega arith) }

ok₁₇ : Allowed near w₁₆ x₁₇
unfolding played
ok₁₇ = record { node_in = omega arith; continues = as_after p w₁₆ 0 x₁₇.call; timely = λ _ e. absurd (let z : ◌≡◌ {A = ℕ} 0 1 = cc in omega arith) }

ok₁₈ : Allowed near w₁₇ x₁₈
unfolding played
ok₁₈ = record { node_in = omega arith; continues = as_after p w₁₇ 0 x₁₈.call; timely = λ _ e. absurd (let z : ◌≡◌ {A = ℕ} 0 1 = cc in omega arith) }

ok₁₉ : Allowed near w₁₈ x₁₉
unfolding played
ok₁₉ = record { node_in = omega arith; continues = as_after p w₁₈ 0 x₁₉.call; timely = λ _ e. absurd (let z : ◌≡◌ {A = ℕ} 0 1 = cc in omega arith) }

ok₂₀ : Allowed near w₁₉ x₂₀
unfolding played
ok₂₀ = record { node_in = omega arith; continues = as_after p w₁₉ 0 x₂₀.call; timely = λ _ e. absurd (let z : ◌≡◌ {A = ℕ} 0 1 = cc in omega arith) }

allowed : Allows near w₀ story
unfolding Allows w₁ w₂ w₃ w₄ w₅ w₆ w₇ w₈ w₉ w₁₀ w₁₁ w₁₂ w₁₃ w₁₄ w₁₅ w₁₆ w₁₇ w₁₈ w₁₉ w₂₀
allowed = (ok₁, (ok₂, (ok₃, (ok₄, (ok₅, (ok₆, (ok₇, (ok₈, (ok₉, (ok₁₀, (ok₁₁, (ok₁₂, (ok₁₃, (ok₁₄, (ok₁₅, (ok₁₆, (ok₁₇, (ok₁₈, (ok₁₉, (ok₂₀, tt))))))))))))))))))))

all_named : AllNamed story
unfolding played
all_named = refl

-- ---- the four calls more

-- they too computed
unfoldable played_on : Unit {0}
unfolding played x₂₁ w₂₁ x₂₂ w₂₂ x₂₃ w₂₃ x₂₄ w₂₄ clock.adjust effects.adjust effects.set_by effects.read effects.lookup
played_on = tt

ok₂₁ : Allowed near w₂₀ x₂₁
unfolding x₂₁
ok₂₁ = record { node_in = omega arith; continues = as_after p w₂₀ 0 x₂₁.call; timely = tt }

ok₂₂ : Allowed near w₂₁ x₂₂
unfolding x₂₂
ok₂₂ = record { node_in = omega arith; continues = as_after p w₂₁ 0 x₂₂.call; timely = tt }

ok₂₃ : Allowed near w₂₂ x₂₃
unfolding x₂₃
ok₂₃ = record { node_in = omega arith; continues = as_after p w₂₂ 0 x₂₃.call; timely = tt }

ok₂₄ : Allowed near w₂₃ x₂₄
unfolding x₂₄
ok₂₄ = record { node_in = omega arith; continues = as_after p w₂₃ 0 x₂₄.call; timely = tt }

also_allowed : Allows near w₀ (story ++ four)
unfolding Allows w₁ w₂ w₃ w₄ w₅ w₆ w₇ w₈ w₉ w₁₀ w₁₁ w₁₂ w₁₃ w₁₄ w₁₅ w₁₆ w₁₇ w₁₈ w₁₉ w₂₀ w₂₁ w₂₂ w₂₃
also_allowed = (ok₁, (ok₂, (ok₃, (ok₄, (ok₅, (ok₆, (ok₇, (ok₈, (ok₉, (ok₁₀, (ok₁₁, (ok₁₂, (ok₁₃, (ok₁₄, (ok₁₅, (ok₁₆, (ok₁₇, (ok₁₈, (ok₁₉, (ok₂₀, (ok₂₁, (ok₂₂, (ok₂₃, (ok₂₄, tt))))))))))))))))))))))))

done_21 : (result near w₂₀ x₂₁).reply.answer ≡ Answer.Done
unfolding played_on
done_21 = refl

done_22 : (result near w₂₁ x₂₂).reply.answer ≡ Answer.Done
unfolding played_on
done_22 = refl

done_23 : (result near w₂₂ x₂₃).reply.answer ≡ Answer.Done
unfolding played_on
done_23 = refl

done_24 : (result near w₂₃ x₂₄).reply.answer ≡ Answer.Done
unfolding played_on
done_24 = refl

later_is : (later.delay.0 ≡ pos 101) × (later.offset.0 ≡ pos 449)
unfolding played_on history
later_is = (refl, refl)

refused : (result near w₈ x₉).reply.answer ≡ Answer.InWalk
unfolding played
refused = refl

proper : Proper near
unfolding opened
proper = pair_proper p (apart (only_mark 0) one_and_two refl refl) (below_2 (λ (a : ℕ). (initialized near a).reply.answer ≡ Answer.Done) refl refl)

start : Starts near w₀
unfolding w₀
start = starts p

pub alive : Example
alive =
    record {
      proper = proper;
      ways = omega arith;
      starts = start;
      all_named = all_named;
      allowed = allowed;
      refused = refused;
      delay = ap millis entry_is.0;
      offset = ap word entry_is.1;
      other_delay = ap millis entry_is.2;
      other_offset = ap word entry_is.3;
      error = ap (λ (z : ℤ). z -ℤ (near.fixed 1 -ℤ near.fixed 0)) entry_is.1;
      more_than_half = omega arith;
      also_allowed = also_allowed;
      set_done = done_21;
      adjust_done = done_22;
      read_done = done_23;
      lookup_done = done_24;
      same_delay = ap millis later_is.0;
      same_offset = ap word later_is.1;
    }
