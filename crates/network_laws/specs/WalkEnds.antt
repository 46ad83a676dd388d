-- WALK-5, NET-11: a walk that runs to its end equals the arrival with the table of step 5.
use Rattle.std.specs.Prelude.{◌≡◌, Bool, true, false, cond, not, List, [], ◌∷◌, map, ℕ, ◌+◌, ◌*◌, ◌≤◌, ◌^◌, ltb, eqb, length}
use Rattle.answer.specs.declared.Answer.{Answer}
use Rattle.answer.specs.declared.Answer.TheVariants.{Done, Setting, OutOfRange, InWalk}
use Rattle.clock.specs.declared.Counter.{Counter}
use Rattle.clock.specs.Clock.{count_used}
use Rattle.clock.specs.LineClock.{no_counter}
use Rattle.net_table.specs.declared.NetTable.{NetTable}
use Rattle.net_table.specs.Table.{table_bad}
use Rattle.table.specs.Forms.{every}
use Rattle.host.specs.declared.Settings.{Settings}
use Rattle.host.specs.declared.guard.Scope.TheVariants.{Walking}
use Rattle.host.specs.State.{places_per_host}
use Rattle.host.specs.CallState.{CallState}
use Rattle.host.specs.Guard.{longest, guard, done}
use Rattle.host.specs.Walk.{is_open}
use Rattle.calls.specs.Perform.{Outcome, step, open_walk, receive, refused, perform, left}
use Rattle.network_laws.specs.Range.{under}
use Rattle.network_laws.specs.Slots.{Slots}

-- ---- boxes

-- NET-11: what a box gets: a counter and the net table
pub record Box : Type 0 where
  pub counter : Counter
  pub nets : NetTable

-- WALK-3: a box
abbrev pub boxed : Box → CallState → Outcome
boxed b x = perform (step b.counter) (under b.nets x)

-- WALK-5: boxes one after another, until the walk is closed
unfoldable pub walk_on : List Box → CallState → Outcome
walk_on [] x = refused InWalk (step no_counter) x
walk_on (b ∷ bs) x = cond (is_open (boxed b x).walk) (walk_on bs (left x (boxed b x))) (boxed b x)

-- WALK-5: the state after them
unfoldable pub boxes_on : List Box → CallState → CallState
boxes_on [] x = x
boxes_on (b ∷ bs) x = boxes_on bs (left x (boxed b x))

-- WALK-5: five steps, and four lines of each id
abbrev pub most_boxes : ℕ
most_boxes = 5 + 4 * places_per_host

-- ---- boxes that were not refused

-- NET-9, NET-8: what a table makes a host answer: 12 if bad, 1 for another NHOSTS
abbrev pub by_table : Settings → NetTable → Answer
by_table s t = cond (table_bad t) OutOfRange (cond (not (eqb s.layout.nhosts t.nhosts)) Setting Done)

-- WALK-5: the boxes that were not refused
abbrev pub taken : Settings → List Box → List Box
taken s [] = []
taken s (b ∷ bs) = cond (done (by_table s b.nets)) (b ∷ taken s bs) (taken s bs)

-- CLOCK-8: a count has 16 bits
abbrev pub counts_fit : List Box → Bool
counts_fit bs = every (λ (b : Box). ltb (count_used b.counter).0 (2 ^ 16)) bs

-- NET-11: boxes with one table
abbrev pub with_table : NetTable → List Counter → List Box
with_table t ks = map (λ (k : Counter). record { counter = k; nets = t }) ks

-- ---- the claim

-- WALK-5: the walk has ended as the arrival
pub record Ends (walked arrived : Outcome) : Type 0 where
  pub reply : walked.reply ≡ arrived.reply
  pub clock : walked.clock ≡ arrived.clock
  pub links : walked.links ≡ arrived.links
  pub entries : walked.entries ≡ arrived.entries
  pub closed : is_open walked.walk ≡ false

-- WALK-1: opening a walk
abbrev pub opening : (link : ℕ) (packet : List ℕ) → CallState → Outcome
opening i packet x = perform (open_walk i packet) x

-- WALK-5, NET-11: for every packet and every host with a slot for each link
pub record WalkEnds : Type 0 where
  -- WALK-5, WALK-6, NET-11: with the counter of the first box that was not refused, and the table of the fifth
  pub whole : (i : ℕ) (packet : List ℕ) (x : CallState) (bs : List Box) (b₁ b₂ b₃ b₄ b₅ : Box) (more : List Box) → Slots x.host.settings x.host.links → counts_fit bs ≡ true
      → (opening i packet x).reply.answer ≡ Done → taken x.host.settings bs ≡ b₁ ∷ b₂ ∷ b₃ ∷ b₄ ∷ b₅ ∷ more → most_boxes ≤ length (taken x.host.settings bs)
      → Ends (walk_on bs (left x (opening i packet x))) (perform (receive i b₁.counter packet) (under b₅.nets x))
  -- WALK-5: with one table throughout it is the arrival with that table
  pub one_table : (i : ℕ) (packet : List ℕ) (x : CallState) (k : Counter) (ks : List Counter) → Slots x.host.settings x.host.links → counts_fit (with_table x.nets (k ∷ ks)) ≡ true
      → (opening i packet x).reply.answer ≡ Done → most_boxes ≤ length (k ∷ ks)
      → Ends (walk_on (with_table x.nets (k ∷ ks)) (left x (opening i packet x))) (perform (receive i k packet) x)
  -- NET-9: an open walk's box is refused only because of its table
  pub by_table_lem : (i : ℕ) (packet : List ℕ) (x : CallState) (bs : List Box) (t : NetTable) → counts_fit bs ≡ true → (opening i packet x).reply.answer ≡ Done
      → is_open (boxes_on bs (left x (opening i packet x))).walk ≡ true
      → guard Walking (under t (boxes_on bs (left x (opening i packet x)))) ≡ by_table x.host.settings t
  -- WALK-1: if opening refuses, it is the arrival's refusal, and nothing changes
  pub refused : (i : ℕ) (packet : List ℕ) (k : Counter) (x : CallState) → longest ≤ length x.copy → done (opening i packet x).reply.answer ≡ false
      → opening i packet x ≡ perform (receive i k packet) x
  pub unchanged : (i : ℕ) (packet : List ℕ) (x : CallState) → done (opening i packet x).reply.answer ≡ false → left x (opening i packet x) ≡ x
