-- Recovery: the search gives the lengths of the outputs and the mark, so its tests are those of the definition.
use mathlib.Core.Path.{◌≡◌, refl, sym, ap, ◌∙◌}
use Rattle.std.specs.Prelude.{Result, Ok, IfOk}
use Rattle.std.proofs.lemmas.Result.{IfOk-at_ok}
use mathlib.Core.Bool.{◌||◌}
use mathlib.Core.List.{List, [], ◌∷◌, ◌++◌}
use Prim.Native.Nat.{ℕ, ◌+◌, ◌*◌, ◌≤◌, ◌<◌}
use native.Mathlib.Omega.{arith}
use borrow.Author.Tests.{lt-ltb, le-ltb, ltb-false}
use lib.Dec.{ltb}
use lib.ListN.{length, length-append}
use Rattle.lists.proofs.Tests.{either, neither}
use Rattle.wire.specs.Octets.{four}
use Rattle.capture.specs.declared.Refusal.TheVariants.{ShortBuffer, CaptureLength}
use Rattle.capture.specs.declared.Refusal.{Refusal}
use Rattle.capture.specs.declared.Recovered.{Recovered}
use Rattle.capture.specs.declared.Survey.{Survey}
use Rattle.capture.specs.Search.{Span, hits, stretches}
use Rattle.capture.specs.Capture.{recovered_capture, span_octets, stretch_list}
use Rattle.capture.specs.Recover.{longest_input, Outcome, refused, written, recover, Leaves, Bounded}
use Rattle.capture.specs.code.Survey.{most_hits, survey_of, capture_length_of, stretches_length_of}
use Rattle.capture.proofs.Order.{hits_few}
use Rattle.capture.proofs.Outputs.{capture_long}

spans_long : (hs : List Span) → length (span_octets hs) ≡ 8 * length hs
spans_long [] = refl
spans_long (h ∷ hs) = omega (arith, length-append (four h.start ++ four h.size) (span_octets hs), spans_long hs)

-- ---- what the search found

module _ (input : List ℕ) (s : Survey) (e : s ≡ survey_of input) where
  pub hits_returned : s.hits ≡ length (hits input)
  unfolding survey_of
  hits_returned = ap (λ (x : Survey). x.hits) e

  pub capture_returned : capture_length_of s ≡ length (recovered_capture input)
  unfolding survey_of
  capture_returned = rw e (sym (capture_long input))

  pub stretches_returned : stretches_length_of s ≡ length (stretch_list input)
  unfolding survey_of stretch_list
  stretches_returned = rw e (sym (spans_long (stretches input)))

  pub returned_small : length input ≤ longest_input → (s.hits ≤ longest_input) × (s.octets ≤ longest_input) × (s.stretches ≤ longest_input + 1)
  unfolding survey_of
  returned_small h =
      let f = hits_few input in
      rw e (omega (arith, f.0, f.1), omega (arith, f.1), omega (arith, f.0, f.1, f.2))

  -- no packet has fewer than 32 octets, so the list has a place for each
  pub returned_few : length input ≤ longest_input → s.hits ≤ most_hits
  returned_few h =
      let f = hits_few input in
      omega (arith, hits_returned, f.0, f.1)

-- ---- the tests

module _ (input c s : List ℕ) where
  pub recover_long : longest_input < length input → recover input c s ≡ refused CaptureLength c s
  unfolding recover
  recover_long h = rw (lt-ltb longest_input (length input) h)

  module _ (short : length input ≤ longest_input) where
    pub recover_capture : length c < length (recovered_capture input) → recover input c s ≡ refused ShortBuffer c s
    unfolding recover
    recover_capture h = rw (le-ltb longest_input (length input) short, lt-ltb (length c) (length (recovered_capture input)) h)

    pub recover_stretches : length (recovered_capture input) ≤ length c → length s < length (stretch_list input) → recover input c s ≡ refused ShortBuffer c s
    unfolding recover
    recover_stretches h k = rw (le-ltb longest_input (length input) short, le-ltb (length c) (length (recovered_capture input)) h, lt-ltb (length s) (length (stretch_list input)) k)

    pub recover_written : length (recovered_capture input) ≤ length c → length (stretch_list input) ≤ length s → recover input c s ≡ written input c s
    unfolding recover
    recover_written h k = rw (le-ltb longest_input (length input) short, le-ltb (length c) (length (recovered_capture input)) h, le-ltb (length s) (length (stretch_list input)) k)

-- an outcome as a caller sees it
pub leaves : (o p : Outcome) (m : Result Recovered Refusal) (c s : List ℕ) → o ≡ p → m ≡ p.recovered → c ≡ p.capture → s ≡ p.stretches → Leaves o m c s
leaves o p m c s e e₁ e₂ e₃ = rw e (record { recovered = e₁; capture = e₂; stretches = e₃ })

-- the lengths returned are those of octets that the outputs have
abbrev Within : (c s : List ℕ) → Recovered → Type 0
Within c s m = (m.capture_length ≤ length c) × (m.stretches_length ≤ length s)

abbrev Fits : (c s : List ℕ) → Outcome → Type 0
Fits c s o = IfOk o.recovered (Within c s)

pub told_fits : (input c s c₁ s₁ : List ℕ) (r : Result Recovered Refusal) (m : Recovered) → Leaves (recover input c s) r c₁ s₁ → r ≡ Ok m → Within c s m
unfolding recover
told_fits input c s c₁ s₁ r m l e =
    IfOk-at_ok (Within c s) (sym l.recovered ∙ e)
    (either (Fits c s) (ltb longest_input (length input)) (refused CaptureLength c s) _ (λ e. tt)
    (λ e. either (Fits c s) (ltb (length c) (length (recovered_capture input)) || ltb (length s) (length (stretch_list input))) (refused ShortBuffer c s) (written input c s) (λ f. tt)
    (λ f.
    let n = neither _ _ f in
    (ltb-false _ _ n.0, ltb-false _ _ n.1))))

-- no packet has fewer than 32 octets, so there are 2,048 hits at most
pub bounded : Bounded
unfolding Bounded stretch_list
bounded input h =
    let f = hits_few input in
    (omega (arith, f.0, f.1, capture_long input), omega (arith, f.0, f.1, f.2, spans_long (stretches input)))
