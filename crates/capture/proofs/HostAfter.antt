-- The search: what is counted so far and what remains to be counted are everything together, because each turn takes one hit.
use mathlib.Core.Path.{◌≡◌}
use mathlib.Core.List.{List, []}
use Prim.Native.Nat.{ℕ, ◌+◌, ◌≤◌}
use native.Mathlib.Nat.{zero-add}
use native.Mathlib.Omega.{arith}
use lib.ListN.{length, length-append}
use Rattle.capture.specs.declared.Hit.{Hit}
use Rattle.capture.specs.declared.Survey.{Survey}
use Rattle.capture.specs.Search.{hits, gap, gaps, stretches, hits_at}
use Rattle.capture.specs.code.Next.{IsFirst}
use Rattle.capture.specs.code.Survey.{total_size, survey_of}
use Rattle.capture.proofs.Steps.{gap_one}

pub record HostAfter (input : List ℕ) (at : ℕ) (s : Survey) : Type 0 where
  pub hits_after : s.hits + length (hits_at at input) ≡ length (hits input)
  pub octets_after : s.octets + total_size (hits_at at input) ≡ total_size (hits input)
  pub stretches_after : s.stretches + length (gaps at (length input) (hits_at at input)) ≡ length (stretches input)

pub all_left : (input : List ℕ) → HostAfter input 0 (record { hits = 0; octets = 0; stretches = 0 })
unfolding hits stretches
all_left input =
    record {
      hits_after = zero-add _;
      octets_after = zero-add _;
      stretches_after = zero-add _;
    }

module _ (input : List ℕ) (at : ℕ) (s : Survey) (left : HostAfter input at s) where
  -- one hit more, and the stretch before it
  module _ (h : Hit) (is : IsFirst input at h) (k : ℕ) (e : k ≡ length (gap at h.at)) where
    pub after_more : HostAfter input (h.at + h.size) (record { hits = s.hits + 1; octets = s.octets + h.size; stretches = s.stretches + k })
    after_more =
        let g = gaps (h.at + h.size) (length input) (hits_at (h.at + h.size) input) in
        let l₁ = rw is.first at left.hits_after in
        let l₂ = rw is.first at left.octets_after in
        let l₃ = rw is.first at left.stretches_after in
        record {
          hits_after = omega (arith, l₁);
          octets_after = omega (arith, l₂);
          stretches_after = omega (arith, l₃, length-append (gap at h.at) g);
        }

    -- each hit has octets, so no count is more than the octets passed
    pub counts_more : (s.hits ≤ at) × (s.octets ≤ at) × (s.stretches ≤ at)
        → (s.hits + 1 ≤ h.at + h.size) × (s.octets + h.size ≤ h.at + h.size) × (s.stretches + k ≤ h.at + h.size)
    counts_more b = (omega (arith, is.forward, is.some, b.0), omega (arith, is.forward, b.1), omega (arith, is.forward, is.some, b.2, gap_one at h.at))

  pub after_last : hits_at at input ≡ [] → (k : ℕ) → k ≡ length (gap at (length input))
      → record { hits = s.hits; octets = s.octets; stretches = s.stretches + k } ≡ survey_of input
  unfolding survey_of
  after_last e k d =
      let l₁ : s.hits ≡ length (hits input) = omega (arith, rw e at left.hits_after) in
      let l₂ : s.octets ≡ total_size (hits input) = omega (arith, rw e at left.octets_after) in
      let l₃ : s.stretches + k ≡ length (stretches input) = rw d (rw e at left.stretches_after) in
      rw (l₁, l₂, l₃)
