-- NTP-6: each condition of the bound is needed: at width 4 an exchange that meets all others breaks it.
use Rattle.std.specs.Prelude.{◌≡◌, Bool, true, false, List, [], ◌∷◌, ℕ, ℤ, pos, negsuc}
use Rattle.exchange.specs.Formulas.{delay, offset, ntp_delay, ntp_offset}
use Rattle.exchange.specs.HalfDelay.{exchange, half_delay}

-- NTP-6: an exchange that meets these conditions and breaks the bound
pub record Breaks (w : ℕ) (met : List Bool) (θ d e T1 T2 T3 T4 : ℤ) : Type 0 where
  pub conditions : exchange w θ d e T1 T2 T3 T4 ≡ met
  pub hello : half_delay θ (delay w T1 T2 T3 T4) (offset w T1 T2 T3 T4) ≡ false
  pub ntp : half_delay θ (ntp_delay w T1 T2 T3 T4) (ntp_offset w T1 T2 T3 T4) ≡ false

-- NTP-6: one for each condition
pub record Needed : Type 0 where
  -- NTP-6: the clocks' difference is not that of the first way
  pub there : Breaks 4 (false ∷ true ∷ true ∷ true ∷ true ∷ true ∷ true ∷ []) (pos 1) (pos 0) (pos 0) (pos 0) (pos 0) (pos 1) (pos 0)
  -- NTP-6: nor that of the second
  pub back : Breaks 4 (true ∷ false ∷ true ∷ true ∷ true ∷ true ∷ true ∷ []) (negsuc 0) (pos 1) (pos 0) (pos 0) (pos 0) (pos 0) (pos 0)
  -- NTP-6: a way of less than 0
  pub way_there : Breaks 4 (true ∷ true ∷ false ∷ true ∷ true ∷ true ∷ true ∷ []) (pos 1) (negsuc 0) (pos 0) (pos 0) (pos 0) (pos 1) (pos 0)
  pub way_back : Breaks 4 (true ∷ true ∷ true ∷ false ∷ true ∷ true ∷ true ∷ []) (negsuc 0) (pos 1) (negsuc 0) (pos 0) (pos 0) (pos 0) (pos 0)
  -- NTP-6: T2 - T1 is 9, and the word ends at 7
  pub there_holds : Breaks 4 (true ∷ true ∷ true ∷ true ∷ false ∷ true ∷ true ∷ []) (pos 7) (pos 2) (pos 0) (pos 0) (pos 9) (pos 9) (pos 2)
  -- NTP-6: T3 - T4 is -9, and the word begins at -8
  pub back_holds : Breaks 4 (true ∷ true ∷ true ∷ true ∷ true ∷ false ∷ true ∷ []) (negsuc 7) (pos 0) (pos 1) (pos 8) (pos 0) (pos 0) (pos 9)
  -- NTP-6: two ways of 4: the delay is 8, and the word has -8 for it
  pub ways_hold : Breaks 4 (true ∷ true ∷ true ∷ true ∷ true ∷ true ∷ false ∷ []) (pos 0) (pos 4) (pos 4) (pos 0) (pos 4) (pos 4) (pos 8)
  -- NTP-6: a word without bits has no number
  pub width : Breaks 0 (true ∷ true ∷ true ∷ true ∷ true ∷ true ∷ true ∷ []) (negsuc 0) (pos 0) (pos 0) (pos 0) (pos 0) (pos 0) (pos 0)
