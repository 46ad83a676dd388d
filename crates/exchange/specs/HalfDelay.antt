-- NTP-6: the half-delay bound for every word width, with HELLO's formulas and with NTP's.
use Rattle.std.specs.Prelude.{◌≡◌, Bool, true, ◌&&◌, List, [], ◌∷◌, ℕ, ◌*◌, ◌-◌, ◌^◌, ◌≤◌, eqb, ℤ, pos, neg_ℤ, nat_abs, ◌+ℤ◌, ◌-ℤ◌}
use Rattle.std.specs.Int.Signed.{lt_z, le_z, shr_z}
use Rattle.quantity.specs.Words.{low_bits}
use Rattle.exchange.specs.Formulas.{delay, offset, ntp_delay, ntp_offset}

-- ---- one exchange: B's clock is θ ahead of A's, the way there takes d, and the way back e

-- NTP-6: equal modulo 2^w
abbrev pub congruent : (w : ℕ) (a b : ℤ) → Bool
congruent w a b = eqb (low_bits w a) (low_bits w b)

-- NTP-6: within the signed word
abbrev pub holds : (w : ℕ) (z : ℤ) → Bool
holds w z = le_z (neg_ℤ (pos (2 ^ (w - 1)))) z && lt_z z (pos (2 ^ (w - 1)))

-- NTP-6: one exchange: B is θ ahead, the ways take d and e. The time between T2 and T3 is free.
abbrev pub exchange : (w : ℕ) (θ d e T1 T2 T3 T4 : ℤ) → List Bool
exchange w θ d e T1 T2 T3 T4 =
    congruent w (T2 -ℤ T1) (θ +ℤ d)
    ∷ congruent w (T3 -ℤ T4) (θ -ℤ e)
    ∷ le_z (pos 0) d
    ∷ le_z (pos 0) e
    ∷ holds w (θ +ℤ d)
    ∷ holds w (θ -ℤ e)
    ∷ holds w (d +ℤ e)
    ∷ []

-- NTP-6: all conditions are true
abbrev pub all : List Bool → Bool
all [] = true
all (t ∷ ts) = t && all ts

-- ---- the law

-- NTP-6: the error of the offset, doubled, is at most the delay plus one
abbrev pub half_delay : (θ delay offset : ℤ) → Bool
half_delay θ delay offset = le_z (pos (2 * nat_abs (offset -ℤ θ))) (delay +ℤ pos 1)

-- NTP-6: the delay is the sum of the ways, and the offset is off by half of their difference
pub record Measured (θ d e delay offset : ℤ) : Type 0 where
  pub ways : delay ≡ d +ℤ e
  pub middle : offset ≡ θ +ℤ shr_z (d -ℤ e) 2
  pub half : half_delay θ delay offset ≡ true

-- NTP-6: for every width and every such exchange
unfoldable pub HalfDelay : Type 0
HalfDelay =
    (w : ℕ) → 1 ≤ w → (θ d e T1 T2 T3 T4 : ℤ) → all (exchange w θ d e T1 T2 T3 T4) ≡ true
    → Measured θ d e (delay w T1 T2 T3 T4) (offset w T1 T2 T3 T4)
    × Measured θ d e (ntp_delay w T1 T2 T3 T4) (ntp_offset w T1 T2 T3 T4)
