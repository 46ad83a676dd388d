-- The examples, computed.
use mathlib.Core.Path.{◌≡◌, sym, ap}
use Prim.Native.Nat.{ℕ, suc}
use native.Mathlib.Omega.{arith}
use lib.ListN.{length}
use Rattle.checksum.specs.Checksum.{fold, folded, checksum_good}
use Rattle.wire.specs.Ip.{ip_form, ip_checksum, protocol}
use Rattle.wire.specs.Hello.{hello_form, hello_checksum}
use Rattle.wire.specs.Packet.{parse}
use Rattle.capture.specs.Search.{passes, hit, hits_from, hits}
use Rattle.capture.specs.Damage.{Reading, read_from}
use Rattle.capture.specs.Straddle.{StraddledUndamaged, StraddledDamaged}

-- how many hits there are from the place on
abbrev count : Reading → ℕ
count r = length r.hits_onward

differ : {n : ℕ} → 0 ≡ suc n → ⊥
differ e = omega arith

pub undamaged : StraddledUndamaged
unfolding StraddledUndamaged read_from hits hits_from hit passes parse ip_form ip_checksum protocol hello_form hello_checksum checksum_good folded fold
undamaged = (omega arith, ((λ h. omega arith), tt), λ e. differ (sym (ap count e)))

pub damaged : StraddledDamaged
unfolding StraddledDamaged read_from hits hits_from hit passes parse ip_form ip_checksum protocol hello_form hello_checksum checksum_good folded fold
damaged = (omega arith, ((λ h. omega arith), ((λ h. omega arith), tt)), λ e. differ (ap count e))
