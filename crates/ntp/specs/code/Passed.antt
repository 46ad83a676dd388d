-- What the code hands on from one function to the next: that a header which is to be written passed the tests. Nothing else is said with it.
use Rattle.std.specs.Prelude.{◌≡◌, true}
use Rattle.ntp.specs.declared.Header.{Header}
use Rattle.ntp.specs.Header.{version_good, mode_good, leap_good}

-- a header that the writer takes
pub record HeaderPasses (h : Header) : Type 0 where
  pub version : version_good h.version ≡ true
  pub mode : mode_good h.mode ≡ true
  pub leap : leap_good h.leap ≡ true
