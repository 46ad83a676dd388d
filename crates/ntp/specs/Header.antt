-- NTP-1: the header of RFC 5905, section 7.3: 48 octets, its fields and their places.
use Rattle.std.specs.Prelude.{ℕ, ◌+◌, ◌*◌, ◌/◌, ◌%◌, Bool, cond, not, ◌&&◌, List, [], ◌∷◌, ◌++◌, length, ◌==◌, nat_le, Result, Ok, Err}
use Rattle.octets.specs.Octets.{four, eight, octet_at, four_at}
use Rattle.ntp.specs.declared.Answer.{Answer}
use Rattle.ntp.specs.declared.Answer.TheVariants.{NtpLength, NtpVersion, NtpMode}
use Rattle.ntp.specs.declared.Header.{Header}
use Rattle.ntp.specs.Octets.{signed_octet, signed_at, time_at}

-- NTP-1: the octets of the header
abbrev pub header_length : ℕ
header_length = 48

-- NTP-7: the version
abbrev pub ntp_version : ℕ
ntp_version = 4

-- ---- the places of the fields

-- NTP-1: where leap, version and mode are
abbrev pub first_octet_place : ℕ
first_octet_place = 0

-- NTP-1: where the stratum is
abbrev pub stratum_place : ℕ
stratum_place = 1

-- NTP-1: where the poll exponent is
abbrev pub poll_place : ℕ
poll_place = 2

-- NTP-1: where the precision is
abbrev pub precision_place : ℕ
precision_place = 3

-- NTP-1: where the root delay is
abbrev pub root_delay_place : ℕ
root_delay_place = 4

-- NTP-1: where the root dispersion is
abbrev pub root_dispersion_place : ℕ
root_dispersion_place = 8

-- NTP-1: where the reference id is
abbrev pub reference_id_place : ℕ
reference_id_place = 12

-- NTP-1: where the reference time is
abbrev pub reference_place : ℕ
reference_place = 16

-- NTP-1: where the origin time is, T1
abbrev pub origin_place : ℕ
origin_place = 24

-- NTP-1: where the receive time is, T2
abbrev pub receive_place : ℕ
receive_place = 32

-- NTP-1: where the transmit time is, T3
abbrev pub transmit_place : ℕ
transmit_place = 40

-- ---- the fields of octet 0

-- NTP-1: the two high bits
abbrev pub leap_of : (front : ℕ) → ℕ
leap_of front = front / 64

-- NTP-1: the next three bits
abbrev pub version_of : (front : ℕ) → ℕ
version_of front = front / 8 % 8

-- NTP-1: the three low bits
abbrev pub mode_of : (front : ℕ) → ℕ
mode_of front = front % 8

-- NTP-1: the first octet of a header
abbrev pub first_octet_of : Header → ℕ
first_octet_of h = h.leap * 64 + h.version * 8 + h.mode

-- ---- the tests, of a header that is read and of one that is to be written

-- NTP-7: is the version 4?
abbrev pub version_good : ℕ → Bool
version_good version = version == ntp_version

-- NTP-7: is the packet mode 1 to 5?
abbrev pub mode_good : ℕ → Bool
mode_good mode = nat_le 1 mode && nat_le mode 5

-- NTP-7: is the leap at most 3? Only a header to write can have more.
abbrev pub leap_good : ℕ → Bool
leap_good leap = nat_le leap 3

-- ---- read

-- NTP-1: the fields of a header
unfoldable pub fields : List ℕ → Header
fields octets =
    record {
      leap = leap_of (octet_at octets first_octet_place);
      version = version_of (octet_at octets first_octet_place);
      mode = mode_of (octet_at octets first_octet_place);
      stratum = octet_at octets stratum_place;
      poll = signed_at octets poll_place;
      precision = signed_at octets precision_place;
      root_delay = four_at octets root_delay_place;
      root_dispersion = four_at octets root_dispersion_place;
      reference_id = four_at octets reference_id_place;
      reference = time_at octets reference_place;
      origin = time_at octets origin_place;
      receive = time_at octets receive_place;
      transmit = time_at octets transmit_place;
    }

-- NTP-1, NTP-7: read: 23, 24, 25, or the fields
unfoldable pub read : List ℕ → Result Header Answer
read octets =
    cond (not (length octets == header_length)) (Err NtpLength)
    (cond (not (version_good (fields octets).version)) (Err NtpVersion)
    (cond (not (mode_good (fields octets).mode)) (Err NtpMode)
    (Ok (fields octets))))

-- ---- written

-- NTP-1: the octets of a header
unfoldable pub octets_of : Header → List ℕ
octets_of h =
    first_octet_of h ∷ h.stratum ∷ signed_octet h.poll ∷ signed_octet h.precision ∷ []
    ++ four h.root_delay ++ four h.root_dispersion ++ four h.reference_id
    ++ eight h.reference.0 ++ eight h.origin.0 ++ eight h.receive.0 ++ eight h.transmit.0

-- NTP-1, NTP-7: write: 24, 25, or the octets
unfoldable pub write : Header → Result (List ℕ) Answer
write h =
    cond (not (version_good h.version)) (Err NtpVersion)
    (cond (not (mode_good h.mode && leap_good h.leap)) (Err NtpMode)
    (Ok (octets_of h)))
