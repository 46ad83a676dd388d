-- The numbers of the laws. Every proof cites them by name, so a wrong number fails in the arithmetic.
use Rattle.std.specs.Prelude.{ℕ}

-- LIVE-2, LIVE-4: a cable adds 100 ms to a DELAY: RFC 891's MINDELAY
abbrev pub rise : ℕ
rise = 100

-- LIVE-4: an epoch of silence lasts 120 seconds: RFC 891's hold-down
abbrev pub epoch_seconds : ℕ
epoch_seconds = 120

-- LIVE-4: after 299 epochs a silent host is down: rise * 300 is RFC 891's MAXDELAY
abbrev pub gone_epochs : ℕ
gone_epochs = 299

-- LIVE-2: a message takes at most 50 ms: there and back is at most `rise`
abbrev pub quick_way : ℕ
quick_way = 50

-- LIVE-2: a host has at most 59 seconds in a round: two rounds are shorter than the hold-down
abbrev pub round_seconds : ℕ
round_seconds = 59

-- LIVE-6: a clock OFFSET is right to 50.5 ms, 101 half milliseconds, for each cable
abbrev pub half_millis : ℕ
half_millis = 101

-- LIVE-2: a network has at most sixteen hosts, so a shortest way has fewer than sixteen cables
abbrev pub ways_below : ℕ
ways_below = 16
