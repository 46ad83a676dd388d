-- SUM-1 to SUM-7, PROOF-3: all sums, each about the definition of its rule.
use Rattle.std.specs.Prelude.{◌≡◌, [], ℕ, ℤ, pos, negsuc, ◌+ℤ◌}
use Rattle.quantity.specs.Quantity.{units, millis, seconds, half_millis}
use Rattle.quantity.specs.Words.{word, signed16}
use Rattle.calendar.specs.declared.Date.{Date}
use Rattle.calendar.specs.Date.{next, await, first_date}
use Rattle.answer.specs.declared.Answer.TheVariants.{Done}
use Rattle.clock.specs.declared.Clock.{Clock}
use Rattle.clock.specs.Midnight.{day, midnight}
use Rattle.clock.specs.LineClock.{no_count}
use Rattle.octets.specs.Octets.{two_at}
use Rattle.wire.specs.Octets.{zero_address}
use Rattle.wire.specs.Hello.{hello}
use Rattle.wire.specs.Packet.{fields}
use Rattle.table.specs.declared.Entry.{Entry}
use Rattle.table.specs.declared.Update.{Update}
use Rattle.table.specs.Forms.{Stage, on, end}
use Rattle.table.specs.Entry.{hold_down}
use Rattle.table.specs.Update.{lines}
use Rattle.arrival.specs.Steps.{delay_of}
use Rattle.sum_laws.specs.Exchange.{b_answers, a_gets, learnt}

-- SUM-1: the checksum of a HELLO that is sent without hosts
abbrev pub checksum_sent : (date time tsp addressOffset : ℕ) → ℕ
checksum_sent d t v b =
    two_at
    (hello
    record {
      source = zero_address;
      date = record { 0 = d };
      time = millis (pos t);
      tsp = word (signed16 v);
      address_offset = b;
      nhosts = 0;
    } []) 0

-- SUM-2: a date word
abbrev pub date : ℕ → Date
date w = record { 0 = w }

-- SUM-3: a route with a PID and a DELAY
abbrev pub route_by : (pid delay : ℕ) → Entry
route_by p d = record { delay = millis (pos d); offset = word (pos 0); ttl = seconds 0; pid = p; here = 0; time = millis (pos 0) }

-- SUM-3: a report over link 1
abbrev pub reported_by1 : (delay : ℕ) → Update
reported_by1 d = record { pid = 1; delay = millis (pos d); offset = word (pos 0); reading = millis (pos 0) }

-- SUM-3: the entry after a report that is taken
abbrev pub taken : (delay : ℕ) → Stage Entry
taken d = on record { delay = millis (pos d); offset = word (pos 0); ttl = hold_down; pid = 1; here = 0; time = millis (pos 0) }

-- SUM-7: a clock of a number of units, on 1 January 1972
abbrev pub clock_of : ℤ → Clock
clock_of z = record { clock = units z; delta = units (pos 0); hold = seconds 0; date = first_date }

-- PROOF-3: all of them
pub record Sums : Type 0 where
  -- SUM-1: CDE9 hex
  pub checksum : checksum_sent 0x302b 3600000 0x1234 1 ≡ 0xcde9
  -- SUM-1: 7FFF hex
  pub checksum_bare : checksum_sent 0x8000 0 0 0 ≡ 0x7fff
  -- SUM-2: 2956 steps to 2988
  pub leap_day : next (date 2956) ≡ date 2988
  -- SUM-2: 2955 steps to 3115
  pub no_leap_day : next (date 2955) ≡ date 3115
  -- SUM-2: 13311 steps to 1056
  pub ends_join : next (date 13311) ≡ date 1056
  -- SUM-3: 500 by link 2, 400 reported by link 1: taken
  pub shorter_by_100 : lines (reported_by1 400) (route_by 2 500) ≡ taken 400
  -- SUM-3: 401: not taken
  pub shorter_by_99 : lines (reported_by1 401) (route_by 2 500) ≡ end (route_by 2 500)
  -- SUM-4: down with TTL 0, 29,900 reported by another link: revived
  pub comes_up : lines (reported_by1 29900) (route_by 2 30000) ≡ taken 29900
  -- SUM-4: 29,901: stays down
  pub stays_down : lines (reported_by1 29901) (route_by 2 30000) ≡ end (route_by 2 30000)
  -- SUM-5: reading 1,000 and TSP 1,003: DELAY -3
  pub negative : delay_of (millis (pos 1000)) (word (pos 1003)) ≡ millis (negsuc 2)
  -- SUM-5: half of -3 is -2
  pub negative_half : half_millis (millis (negsuc 2)) ≡ millis (negsuc 1)
  -- SUM-6: B's packet has TSP 45,000
  pub exchange_tsp : (fields b_answers.buffer).tsp ≡ word (signed16 45000)
  -- SUM-6: DELAY is 81
  pub exchange_delay : delay_of (millis (pos 45081)) (fields b_answers.buffer).tsp ≡ millis (pos 81)
  -- SUM-6: the answer is 0
  pub exchange_answer : a_gets.reply.answer ≡ Done
  -- SUM-6: DELAY is then 100
  pub exchange_raised : learnt.delay ≡ millis (pos 100)
  -- SUM-6: OFFSET is 489
  pub exchange_offset : learnt.offset ≡ word (pos 489)
  -- SUM-7: a full day stays
  pub midnight_stays : midnight (seconds 1) no_count (clock_of day.0) ≡ clock_of day.0
  -- SUM-7: a unit more is 1 unit of the next day
  pub midnight_passes :
      midnight (seconds 1) no_count (clock_of (day.0 +ℤ pos 1))
      ≡ record { clock = units (pos 1); delta = units (pos 0); hold = seconds 1; date = await (date 1088) }
