-- REPLY-5: what the exported calls return, with the answer as its number.
use Rattle.std.specs.Prelude.{◌≡◌, List, ℕ, Option, Some, None}
use Rattle.calendar.specs.declared.Date.{Date}
use Rattle.answer.specs.Answer.{number}
use Rattle.clock.specs.declared.Clock.{Clock}
use Rattle.table.specs.declared.Entry.{Entry}
use Rattle.host.specs.declared.Links.{Links}
use Rattle.host.specs.declared.walk.Walk.{Walk}
use Rattle.host.specs.declared.Reply.{Reply}
use Rattle.calls.specs.Perform.{Outcome}
use Rattle.hello.specs.declared.Sent.{Sent}
use Rattle.hello.specs.declared.Route.{Route}
use Rattle.hello.specs.declared.Time.{Time}
use Rattle.hello.specs.declared.Inspected.{Inspected}
use Rattle.hello.specs.declared.Stepped.{Stepped}

-- REPLY-5: the number alone
abbrev pub numbered : Reply → ℕ
numbered r = number r.answer

-- REPLY-5: a read: time and DATE
abbrev pub time_returned : Reply → Time
time_returned r = record { answer = number r.answer; time = r.time; date = r.date }

-- DATE-1, DATE-2: the word of a date that was made; 0 if there is no such day
abbrev pub date_returned : Option Date → ℕ
date_returned (Some d) = d.0
date_returned None = 0

-- REPLY-5: a send: the length
abbrev pub sent_returned : Reply → Sent
sent_returned r = record { answer = number r.answer; length = r.length }

-- REPLY-5: a lookup: id and PID
abbrev pub route_returned : Reply → Route
route_returned r = record { answer = number r.answer; id = r.id; pid = r.pid }

-- REPLY-5, INSPECT-2: an inspection: source, time, TSP, NHOSTS
abbrev pub inspected_returned : Reply → Inspected
inspected_returned r =
    record { answer = number r.answer; source = r.source; time = r.time; tsp = r.tsp; nhosts = r.nhosts }

-- REPLY-5, WALK-7: a walk: the next place
abbrev pub stepped_returned : Reply → Stepped
stepped_returned r = record { answer = number r.answer; step = r.step; line = r.line; id = r.id }

-- CALL-4, REPLY-5: everything after a call, with the part of the reply that it returns
pub record Returns {R : Type 0} (returned : Reply → R) (o : Outcome) (r : R) (c : Clock) (l : Links) (w : Walk) (octets : List ℕ) (es : List Entry) : Type 0 where
  pub result : r ≡ returned o.reply
  pub clock : c ≡ o.clock
  pub links : l ≡ o.links
  pub walk : w ≡ o.walk
  pub copy : octets ≡ o.copy
  pub entries : es ≡ o.entries
