-- REPLY-2: what a call returns. A refusal returns zeros.
use Rattle.std.specs.Prelude.{ℕ, pos}
use Rattle.quantity.specs.declared.Millis.{Millis}
use Rattle.quantity.specs.Quantity.{millis}
use Rattle.calendar.specs.declared.Date.{Date}
use Rattle.answer.specs.declared.Answer.{Answer}
use Rattle.answer.specs.declared.Answer.TheVariants.{Done}
use Rattle.wire.specs.declared.Address.{Address}
use Rattle.wire.specs.Octets.{zero_address}
use Rattle.host.specs.declared.Reply.{Reply}

-- REPLY-2: an answer and zeros
abbrev pub plainly : Answer → Reply
plainly a =
    record {
      answer = a;
      length = 0;
      id = 0;
      pid = 0;
      time = millis (pos 0);
      date = record { 0 = 0 };
      source = zero_address;
      tsp = 0;
      nhosts = 0;
      step = 0;
      line = 0;
    }

-- REPLY-2, SEND-4: a send's length
abbrev pub returns_length : ℕ → Reply
returns_length n =
    record {
      answer = Done;
      length = n;
      id = 0;
      pid = 0;
      time = millis (pos 0);
      date = record { 0 = 0 };
      source = zero_address;
      tsp = 0;
      nhosts = 0;
      step = 0;
      line = 0;
    }

-- REPLY-2, CALL-3: a lookup's id and PID
abbrev pub returns_route : (id pid : ℕ) → Reply
returns_route i p =
    record {
      answer = Done;
      length = 0;
      id = i;
      pid = p;
      time = millis (pos 0);
      date = record { 0 = 0 };
      source = zero_address;
      tsp = 0;
      nhosts = 0;
      step = 0;
      line = 0;
    }

-- REPLY-2, CLOCK-8: a reading and DATE
abbrev pub returns_time : Millis → Date → Reply
returns_time t d =
    record {
      answer = Done;
      length = 0;
      id = 0;
      pid = 0;
      time = t;
      date = d;
      source = zero_address;
      tsp = 0;
      nhosts = 0;
      step = 0;
      line = 0;
    }

-- REPLY-2, INSPECT-2: what an inspection returns, TSP unsigned
abbrev pub returns_packet : (source : Address) → Millis → (tsp nhosts : ℕ) → Reply
returns_packet a t v n =
    record {
      answer = Done;
      length = 0;
      id = 0;
      pid = 0;
      time = t;
      date = record { 0 = 0 };
      source = a;
      tsp = v;
      nhosts = n;
      step = 0;
      line = 0;
    }

-- REPLY-2, WALK-7: a place: step 1 to 5, line 1 to 4 for (a) to (d), host id; zeros for none
abbrev pub returns_place : (step line id : ℕ) → Reply
returns_place n m i =
    record {
      answer = Done;
      length = 0;
      id = i;
      pid = 0;
      time = millis (pos 0);
      date = record { 0 = 0 };
      source = zero_address;
      tsp = 0;
      nhosts = 0;
      step = n;
      line = m;
    }
