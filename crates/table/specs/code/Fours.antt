-- The entries of a word four at a time, and what remains of the word. There is no rule here.
use Rattle.std.specs.Prelude.{Bool, ◌&&◌, List, ℕ, ◌+◌, ◌-◌, ◌*◌, ◌/◌, ◌%◌, ◌≤◌, ◌<◌, ◌^◌, eqb, ltb, leb, length}
use Rattle.std.specs.Int.Bits.{bit_or}
use Rattle.lists.specs.Lists.{part}
use Rattle.clock.specs.Midnight.{day_millis}
use Rattle.table.specs.declared.Entry.{Entry}
use Rattle.table.specs.declared.entries.Stretch.{Stretch}
use Rattle.table.specs.Forms.{every_from}
use Rattle.table.specs.Entry.{max_delay, hold_down, up_to}
use Rattle.table.specs.code.Words.{as_in_word}

-- DELAY and time are in range; so are TTL and PID, and the mark is as given
abbrev pub wide_good : Entry → Bool
wide_good e = up_to max_delay e.delay && up_to day_millis e.time

abbrev pub small_good : (mark : ℕ) → Entry → Bool
small_good m e = eqb e.here m && (leb e.ttl.0 hold_down.0 && leb e.pid 8)

-- TTL, PID and mark as one number, and the test of such a number: TTL at most 120, PID at most 8, no mark
abbrev pub fields_of : Entry → ℕ
fields_of e = e.ttl.0 + e.pid * 65536 + e.here * 16777216

abbrev pub fields_good : ℕ → Bool
fields_good f = ltb (f % 65536) 121 && ltb f 589824

-- its bits with those of the number that is moved up, and the test of these bits
abbrev pub over : ℕ → ℕ
over f = bit_or f (f + 458759)

abbrev pub over_good : ℕ → Bool
over_good x = ltb (x % 65536) 128 && ltb x 1048576

-- what remains of the entries of a word after its fours
abbrev pub rest_of : Stretch → Stretch
rest_of w =
    let n = 4 * ((w.end - w.first) / 4) in
    record { first = w.first + n; end = w.end; word = w.word / 2 ^ (n % 64) }

-- four k lies in the host table
pub record FourFits (k : ℕ) (w : Stretch) (entries : List Entry) : Type 0 where
  pub few : k < 16
  pub inside : w.first + 4 * k + 4 ≤ length entries

-- the entries of four k are as in the word; those of all fours are
abbrev pub four_good : (k : ℕ) → Stretch → List Entry → Bool
four_good k w entries = every_from (4 * k) (as_in_word w.word) (part (w.first + 4 * k) 4 entries)

abbrev pub all_fours : Stretch → List Entry → Bool
all_fours w entries = every_from 0 (as_in_word w.word) (part w.first (4 * ((w.end - w.first) / 4)) entries)
