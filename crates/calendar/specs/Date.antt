-- DATE-1: the RT-11 date word, its fields, and the calendar of 1972 to 2003.
use Rattle.std.specs.Prelude.{Bool, cond, ◌&&◌, ℕ, ◌+◌, ◌*◌, ◌-◌, ◌/◌, ◌%◌, ltb, leb, eqb, Option, Some, None}
use Rattle.calendar.specs.declared.Date.{Date}

-- ---- the fields of the word

-- DATE-1: bits 0 to 4: the year minus 1972
abbrev pub year : Date → ℕ
year d = d.0 % 32

-- DATE-1: bits 5 to 9: the day
abbrev pub day : Date → ℕ
day d = d.0 / 32 % 32

-- DATE-1: bits 10 to 13: the month
abbrev pub month : Date → ℕ
month d = d.0 / 1024 % 16

-- DATE-1: bit 14
abbrev pub spare : Date → ℕ
spare d = d.0 / 16384 % 2

-- DATE-1: bit 15
abbrev pub flag : Date → ℕ
flag d = d.0 / 32768 % 2

-- DATE-1: the word of a year minus 1972, a month and a day, with bit 15 as given
abbrev pub date_of : (flag year month day : ℕ) → Date
date_of f y m d = record { 0 = f * 32768 + m * 1024 + d * 32 + y }

-- DATE-1: is bit 15 one: is the date of a master clock awaited?
abbrev pub awaited : Date → Bool
awaited d = eqb (flag d) 1

-- DATE-1: the same day with bit 15 one
abbrev pub await : Date → Date
await d = record { 0 = d.0 % 32768 + 32768 }

-- ---- real dates

-- DATE-3: the month's last day, 30 + (m + m/8) mod 2; February has 28, or 29 in every fourth year from 1972 on
unfoldable pub last_day : (year month : ℕ) → ℕ
last_day y m = cond (eqb m 2) (cond (eqb (y % 4) 0) 29 28) (30 + (m + m / 8) % 2)

-- DATE-2: is the date real? Bit 15 does not matter.
unfoldable pub real : Date → Bool
real d =
    eqb (spare d) 0 && leb 1 (month d) && leb (month d) 12 && leb 1 (day d) && leb (day d) (last_day (year d) (month d))

-- DATE-4: the first year of the word
abbrev pub first_year : ℕ
first_year = 1972

-- DATE-4: the last year of the word
abbrev pub last_year : ℕ
last_year = 2003

-- DATE-5: the date of a year, month and day with bit 15 zero, if that is a real date
unfoldable pub made : (year month day : ℕ) → Option Date
made y m d =
    cond (leb first_year y && leb y last_year && leb m 12 && leb d 31 && real (date_of 0 (y - first_year) m d))
    (Some (date_of 0 (y - first_year) m d))
    None

-- ---- stepping

-- DATE-4: 1 January 1972
abbrev pub first_date : Date
first_date = date_of 0 0 1 1

-- DATE-4: 31 December 2003
abbrev pub last_date : Date
last_date = date_of 0 31 12 31

-- DATE-4: the day after; the last date steps to the first
unfoldable pub next : Date → Date
next d =
    cond (ltb (day d) (last_day (year d) (month d))) (date_of (flag d) (year d) (month d) (day d + 1))
    (cond (ltb (month d) 12) (date_of (flag d) (year d) (month d + 1) 1)
    (cond (ltb (year d) (year last_date)) (date_of (flag d) (year d + 1) 1 1)
    (date_of (flag d) (year first_date) (month first_date) (day first_date))))

-- DATE-4: the day before; the first date steps to the last
unfoldable pub previous : Date → Date
previous d =
    cond (ltb 1 (day d)) (date_of (flag d) (year d) (month d) (day d - 1))
    (cond (ltb 1 (month d)) (date_of (flag d) (year d) (month d - 1) (last_day (year d) (month d - 1)))
    (cond (ltb (year first_date) (year d)) (date_of (flag d) (year d - 1) 12 (last_day (year d - 1) 12))
    (date_of (flag d) (year last_date) (month last_date) (day last_date))))
