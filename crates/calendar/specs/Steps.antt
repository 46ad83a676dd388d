-- DATE-6: stepping back undoes stepping forward, and the ends of the word join.
use Rattle.std.specs.Prelude.{◌≡◌, true, ◌<◌, ◌^◌}
use Rattle.calendar.specs.declared.Date.{Date}
use Rattle.calendar.specs.Date.{real, next, previous, first_date, last_date}

-- DATE-6, DATE-4: for every 16-bit word that is a real date, with or without bit 15
pub record Steps : Type 0 where
  pub on_and_back : (d : Date) → d.0 < 2 ^ 16 → real d ≡ true → previous (next d) ≡ d
  pub back_and_on : (d : Date) → d.0 < 2 ^ 16 → real d ≡ true → next (previous d) ≡ d
  pub after_last : next last_date ≡ first_date
  pub before_first : previous first_date ≡ last_date
