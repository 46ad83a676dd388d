-- DATE-3: the rule of a month's last day gives the twelve numbers of the calendar, in every year.
use Rattle.std.specs.Prelude.{◌≡◌, true, false, List, [], ◌∷◌, map, ℕ, ◌%◌, eqb}
use Rattle.calendar.specs.Date.{last_day}

-- DATE-3: January to December
abbrev pub twelve : List ℕ
twelve = 1 ∷ 2 ∷ 3 ∷ 4 ∷ 5 ∷ 6 ∷ 7 ∷ 8 ∷ 9 ∷ 10 ∷ 11 ∷ 12 ∷ []

-- DATE-3: the last days of all months, with y the year minus 1972
pub record MonthLengths : Type 0 where
  pub common : (y : ℕ) → eqb (y % 4) 0 ≡ false → map (last_day y) twelve ≡ 31 ∷ 28 ∷ 31 ∷ 30 ∷ 31 ∷ 30 ∷ 31 ∷ 31 ∷ 30 ∷ 31 ∷ 30 ∷ 31 ∷ []
  pub leap : (y : ℕ) → eqb (y % 4) 0 ≡ true → map (last_day y) twelve ≡ 31 ∷ 29 ∷ 31 ∷ 30 ∷ 31 ∷ 30 ∷ 31 ∷ 31 ∷ 30 ∷ 31 ∷ 30 ∷ 31 ∷ []
