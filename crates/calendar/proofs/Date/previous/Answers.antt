-- A real date's fields fit the word, and each branch is one case of `Follows`, against which `previous` goes.
use mathlib.Core.Path.{refl, sym, ◌∙◌}
use Prim.Native.Nat.{◌-◌}
use native.Mathlib.Omega.{arith}
use Rattle.calendar.proofs.Months.{month_length, last_of_december}
use Rattle.calendar.proofs.Days.{read, real_says, day_fits, day_of}
use Rattle.calendar.proofs.Stepping.{new_day, new_month, new_year, from_the_start, against}
use Rattle.calendar.proofs.Date.previous.Goals as goal

pub of-requires : goal.of-requires
of-requires c =
    let r = (real_says c.args.self c.requires).its in
    omega (arith, day_fits r)

pub returns-then-day-gt1 : goal.returns-then-day-gt1
returns-then-day-gt1 c =
    let v = read c.args.self c.requires c.flag-flag.ensures c.year-year.ensures c.month-month.ensures c.day-day.ensures in
    let r = day_of v c.requires in
    c.of.ensures ∙ sym (against (omega arith) (omega arith) (new_day refl refl (omega arith) (omega arith)) v)

pub last_day-requires : goal.last_day-requires
last_day-requires c = omega (arith, (real_says c.args.self c.requires).its)

pub of-requires-then-month-gt1 : goal.of-requires-then-month-gt1
of-requires-then-month-gt1 c =
    let r = (real_says c.args.self c.requires).its in
    let l = month_length c.year-year.result (c.month-month.result - 1) in
    omega arith

pub returns-then-month-gt1 : goal.returns-then-month-gt1
returns-then-month-gt1 c =
    let v = read c.args.self c.requires c.flag-flag.ensures c.year-year.ensures c.month-month.ensures c.day-day.ensures in
    let r = day_of v c.requires in
    let l = month_length c.year-year.result (c.month-month.result - 1) in
    c.of-then-month-gt1.ensures ∙ sym (against (omega arith) (omega arith) (new_month refl (omega arith) (omega arith) c.last_day.ensures (omega arith)) v)

pub of-requires-then-year : goal.of-requires-then-year
of-requires-then-year c =
    let l = month_length (c.year-year.result - 1) 12 in
    omega arith

pub returns-then-year : goal.returns-then-year
returns-then-year c =
    let v = read c.args.self c.requires c.flag-flag.ensures c.year-year.ensures c.month-month.ensures c.day-day.ensures in
    let r = day_of v c.requires in
    let l = last_of_december (c.year-year.result - 1) refl c.last_day-then-year.ensures in
    c.of-then-year.ensures ∙ sym (against (omega arith) (omega arith) (new_year (omega arith) (omega arith) (omega arith) l refl (omega arith)) v)

pub returns : goal.returns
returns c =
    let v = read c.args.self c.requires c.flag-flag.ensures c.year-year.ensures c.month-month.ensures c.day-day.ensures in
    let r = day_of v c.requires in
    c.flagged.ensures ∙ sym (against (omega arith) (omega arith) (from_the_start (omega arith) (omega arith) (omega arith) refl refl refl) v)
