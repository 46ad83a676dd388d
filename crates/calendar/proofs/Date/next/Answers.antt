-- A real date's fields fit the word, and each branch is one case of `Follows`, along which `next` goes.
use mathlib.Core.Path.{◌≡◌, refl, sym, ◌∙◌}
use native.Mathlib.Omega.{arith}
use Rattle.calendar.proofs.Months.{month_length, last_of_december}
use Rattle.calendar.proofs.Days.{read, real_says, day_of}
use Rattle.calendar.proofs.Stepping.{new_day, new_month, new_year, from_the_start, along}
use Rattle.calendar.proofs.Date.next.Goals as goal

pub last_day-requires : goal.last_day-requires
last_day-requires c = omega (arith, (real_says c.args.self c.requires).its)

pub of-requires : goal.of-requires
of-requires c =
    let r = (real_says c.args.self c.requires).its in
    let l = month_length c.year-year.result c.month-month.result in
    omega arith

pub returns-then-day-last_day : goal.returns-then-day-last_day
returns-then-day-last_day c =
    let v = read c.args.self c.requires c.flag-flag.ensures c.year-year.ensures c.month-month.ensures c.day-day.ensures in
    let r = day_of v c.requires in
    c.of.ensures ∙ sym (along (new_day refl refl refl (omega arith)) v)

pub returns-then-month-lt12 : goal.returns-then-month-lt12
returns-then-month-lt12 c =
    let v = read c.args.self c.requires c.flag-flag.ensures c.year-year.ensures c.month-month.ensures c.day-day.ensures in
    let r = day_of v c.requires in
    c.of-then-month-lt12.ensures ∙ sym (along (new_month refl refl refl (omega arith) (omega arith)) v)

pub returns-then-year : goal.returns-then-year
returns-then-year c =
    let v = read c.args.self c.requires c.flag-flag.ensures c.year-year.ensures c.month-month.ensures c.day-day.ensures in
    let r = day_of v c.requires in
    let k : c.month-month.result ≡ 12 = omega arith in
    let l : c.day-day.result ≡ 31 = last_of_december c.year-year.result k (omega arith) in
    c.of-then-year.ensures ∙ sym (along (new_year refl refl refl l (omega arith) (omega arith)) v)

pub returns : goal.returns
returns c =
    let v = read c.args.self c.requires c.flag-flag.ensures c.year-year.ensures c.month-month.ensures c.day-day.ensures in
    let r = day_of v c.requires in
    let k : c.month-month.result ≡ 12 = omega arith in
    let l : c.day-day.result ≡ 31 = last_of_december c.year-year.result k (omega arith) in
    c.flagged.ensures ∙ sym (along (from_the_start refl refl refl l (omega arith) (omega arith)) v)
