-- The date of a moment is a date of the calendar, and has the moment's seconds since 1970.
use Rattle.std.proofs.Common.{◌≡◌, ℕ, zero, suc, ◌+◌, ◌-◌, ◌*◌, ◌/◌, ◌%◌, ◌<◌, ◌≤◌, Bool, true, false, nat_lt, if◌then◌else◌, refl, sym, ap, subst, ◌∙◌, arith}
use Rattle.std.proofs.lemmas.Bool.Decides.{nat_tests}
use Rattle.httpdate.specs.Calendar.{days_in_year, days_in_month, days_of_years, days_of_months, days_from_civil, weekday}
use Rattle.httpdate.specs.Date.{unix_secs, date_text}
use Rattle.httpdate.specs.declared.date.HttpDate.{HttpDate}
use Rattle.httpdate.specs.Valid.{IsValid, parts_secs}
use Rattle.httpdate.proofs.CalendarLemmas.{days_of_years_closed, days_of_months_more, days_of_months_all}
use Rattle.httpdate.proofs.ValidLemmas.{is_valid_complete}
use Rattle.httpdate.proofs.Theorems.{date_text_is}
use Rattle.dav_engine.specs.Date.{year_of, month_of, date_on, date_of, date_text_of, DatesOfMoments}

-- what a search for the year gives: a year of the calendar, and fewer days than it has
record IsYear (y days : ℕ) (r : ℕ × ℕ) : Type 0 where
  low : 1970 ≤ r.0
  high : r.0 ≤ 9999
  within : r.1 < days_in_year r.0
  same : days_of_years (r.0 - 1970) + r.1 ≡ days_of_years (y - 1970) + days

less : (a b : ℕ) → nat_lt a b ≡ true → a < b
less a b h = grind (arith, nat_tests)

not_less : (a b : ℕ) → nat_lt a b ≡ false → b ≤ a
not_less a b h = grind (arith, nat_tests)

one_year_more : (y : ℕ) → 1970 ≤ y → days_of_years (y + 1 - 1970) ≡ days_of_years (y - 1970) + days_in_year y
unfolding days_of_years
one_year_more y h =
    let next : y + 1 - 1970 ≡ suc (y - 1970) = omega arith in
    let back : 1970 + (y - 1970) ≡ y = omega arith in
    ap days_of_years next ∙ ap (λ n. days_of_years (y - 1970) + days_in_year n) back

last_year : (y days : ℕ) → y + 0 ≡ 9999 → days_of_years (y - 1970) + days < 2932897 → IsYear y days (y, days)
last_year y days e h =
    let is : y ≡ 9999 = omega arith in
    let small : days_of_years 8029 + days < 2932897 = subst (λ n. days_of_years (n - 1970) + days < 2932897) is h in
    let closed = days_of_years_closed 8029 in
    let within : days < 365 = omega arith in
    record { low = omega arith; high = omega arith; within = subst (λ n. days < days_in_year n) (sym is) within; same = refl }

year_step : (k y days : ℕ) (b : Bool) → nat_lt days (days_in_year y) ≡ b → 1970 ≤ y → y + suc k ≡ 9999
    → (days_in_year y ≤ days → IsYear (y + 1) (days - days_in_year y) (year_of k (y + 1) (days - days_in_year y)))
    → IsYear y days (if b then (y, days) else year_of k (y + 1) (days - days_in_year y))
year_step k y days true e low count rest =
    record { low = low; high = omega arith; within = less days (days_in_year y) e; same = refl }
year_step k y days false e low count rest =
    let enough = not_less days (days_in_year y) e in
    let r = rest enough in
    record {
      low = r.low;
      high = r.high;
      within = r.within;
      same = r.same ∙ omega (arith, one_year_more y low, enough);
    }

year-found : (k y days : ℕ) → 1970 ≤ y → y + k ≡ 9999 → days_of_years (y - 1970) + days < 2932897 → IsYear y days (year_of k y days)
unfolding year_of
year-found zero y days low count h = last_year y days count h
year-found (suc k) y days low count h =
    year_step k y days (nat_lt days (days_in_year y)) refl low count
    (λ enough. year-found k (y + 1) (days - days_in_year y) (omega arith) (omega arith) (omega (arith, one_year_more y low, enough)))

-- what a search for the month gives: a month, and fewer days than it has
record IsMonth (y m days : ℕ) (r : ℕ × ℕ) : Type 0 where
  low : 1 ≤ r.0
  high : r.0 ≤ 12
  within : r.1 < days_in_month y r.0
  same : days_of_months y (r.0 - 1) + r.1 ≡ days_of_months y (m - 1) + days

next_month : (y m : ℕ) → 1 ≤ m → days_of_months y (m + 1 - 1) ≡ days_of_months y (m - 1) + days_in_month y m
next_month y m h =
    let same : m + 1 - 1 ≡ m = omega arith in
    ap (days_of_months y) same ∙ days_of_months_more y m h

last_month : (y m days : ℕ) → m + 0 ≡ 12 → days_of_months y (m - 1) + days < days_in_year y → IsMonth y m days (m, days)
last_month y m days e h =
    let is : m ≡ 12 = omega arith in
    let small : days_of_months y 11 + days < days_in_year y = subst (λ n. days_of_months y (n - 1) + days < days_in_year y) is h in
    let more = days_of_months_more y 12 (omega arith) in
    let all = days_of_months_all y in
    let within : days < days_in_month y 12 = omega arith in
    record { low = omega arith; high = omega arith; within = subst (λ n. days < days_in_month y n) (sym is) within; same = refl }

month_step : (k y m days : ℕ) (b : Bool) → nat_lt days (days_in_month y m) ≡ b → 1 ≤ m → m + suc k ≡ 12
    → (days_in_month y m ≤ days → IsMonth y (m + 1) (days - days_in_month y m) (month_of k y (m + 1) (days - days_in_month y m)))
    → IsMonth y m days (if b then (m, days) else month_of k y (m + 1) (days - days_in_month y m))
month_step k y m days true e low count rest =
    record { low = low; high = omega arith; within = less days (days_in_month y m) e; same = refl }
month_step k y m days false e low count rest =
    let enough = not_less days (days_in_month y m) e in
    let r = rest enough in
    record {
      low = r.low;
      high = r.high;
      within = r.within;
      same = r.same ∙ omega (arith, next_month y m low, enough);
    }

month-found : (k y m days : ℕ) → 1 ≤ m → m + k ≡ 12 → days_of_months y (m - 1) + days < days_in_year y → IsMonth y m days (month_of k y m days)
unfolding month_of
month-found zero y m days low count h = last_month y m days count h
month-found (suc k) y m days low count h =
    month_step k y m days (nat_lt days (days_in_month y m)) refl low count
    (λ enough. month-found k y (m + 1) (days - days_in_month y m) (omega arith) (omega arith) (omega (arith, next_month y m low, enough)))

no_years : days_of_years 0 ≡ 0
unfolding days_of_years
no_years = refl

no_months : (y : ℕ) → days_of_months y 0 ≡ 0
unfolding days_of_months
no_months y = refl

-- a year, a month and a day that were found, with a time of day, are the date of their seconds
is_date : (moment days clock : ℕ) (year month : ℕ × ℕ) → days * 86400 + clock ≡ moment → clock < 86400
    → IsYear 1970 days year → IsMonth year.0 1 year.1 month
    → IsValid (date_on year month days clock) × (parts_secs (date_on year month days clock) ≡ moment)
is_date moment days clock year month sum small y m =
    let nothing = no_years in
    let none = no_months year.0 in
    let day : days_from_civil year.0 month.0 (month.1 + 1) ≡ days = omega (arith, y.same, m.same) in (
      (((y.low, y.high), (m.low, m.high), (omega arith, omega (arith, m.within))), (omega arith, omega arith, omega arith), ap weekday (sym day)),
      omega (arith, day),
    )

date-is : (moment : ℕ) → moment < 253402300800 → IsValid (date_of moment) × (parts_secs (date_of moment) ≡ moment)
unfolding date_of
date-is moment h =
    let days : moment / 86400 < 2932897 = omega arith in
    let nothing = no_years in
    let year = year-found 8029 1970 (moment / 86400) (omega arith) (omega arith) (omega arith) in
    let none = no_months (year_of 8029 1970 (moment / 86400)).0 in
    let within = year.within in
    let month = month-found 11 (year_of 8029 1970 (moment / 86400)).0 1 (year_of 8029 1970 (moment / 86400)).1 (omega arith) (omega arith) (omega (arith, within)) in
    is_date moment (moment / 86400) (moment % 86400) _ _ (omega arith) (omega arith) year month

pub dates_of_moments : DatesOfMoments
dates_of_moments moment h = date-is moment (omega arith)

-- what is written for a date is the text of its moment
pub date_text-is : (d : HttpDate) (moment : ℕ) → unix_secs d ≡ moment → moment ≤ 253402300799 → date_text d ≡ date_text_of moment
date_text-is d moment same small =
    let is = date-is moment (omega arith) in
    date_text_is d (date_of moment) (is_valid_complete (date_of moment) is.0) (same ∙ sym is.1)
