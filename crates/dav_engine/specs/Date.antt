-- Dates as HTTP writes them (RFC 9110, section 5.6.7).
use Rattle.std.specs.Prelude.{◌≡◌, ◌≤◌, ℕ, zero, suc, ◌+◌, ◌-◌, ◌/◌, ◌%◌, List, if◌then◌else◌, nat_lt}
use Rattle.httpdate.specs.Calendar.{days_in_year, days_in_month, weekday}
use Rattle.httpdate.specs.Text.{imf_fixdate}
use Rattle.httpdate.specs.Valid.{IsValid, parts_secs}
use Rattle.dav_core.specs.World.{last_moment}
use Rattle.httpdate.specs.declared.parts.Parts.{Parts}

-- The year of the day that is this many days after 1 January of the year y, and how many days of that year come before the
-- day. Years are tried from y on, at most so many more.
unfoldable pub year_of : ℕ → ℕ → ℕ → ℕ × ℕ
year_of zero y days = (y, days)
year_of (suc years) y days = if nat_lt days (days_in_year y) then (y, days) else year_of years (y + 1) (days - days_in_year y)

-- The month of the day that is this many days after the first of the month m of the year y, and how many days of that month
-- come before the day. Months are tried from m on, at most so many more.
unfoldable pub month_of : ℕ → ℕ → ℕ → ℕ → ℕ × ℕ
month_of zero y m days = (m, days)
month_of (suc months) y m days = if nat_lt days (days_in_month y m) then (m, days) else month_of months y (m + 1) (days - days_in_month y m)

-- the date of the day that is this many days after 1 January 1970, given its year, its month, and the seconds since midnight
abbrev pub date_on : ℕ × ℕ → ℕ × ℕ → ℕ → ℕ → Parts
date_on year month days clock = record {
  year = year.0;
  mon = month.0;
  day = month.1 + 1;
  hour = clock / 3600;
  min = clock % 3600 / 60;
  sec = clock % 60;
  wday = weekday days;
}

-- The date of a moment, which is in seconds since 1970. From 1970 on 8029 more years are tried, so up to 9999. That it is
-- the one date of the calendar with so many seconds since 1970 is a law (`DatesOfMoments`) (RFC 9110, section 5.6.7).
unfoldable pub date_of : ℕ → Parts
date_of moment =
    let year = year_of 8029 1970 (moment / 86400) in
    date_on year (month_of 11 year.0 1 year.1) (moment / 86400) (moment % 86400)

-- The date of a moment as HTTP writes it, as in `Thu, 01 Jan 1970 00:00:01 GMT` (RFC 9110, section 5.6.7).
abbrev pub date_text_of : ℕ → List ℕ
date_text_of moment = imf_fixdate (date_of moment)

-- the date of each moment up to the end of 9999 is a date of the calendar, and has the moment's seconds since 1970 (RFC 9110, section 5.6.7)
abbrev pub DatesOfMoments : Type 0
DatesOfMoments = (moment : ℕ) → moment ≤ last_moment → IsValid (date_of moment) × (parts_secs (date_of moment) ≡ moment)
