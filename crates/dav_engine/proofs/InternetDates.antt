-- jiff's calendar and that of httpdate, and how both write a date.
use Rattle.std.proofs.Common.{◌≡◌, ℕ, zero, suc, ◌+◌, ◌-◌, ◌*◌, pos, [], ◌∷◌, ◌++◌, refl, ap, sym, ◌∙◌, arith}
use Rattle.jiff_core.specs.declared.civil.date.Date.{Date}
use Rattle.jiff_core.specs.declared.civil.datetime.DateTime.{DateTime}
use Rattle.jiff_core.specs.Calendar as jiff
use Rattle.jiff_core.specs.Date.{epoch_day, IsYmd}
use Rattle.jiff_core.specs.Time.{IsHms}
use Rattle.jiff_core.specs.DateTime.{civil_nanos}
use Rattle.jiff_core.proofs.SignedLemmas.{signed_arith}
use Rattle.jiff_core.proofs.CalendarLemmas.{day_count-epoch, day_count-day_of_year, day_count-next_year, days_from_civil-day_count}
use Rattle.jiff_core.proofs.DateLemmas.{epoch_day_injective}
use Rattle.jiff_core.proofs.DateTimeLemmas.{civil_nanos-parts, civil_nanos_injective, time_nanos_injective}
use Rattle.jiff.specs.Words.{iso_datetime_text}
use Rattle.httpdate.specs.Calendar as http
use Rattle.httpdate.specs.declared.parts.Parts.{Parts}
use Rattle.httpdate.specs.Valid.{IsValid, parts_secs}
use Rattle.dav_engine.specs.Date.{date_of}
use Rattle.dav_engine.specs.InternetDate.{WritesInternetDates}
use Rattle.dav_engine.specs.Properties.{internet_date}
use Rattle.dav_engine.proofs.DateLemmas.{dates_of_moments}

-- 1 January 1970 is day 0
pub first_day : (d : Date) → IsYmd (pos 1970) (pos 1) (pos 1) d → epoch_day d ≡ pos 0
first_day d (year, month, day) =
    let m : d.month ≡ 1 = cc in
    let n : d.day ≡ 1 = cc in
    rw (year, m, n) (omega (arith, signed_arith, days_from_civil-day_count (pos 1970) 1 1, day_count-epoch))

-- its first moment
pub first_moment : (dt : DateTime) → IsYmd (pos 1970) (pos 1) (pos 1) dt.date → IsHms (pos 0) (pos 0) (pos 0) (pos 0) dt.time → civil_nanos dt ≡ pos 0
first_moment dt date (hour, minute, second, subsec) =
    let day = first_day dt.date date in
    let h : dt.time.hour ≡ 0 = cc in
    let m : dt.time.minute ≡ 0 = cc in
    let s : dt.time.second ≡ 0 = cc in
    let n : dt.time.subsec_nanosecond ≡ 0 = cc in
    omega (arith, signed_arith, civil_nanos-parts dt)

-- the years from 1970 on have as many days
year_days : (y : ℕ) → jiff.days_in_year (pos y) ≡ http.days_in_year y
year_days y = refl

months_days : (y n : ℕ) → jiff.days_of_months (pos y) n ≡ http.days_of_months y n
unfolding jiff.days_of_months http.days_of_months
months_days y zero = refl
months_days y (suc n) = ap (λ k. k + http.days_in_month y (suc n)) (months_days y n)

years_days : (n : ℕ) → jiff.day_count (pos (1970 + n)) 1 1 ≡ 4_371_953 + http.days_of_years n
unfolding http.days_of_years
years_days zero = day_count-epoch
years_days (suc n) =
    let next = day_count-next_year (pos (1970 + n)) (pos (1970 + suc n)) (omega (arith, signed_arith)) (ap pos (omega arith)) in
    next ∙ ap (λ k. k + http.days_in_year (1970 + n)) (years_days n) ∙ omega arith

-- so a date has the same number in both
pub same_day : (y m d : ℕ) → http.IsCivilDate y m d → jiff.days_from_civil (pos y) m d ≡ pos (http.days_from_civil y m d)
same_day y m d (year, month, day) =
    let years : jiff.day_count (pos y) 1 1 ≡ 4_371_953 + http.days_of_years (y - 1970) = ap (λ k. jiff.day_count (pos k) 1 1) (omega arith) ∙ years_days (y - 1970) in
    let inside = day_count-day_of_year (pos y) m d day.0 in
    let months = months_days y (m - 1) in
    omega (arith, signed_arith, days_from_civil-day_count (pos y) m d)

-- a valid date of httpdate, as jiff has it
abbrev dated : (p : Parts) → IsValid p → DateTime
dated p valid = record {
  date = record { year = pos p.year; month = p.mon; day = p.day; year_in = omega (arith, signed_arith); month_in = valid.0.1; day_in = valid.0.2 };
  time = record { hour = p.hour; minute = p.min; second = p.sec; subsec_nanosecond = 0; hour_in = valid.1.0; minute_in = valid.1.1; second_in = valid.1.2; subsec_in = omega arith };
}

-- whose nanoseconds are those of its seconds
dated_nanos : (p : Parts) (valid : IsValid p) → civil_nanos (dated p valid) ≡ pos (parts_secs p * 1_000_000_000)
dated_nanos p valid =
    let day = same_day p.year p.mon p.day valid.0 in
    civil_nanos-parts (dated p valid) ∙ rw day (omega (arith, signed_arith))

-- the date and time of day of a moment, as jiff writes them, are the date of httpdate that has its seconds
pub as_jiff_writes : (moment : ℕ) (dt : DateTime) (p : Parts) → civil_nanos dt ≡ pos (moment * 1_000_000_000) → IsValid p → parts_secs p ≡ moment → iso_datetime_text dt ++ 90 ∷ [] ≡ internet_date p
as_jiff_writes moment dt p at valid secs =
    let same = civil_nanos_injective dt (dated p valid) (at ∙ ap (λ k. pos (k * 1_000_000_000)) (sym secs) ∙ sym (dated_nanos p valid)) in
    let date = epoch_day_injective dt.date (dated p valid).date same.0 in
    let time = time_nanos_injective dt.time (dated p valid).time same.1 in
    rw (date.0, date.1, date.2, time.0, time.1, time.2, time.3) refl

-- what is written for a moment is what jiff writes
pub writes_internet_dates : WritesInternetDates
writes_internet_dates moment small =
    let is = dates_of_moments moment small in
    (dated (date_of moment) is.0, dated_nanos (date_of moment) is.0 ∙ ap (λ k. pos (k * 1_000_000_000)) is.1, refl)
