-- The clock of a live server. Its front reports two: the seconds of one that goes on steadily and is never set, and the date, in seconds
-- since 1970. A lock lasts so many seconds (RFC 4918, sections 6.6 and 10.7), so moments go on by the first; and they are dates (RFC 9110,
-- sections 6.6.1 and 8.8.2), so they are drawn to the second.
use Rattle.std.specs.Prelude.{ℕ, ◌+◌, ◌-◌, ◌*◌, ◌/◌, ◌≤◌, Option, Some, None, max, min}

-- how many minutes of the steady clock ended between these seconds and those
abbrev pub minutes_between : ℕ → ℕ → ℕ
minutes_between before seconds = seconds / 60 - before / 60

-- The moment after a report of these seconds and this date. It goes on by the seconds since the report before, and in each minute of them
-- that ended it is drawn by a second at most towards the date. With the first report it begins: at the date, or, where the state has a
-- later moment, there.
abbrev pub moment_after : ℕ → Option ℕ → ℕ → ℕ → ℕ
moment_after moment None seconds date = max moment date
moment_after moment (Some before) seconds date =
    max (moment + (seconds - before) - minutes_between before seconds) (min (moment + (seconds - before) + minutes_between before seconds) date)

-- A clock never goes back, and doesn't jump where the date does: to the seconds that passed it adds at most one for each minute that ended,
-- whatever the date is.
abbrev pub ClocksDontJump : Type 0
ClocksDontJump =
    (moment before seconds date : ℕ)
    → (moment ≤ moment_after moment (Some before) seconds date)
    × (moment_after moment (Some before) seconds date ≤ moment + (seconds - before) + minutes_between before seconds)
    × (60 * minutes_between before seconds ≤ seconds - before + 59)
