-- Dates as the internet writes them (RFC 3339, section 5.6), in the words of jiff.
use Rattle.std.specs.Prelude.{◌≡◌, ◌≤◌, ℕ, ◌*◌, ◌++◌, List, [], ◌∷◌, pos}
use Rattle.jiff.specs.Words.{civil_nanos, iso_datetime_text}
use Rattle.jiff_core.specs.declared.civil.datetime.DateTime.{DateTime}
use Rattle.dav_core.specs.World.{last_moment}
use Rattle.dav_engine.specs.Date.{date_of}
use Rattle.dav_engine.specs.Properties.{internet_date}

-- jiff's calendar has this date and time of day for a moment, which is in seconds since 1970 (RFC 3339, section 5.6)
abbrev pub IsAtMoment : ℕ → DateTime → Type 0
IsAtMoment moment dt = civil_nanos dt ≡ pos (moment * 1_000_000_000)

-- what is written for a moment is its date and time of day as jiff writes them, and a `Z` (RFC 3339, section 5.6)
abbrev pub IsAsJiffWrites : ℕ → List ℕ → Type 0
IsAsJiffWrites moment text = (dt : DateTime) × IsAtMoment moment dt × (text ≡ iso_datetime_text dt ++ 90 ∷ [])

-- each moment up to the end of 9999 is written as its date and time of day, and a `Z` (RFC 3339, section 5.6; RFC 4918, section 15.1)
abbrev pub WritesInternetDates : Type 0
WritesInternetDates = (moment : ℕ) → moment ≤ last_moment → IsAsJiffWrites moment (internet_date (date_of moment))
