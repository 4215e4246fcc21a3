use Rattle.dav_engine.proofs.InternetDates.{writes_internet_dates}
use Rattle.dav_engine.proofs.laws.dates_are_as_jiff_writes_them.Goals as goal

pub returns : goal.returns
returns c = writes_internet_dates
