use Rattle.std.proofs.Common.{◌∙◌}
use Rattle.dav_engine.specs.Date.{date_of}
use Rattle.dav_engine.proofs.DateLemmas.{dates_of_moments}
use Rattle.dav_engine.proofs.InternetDates.{as_jiff_writes}
use Rattle.dav_engine.proofs.OptionsLemmas.{if_ok}
use Rattle.dav_engine.proofs.date.internet_date.Goals as goal

pub returns : goal.returns
returns c =
    let is = dates_of_moments c.args.moment c.requires in
    if_ok c.format.result
    (λ t e. e ∙ as_jiff_writes c.args.moment c.datetime_of-date.result (date_of c.args.moment) c.datetime_of-date.ensures is.0 is.1)
    c.format.ensures.ok
