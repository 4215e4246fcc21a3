use Rattle.std.proofs.Common.{◌≡◌, ◌∙◌}
use Rattle.std.proofs.lemmas.Result.{IfOk-at_ok, IfOk-weaker}
use Rattle.httpdate.specs.Date.{unix_secs}
use Rattle.httpdate.specs.declared.date.HttpDate.{HttpDate}
use Rattle.dav_engine.proofs.DateLemmas.{date_text-is}
use Rattle.dav_presented.proofs.times.date_text.Goals as goal

pub returns : goal.returns
returns c =
    let same = IfOk-at_ok (λ (d : HttpDate). unix_secs d ≡ c.args.moment) c.unwrap-date.ensures c.from_unix_secs.ensures.value in
    IfOk-weaker c.fmt_http_date.result _ _ (λ text is. is ∙ date_text-is c.unwrap-date.result c.args.moment same c.requires) c.fmt_http_date.ensures
