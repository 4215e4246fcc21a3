use Rattle.std.proofs.Common.{◌≡◌, ap, ◌∙◌}
use Rattle.std.proofs.lemmas.Result.{IfOk-at_ok}
use Rattle.http_header.specs.FieldValue.{plain_value}
use Rattle.httpdate.specs.Date.{unix_secs}
use Rattle.httpdate.specs.declared.date.HttpDate.{HttpDate}
use Rattle.dav_engine.proofs.DateLemmas.{date_text-is}
use Rattle.dav_engine.proofs.date.date_value.Goals as goal

pub returns-in-Ok : goal.returns-in-Ok
returns-in-Ok c =
    let same = IfOk-at_ok (λ (d : HttpDate). unix_secs d ≡ c.args.moment) c.unwrap-date.ensures c.from_unix_secs.ensures.value in
    c.in-Ok.ensures.ok ∙ ap plain_value (c.to_bytes.ensures ∙ date_text-is c.unwrap-date.result c.args.moment same c.requires)
