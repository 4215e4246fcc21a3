use Rattle.std.proofs.Common.{◌≡◌, ◌∙◌, arith}
use Rattle.std.proofs.lemmas.Result.{IfOk-at_ok}
use Rattle.jiff.specs.Words.{civil_nanos}
use Rattle.jiff_core.proofs.SignedLemmas.{signed_arith}
use Rattle.dav_engine.proofs.InternetDates.{first_moment}
use Rattle.dav_engine.proofs.date.datetime_after.Goals as goal

pub unwrap-requires : goal.unwrap-requires
unwrap-requires c =
    let zero = first_moment c.datetime.result c.datetime.ensures.date c.datetime.ensures.time in
    let all = c.from_secs.ensures in
    c.checked_add.ensures.succeeds.1 (omega (arith, signed_arith))

pub returns : goal.returns
returns c =
    let zero = first_moment c.datetime.result c.datetime.ensures.date c.datetime.ensures.time in
    let all = c.from_secs.ensures in
    let value = IfOk-at_ok (λ d. civil_nanos d ≡ _) c.unwrap.ensures c.checked_add.ensures.value in
    value ∙ omega (arith, signed_arith)
