use Rattle.std.proofs.Common.{length, option_map, string_bytes}
use Rattle.std.proofs.lemmas.Result.{IfOk-weaker}
use Rattle.dav_presented.specs.Verdict.{verdict_of}
use Rattle.dav_http.proofs.PresentedLemmas.{valid_sent}
use Rattle.dav_http.proofs.presented.asked.answer_of.Goals as goal

pub returns-clause-valid : goal.returns-clause-valid
returns-clause-valid c =
    IfOk-weaker c.answer_to.result _ _
    (λ sent is. valid_sent (verdict_of is.0 c.args.modified (length c.args.body)) c.args.body sent.status (option_map string_bytes sent.content_range) sent.body is.2) c.answer_to.ensures
