use Rattle.std.proofs.Common.{ap}
use Rattle.http_header.specs.FieldValue.{FieldValue}
use Rattle.dav_http.proofs.PresentedLemmas.{told_applied}
use Rattle.dav_http.proofs.presented.add_applied.Goals as goal

pub returns-clause-fields : goal.returns-clause-fields
returns-clause-fields c =
    told_applied c.add_header.result _ _ _ _ c.args.is_applied c.add_header.ensures.headers c.from_static-name.ensures (ap (λ (v : FieldValue). v.bytes) c.from_static.ensures) c.if-not-is_applied.false
