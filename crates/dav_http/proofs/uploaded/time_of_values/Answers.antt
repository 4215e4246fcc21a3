use Rattle.std.proofs.Common.{arith}
use Rattle.dav_http.proofs.UploadedLemmas.{no_time_past}
use Rattle.dav_http.proofs.uploaded.time_of_values.Goals as goal

pub returns-in_default : goal.returns-in_default
returns-in_default c = λ time told. c.in_default.ensures.reads time told.0

pub returns-else-time-le-LAST_MOMENT : goal.returns-else-time-le-LAST_MOMENT
returns-else-time-le-LAST_MOMENT c =
    λ time told. no_time_past c.args.values.now c.in-Ok.field-0.0 time c.in-Ok.ensures.reads (omega (arith, c.if-time-le-LAST_MOMENT.false, c.in-Ok.time-is)) told
