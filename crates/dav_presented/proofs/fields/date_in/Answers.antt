use Rattle.dav_presented.proofs.FieldLemmas.{date_said}
use Rattle.dav_presented.proofs.fields.date_in.Goals as goal

pub returns-in-Ok-clause-is : goal.returns-in-Ok-clause-is
returns-in-Ok-clause-is c = date_said c.args.values.now c.in_ok-text.text.now c.as_bytes.result.now c.in-Ok.date c.in_ok-text.ensures c.as_bytes.ensures.value c.in-Ok.ensures.shown c.unix_secs.ensures.value
