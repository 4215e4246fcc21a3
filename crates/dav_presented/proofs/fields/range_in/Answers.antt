use Rattle.dav_presented.proofs.FieldLemmas.{said, unsaid}
use Rattle.dav_presented.proofs.fields.range_in.Goals as goal

pub returns-in-Ok-clause-is : goal.returns-in-Ok-clause-is
returns-in-Ok-clause-is c = said c.args.values.now c.in-Ok.range c.spec_of.result c.in-Ok.ensures.reads c.spec_of.ensures.is

pub returns-in-Err-clause-is : goal.returns-in-Err-clause-is
returns-in-Err-clause-is c = unsaid c.args.values.now c.in-Err.ensures.reads
