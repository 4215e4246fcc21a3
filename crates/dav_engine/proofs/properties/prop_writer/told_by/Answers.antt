use Rattle.std.proofs.Common.{[]}
use Rattle.dav_engine.specs.Properties.{told_by}
use Rattle.dav_engine.proofs.MultistatusLemmas.{child_more}
use Rattle.dav_engine.proofs.properties.prop_writer.told_by.Goals as goal

pub loop-response-preserved : goal.loop-response-preserved
loop-response-preserved c = child_more (told_by c.args.writer.now []) c.loop-response.yielded c.in-Some.response c.loop-response.invariant c.in_ok-push_element.ensures.ok
