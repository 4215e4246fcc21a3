use Rattle.dav_engine.proofs.StatusLemmas.{no_phrase}
use Rattle.dav_engine.proofs.reply.multistatus.phrase_of.Goals as goal

pub returns-in-Err : goal.returns-in-Err
returns-in-Err c = no_phrase c.args.status c.in-Err.ensures
