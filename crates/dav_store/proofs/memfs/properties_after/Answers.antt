use Rattle.std.proofs.Common.{sym}
use Rattle.dav_store.proofs.PropertyLemmas.{answers_are}
use Rattle.dav_store.proofs.memfs.properties_after.Goals as goal

pub returns : goal.returns
returns c = rw (sym (answers_are c.args.patches.items)) c.patched.ensures
