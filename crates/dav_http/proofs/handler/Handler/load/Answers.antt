use Rattle.std.proofs.Common.{sym, subst}
use Rattle.dav_store.specs.Store.{state_of}
use Rattle.dav_http.specs.SentLaws.{IsSendableServer}
use Rattle.dav_http.proofs.SavedCalls.{sendable_loaded}
use Rattle.dav_http.proofs.handler.Handler.load.Goals as goal

pub invariant_of-self : goal.invariant_of-self
invariant_of-self c =
    subst IsSendableServer (sym c.restore.ensures.state) (sendable_loaded (state_of c.in_ok-fs.fs) c.in_ok-fs.ls c.in_ok-fs.ensures.is_world c.in_ok-fs.ensures.keepable)
