use Rattle.std.proofs.Common.{◌∙◌, Some, ap, sym}
use Rattle.dav_core.specs.Path.{names}
use Rattle.dav_store.proofs.NamedLemmas.{unlocked_at}
use Rattle.dav_store.proofs.memls.unlock_in.Goals as goal

pub returns-in-Some-clause-ok : goal.returns-in-Some-clause-ok
returns-in-Some-clause-ok c =
    unlocked_at c.args.token.now (names c.args.path.now) c.args.locks.now.items c.deref.result.now c.in-Some.i c.deref.ensures.value c.in-Some.ensures
    ∙ ap Some (sym c.remove.ensures.items)
