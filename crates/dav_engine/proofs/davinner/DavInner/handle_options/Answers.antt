use Rattle.std.proofs.Common.{sym, ◌∙◌, refl}
use Rattle.std.proofs.lemmas.Result.{err_from_is_err_and}
use Rattle.std.specs.Option.{option_map}
use Rattle.dav_engine.specs.Follows.{served}
use Rattle.dav_engine.specs.Options.{options}
use Rattle.dav_engine.proofs.OptionsLemmas.{options_short, options_told}
use Rattle.dav_engine.proofs.UnlockLemmas.{lists}
use Rattle.dav_engine.proofs.davinner.DavInner.handle_options.Goals as goal

pub returns-in_err-options_reply-clause-serves : goal.returns-in_err-options_reply-clause-serves
returns-in_err-options_reply-clause-serves g c =
    let p = err_from_is_err_and c.from_residual.result c.from_residual.ensures.1 in
    rw (p.1, p.2) (served (options c.args.self.now.allow c.args.request.now.path) refl
    (options_short c.args.self.now.allow c.args.request.now.path c.metadata.result c.metadata.ensures.asks))

pub returns-clause-serves : goal.returns-clause-serves
returns-clause-serves g c =
    served (options c.args.self.now.allow c.args.request.now.path) refl
    (options_told c.args.self.now.allow c.args.request.now.path c.metadata.result c.metadata.ensures.asks (option_map g.L.DavLockSystem.locks c.args.self.now.ls.now) c.is_some-locks.result _ _
    (lists g.L.DavLockSystem.locks _ _ (sym c.is_some-locks.ensures)) (c.as_ref.ensures.value ∙ c.ok-found.ensures.value) c.in_ok-options_reply.ensures)
