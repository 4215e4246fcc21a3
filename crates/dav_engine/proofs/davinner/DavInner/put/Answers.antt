use Rattle.std.proofs.Common.{sym}
use Rattle.std.proofs.lemmas.Result.{err_from_is_err_and}
use Rattle.dav_core.specs.Metadata.{opening_of}
use Rattle.dav_core.specs.Path.{names}
use Rattle.dav_engine.specs.OnHandler.{caller_in}
use Rattle.dav_engine.specs.Put.{store}
use Rattle.dav_engine.proofs.PutLemmas.{put_ends, put_wants, put_stores}
use Rattle.dav_engine.proofs.ModelLemmas.{follows_for, follows_to}
use Rattle.dav_engine.proofs.davinner.DavInner.put.Goals as goal

pub returns-in_err-writing-clause-plan : goal.returns-in_err-writing-clause-plan
returns-in_err-writing-clause-plan g c =
    let p = err_from_is_err_and c.from_residual.result c.from_residual.ensures.1 in
    let kept = c.in_err-writing.ensures.lent.locks in
    rw (p.1, p.2) (follows_to (sym kept) (put_ends c.args.request.now.method c.args.headers.now (names c.args.request.now.path) (caller_in c.args.self.now) c.args.bytes.now _ (follows_to kept c.in_err-writing.ensures.plan)))

pub returns-in_err-options-clause-plan : goal.returns-in_err-options-clause-plan
returns-in_err-options-clause-plan g c =
    let p = err_from_is_err_and c.from_residual-in_err-options.result c.from_residual-in_err-options.ensures.1 in
    let kept = c.in_ok-writing.ensures.lent.locks in
    rw (p.1, p.2) (follows_to (sym kept) (put_wants c.args.request.now.method c.args.headers.now (names c.args.request.now.path) (caller_in c.args.self.now) c.args.bytes.now _ (follows_to kept c.in_ok-writing.ensures.plan)))

pub returns-clause-plan : goal.returns-clause-plan
returns-clause-plan g c =
    let lent = c.in_ok-writing.ensures.lent in
    let stores = follows_for (λ now. store (opening_of c.in_ok-options.options) c.in_ok-writing.writing.from (names c.args.request.now.path) c.args.bytes.now now c.in_ok-writing.found) lent.moment (c.store.ensures _) in
    follows_to (sym lent.locks)
    (put_stores c.args.request.now.method c.args.headers.now (names c.args.request.now.path) (caller_in c.args.self.now) c.args.bytes.now (c.in_ok-writing.writing, c.in_ok-writing.found) _
    (follows_to lent.locks c.in_ok-writing.ensures.plan) c.in_ok-options.ensures stores)
