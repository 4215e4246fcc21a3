use Rattle.std.proofs.Common.{refl}
use Rattle.std.proofs.lemmas.Result.{err_from_is_err_and}
use Rattle.dav_saved.specs.Worlds.{fields_at, node_of, node_at}
use Rattle.dav_store.specs.Loaded.{IsFitNode}
use Rattle.dav_store.specs.PartsOf.{parts_view}
use Rattle.dav_store.proofs.LoadedReads.{parts_failed, made_of, unfit_made}
use Rattle.dav_store.proofs.node.Node.load.Goals as goal

pub returns-in_err-parts : goal.returns-in_err-parts
unfolding node_at
returns-in_err-parts c =
    let p = err_from_is_err_and c.from_residual.result c.from_residual.ensures.1 in
    rw (p.1, p.2) (parts_failed node_of (fields_at c.args.levels) c.args.bytes.now (IsFitNode c.args.next) c.in_err-parts.field-0.0 c.in_err-parts.ensures)

pub returns-then-not-is_fit : goal.returns-then-not-is_fit
unfolding node_at
returns-then-not-is_fit c =
    unfit_made node_of (fields_at c.args.levels) c.args.bytes.now (IsFitNode c.args.next) (parts_view c.in_ok-parts.parts) c.in_ok-parts.rest.now c.in_ok-parts.ensures (λ h. let clash = c.if-not-is_fit.ensures.1 h in cc)

pub returns : goal.returns
unfolding node_at
returns c = (made_of node_of (fields_at c.args.levels) c.args.bytes.now (parts_view c.in_ok-parts.parts) c.in_ok-parts.rest.now c.in_ok-parts.ensures, c.if-not-is_fit.ensures.0 refl)
