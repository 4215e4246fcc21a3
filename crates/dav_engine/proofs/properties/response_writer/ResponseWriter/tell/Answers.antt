use Rattle.std.proofs.Common.{rules}
use Rattle.std.proofs.lemmas.Result.{err_from_is_err_and}
use Rattle.dav_engine.specs.Properties.{properties_of}
use Rattle.dav_engine.specs.ResponseWriter.{ResponseWriter}
use Rattle.dav_engine.proofs.PartLemmas.{gave, stopped}
use Rattle.dav_engine.proofs.TellLemmas.{end_cut_for, stopped_for}
use Rattle.dav_engine.proofs.properties.response_writer.ResponseWriter.tell.Goals as goal

pub returns-in_err-take : goal.returns-in_err-take
returns-in_err-take g c =
    let p = err_from_is_err_and c.from_residual-in_err-take.result c.from_residual-in_err-take.ensures.1 in
    rw p.1 (end_cut_for (λ (w : ResponseWriter g.row.T.Denot). properties_of w.writer c.args.resource.path.now c.args.resource.meta.now w.quota) c.self.view_is (gave c.in_ok-response.ensures))

pub returns-in_err-response : goal.returns-in_err-response
returns-in_err-response g c =
    let p = err_from_is_err_and c.from_residual.result c.from_residual.ensures.1 in
    rw p.1 (stopped_for (λ (w : ResponseWriter g.row.T.Denot). properties_of w.writer c.args.resource.path.now c.args.resource.meta.now w.quota) c.self.view_is (stopped c.in_err-response.ensures))

pub returns : goal.returns
returns g c = search (rules, gave c.in_ok-response.ensures)
