use Rattle.std.proofs.Common.{rules}
use Rattle.std.proofs.lemmas.Result.{err_from_is_err_and}
use Rattle.dav_engine.specs.Properties.{properties_of}
use Rattle.dav_engine.specs.PropWriter.{PropWriter}
use Rattle.dav_engine.proofs.PartLemmas.{gave, stopped}
use Rattle.dav_engine.proofs.TellLemmas.{end_cut_for, stopped_for}
use Rattle.dav_engine.proofs.properties.prop_writer.PropWriter.write_props.Goals as goal

pub returns-in_err-push-clause-writes : goal.returns-in_err-push-clause-writes
returns-in_err-push-clause-writes g c =
    let p = err_from_is_err_and c.from_residual-in_err-push.result c.from_residual-in_err-push.ensures.1 in
    rw p.1 (end_cut_for (λ (w : PropWriter). properties_of w.writer c.args.path.now c.args.meta.now w.quota) c.self.view_is (gave c.in_ok-response.ensures))

pub returns-in_err-response-clause-writes : goal.returns-in_err-response-clause-writes
returns-in_err-response-clause-writes g c =
    let p = err_from_is_err_and c.from_residual.result c.from_residual.ensures.1 in
    rw p.1 (stopped_for (λ (w : PropWriter). properties_of w.writer c.args.path.now c.args.meta.now w.quota) c.self.view_is (stopped c.in_err-response.ensures))

pub returns-clause-writes : goal.returns-clause-writes
returns-clause-writes g c = search (rules, gave c.in_ok-response.ensures)
