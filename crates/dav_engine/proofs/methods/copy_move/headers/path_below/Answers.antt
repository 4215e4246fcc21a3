use Rattle.std.proofs.lemmas.Result.{err_from_is_err_and}
use Rattle.dav_engine.proofs.CopyHeaderLemmas.{below_named, below_refused}
use Rattle.dav_engine.proofs.methods.copy_move.headers.path_below.Goals as goal

pub returns-in_err-set_prefix-clause-err : goal.returns-in_err-set_prefix-clause-err
returns-in_err-set_prefix-clause-err c =
    let p = err_from_is_err_and c.from_residual-in_err-set_prefix.result c.from_residual-in_err-set_prefix.ensures.1 in
    rw (p.1, p.2) (below_refused c.args.prefix.now c.args.text.now c.in_ok-path.path _ c.in_ok-path.ensures.ok.0 c.in_ok-path.ensures.ok.1 c.in_err-set_prefix.ensures.err)

pub returns-clause-ok : goal.returns-clause-ok
returns-clause-ok c = below_named c.args.prefix.now c.args.text.now c.in_ok-path.path c.set_prefix.new.self c.in_ok-path.ensures.ok.0 c.in_ok-path.ensures.ok.1 c.in_ok-set_prefix.ensures.ok
