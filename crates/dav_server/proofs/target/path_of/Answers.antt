use Rattle.std.proofs.Common.{inl, inr}
use Rattle.std.proofs.lemmas.Bool.{false≢true}
use Rattle.std.proofs.lemmas.Result.{err_from_is_err_and}
use Rattle.dav_server.specs.Target.{unreadable}
use Rattle.dav_server.proofs.TargetLemmas.{names_cut}
use Rattle.dav_server.proofs.target.path_of.Goals as goal

pub returns-then-is_star-clause-path : goal.returns-then-is_star-clause-path
returns-then-is_star-clause-path c = c.server_path.ensures.path c.args.prefix.now

pub returns-in_err-path-clause-path : goal.returns-in_err-path-clause-path
returns-in_err-path-clause-path c =
    let p = err_from_is_err_and c.from_residual.result c.from_residual.ensures.1 in
    rw (p.1, p.2) (elim c.in_err-path.ensures.path [ inl memory ↦ inl memory | inr e ↦ inr (unreadable (λ is. false≢true (c.if-is_star.ensures.1 is)) e) ])

pub returns-clause-path : goal.returns-clause-path
returns-clause-path c =
    names_cut c.args.prefix.now c.args.method c.args.target.now c.in_ok-path.path c.cut.result c.in_ok-path.ensures.path c.cut.ensures
