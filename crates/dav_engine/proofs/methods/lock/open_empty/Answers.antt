use Rattle.dav_core.specs.Metadata.{opening_of}
use Rattle.dav_core.specs.Path.{names}
use Rattle.dav_engine.proofs.GrantFollows.{empty_opened, empty_refused}
use Rattle.dav_engine.proofs.methods.lock.open_empty.Goals as goal
use Rattle.dav_engine.proofs.methods.lock.open_empty.Goals.{in-Ok, in-Err}

pub returns-clause-ran : goal.returns-clause-ran
returns-clause-ran g c = elim c.match-open.branch [
  | in-Ok w ↦ rw w.result-is (rw w.ls-is (empty_opened (opening_of c.args.options.now) c.args.token.now (names c.args.path.now) c.args.now _ w.in-Ok.ensures))
  | in-Err w ↦ rw w.result-is (rw w.ls-is (empty_refused (opening_of c.args.options.now) c.args.token.now (names c.args.path.now) c.args.now _ _ w.in-Err.ensures w.empty_error.ensures.is w.take_back.ensures))
]
