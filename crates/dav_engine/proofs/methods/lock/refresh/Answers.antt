use Rattle.std.proofs.Common.{ap}
use Rattle.std.specs.Option.{option_map}
use Rattle.dav_core.specs.Path.{names}
use Rattle.dav_engine.proofs.LockLemmas.{refresh_nowhere, refresh_known, refresh_unknown, refresh_short}
use Rattle.dav_engine.proofs.methods.lock.refresh.Goals as goal

pub returns-in_default-clause-sets : goal.returns-in_default-clause-sets
returns-in_default-clause-sets g c = refresh_nowhere c.args.token.now (names c.args.path.now) c.args.timeout c.args.now (ap (option_map g.L.DavLockSystem.locks) c.in_default.is)

pub returns-in-Ok-clause-sets : goal.returns-in-Ok-clause-sets
returns-in-Ok-clause-sets g c = rw c.in-Some.is (refresh_known c.args.token.now (names c.args.path.now) c.args.timeout c.args.now _ c.in-Ok.ensures.ok.0 c.in-Ok.ensures.ok.1)

pub returns-in-Err-NotThere-clause-sets : goal.returns-in-Err-NotThere-clause-sets
returns-in-Err-NotThere-clause-sets g c = rw c.in-Some.is (refresh_unknown c.args.token.now (names c.args.path.now) c.args.timeout c.args.now c.in-Err-NotThere.field-0 c.in-Err-NotThere.field-0-is c.in-Err-NotThere.ensures.err c.in-Err-NotThere.ensures.same)

pub returns-in-Err-Memory-clause-sets : goal.returns-in-Err-Memory-clause-sets
returns-in-Err-Memory-clause-sets g c = rw c.in-Some.is (refresh_short c.args.token.now (names c.args.path.now) c.args.timeout c.args.now c.in-Err-Memory.ensures.same)
