use Rattle.std.proofs.Common.{◌∙◌, map, string_bytes, false}
use Rattle.std.specs.Option.{option_copied}
use Rattle.dav_core.specs.Locks.{requester_of}
use Rattle.dav_core.specs.Path.{names}
use Rattle.dav_engine.specs.Reach.{reaches_below}
use Rattle.dav_engine.proofs.CheckLemmas.{answered, opened}
use Rattle.dav_engine.proofs.locks.is_open.Goals as goal

pub returns-in-Some : goal.returns-in-Some
returns-in-Some g c =
    let who = requester_of (map string_bytes c.args.tokens.now) false (option_copied c.args.principal) in
    opened g.L.DavLockSystem.locks (reaches_below c.args.reach) who (names c.args.path.now) c.args.ls c.in-Some.ls c.is_ok.result c.in-Some.is
    (c.is_ok.ensures.value ∙ answered (reaches_below c.args.reach) who (names c.args.path.now) (g.L.DavLockSystem.locks c.in-Some.ls.now) c.check.result (rw c.reaches_below.ensures at c.check.ensures))
