use Rattle.std.proofs.Common.{rules}
use Rattle.dav_wire.specs.Place.{place}
use Rattle.dav_wire.proofs.Runs.{fresh}
use Rattle.dav_wire.proofs.line.Line.new.Goals as goal

pub returns-clause-holds : goal.returns-clause-holds
returns-clause-holds c = fresh (place c.new.result) _ c.new.ensures.standing (search rules)
