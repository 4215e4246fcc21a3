use Rattle.dav_presented.specs.Names.{full_name}
use Rattle.dav_presented.proofs.NameSetLemmas.{added}
use Rattle.dav_presented.proofs.names.set.add_name.Goals as goal

pub returns : goal.returns
returns c = λ e. added c.args.element.now e c.args.names.now c.insert.new.self (rw c.of.ensures at (c.in_ok-insert.ensures.updates.0 (full_name e)))
