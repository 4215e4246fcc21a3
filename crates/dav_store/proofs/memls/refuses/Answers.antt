use Rattle.std.proofs.Common.{◌∙◌, sym}
use Rattle.dav_core.specs.Path.{names}
use Rattle.dav_store.proofs.IndexCalls.{none_refuses}
use Rattle.dav_store.proofs.memls.refuses.Goals as goal

pub returns-else-may_matter : goal.returns-else-may_matter
returns-else-may_matter c =
    c.if-may_matter.false
    ∙ sym (none_refuses c.args.deep c.args.shared (names c.args.path.now) c.args.locks.now (c.may_matter.ensures c.args.locks.now c.requires c.if-may_matter.false))
