use Rattle.std.proofs.Common.{ap, refl}
use Rattle.dav_core.specs.Path.{names}
use Rattle.dav_core.specs.World.{node_at}
use Rattle.dav_store.specs.declared.memfs.used.Amount.{Amount}
use Rattle.dav_limits.proofs.added.added_empty.Goals as goal

pub returns : goal.returns
returns c =
    c.added_file.ensures (node_at c.args.handler.now.server.state.store.world (names c.args.path.now)) 0 (ap (λ (a : Amount). a.files) c.amount_alone-files.ensures) c.file_len.ensures refl
