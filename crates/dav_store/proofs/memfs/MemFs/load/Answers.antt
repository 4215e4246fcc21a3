use Rattle.std.proofs.Common.{arith, ap, ◌∙◌}
use Rattle.dav_core.specs.World.{IsWorld}
use Rattle.dav_saved.specs.Worlds.{world, world_at}
use Rattle.dav_saved.proofs.WorldLaws.{world_takes, world_again}
use Rattle.dav_store.proofs.LoadedReads.{whole_only, back_only}
use Rattle.dav_store.proofs.memfs.MemFs.load.Goals as goal

pub returns-clause-whole : goal.returns-clause-whole
returns-clause-whole c =
    whole_only IsWorld world (λ x. (x.0.world, x.1.now)) c.read_world.result (world_at c.args.levels c.args.bytes.now) c.args.bytes.now
    (λ y is. (world_takes c.args.levels c.args.bytes.now y (λ i. omega (arith, c.type_inv.bytes i)) is).parts) c.read_world.ensures.exact

pub returns-clause-back : goal.returns-clause-back
returns-clause-back c = λ w rest is fits bytes.
    back_only IsWorld (λ x. (x.0.world, x.1.now)) c.read_world.result (world_at c.args.levels c.args.bytes.now) (w, rest)
    (ap (world_at c.args.levels) bytes ∙ world_again c.args.levels w rest fits) is c.read_world.ensures.exact
