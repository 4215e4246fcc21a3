use Rattle.std.proofs.Common.{◌<◌, ◌^◌, subst, sym, rules}
use Rattle.std.specs.List.{AllByRecursion}
use Rattle.dav_saved.specs.Worlds.{AreWithin, IsSaveableWorld}
use Rattle.dav_store.specs.Store.{Store}
use Rattle.dav_store.proofs.memfs.MemFs.save.Goals as goal

pub returns-clause-saveable : goal.returns-clause-saveable
returns-clause-saveable c = λ levels within.
    let next : c.self.inside.next < 2 ^ 64 = search rules in
    let here = subst (λ (s : Store). AllByRecursion (λ e. AreWithin levels e.1.properties) s.world.nodes) (sym c.self.view_is) within in
    subst (λ (s : Store). IsSaveableWorld levels s.world) c.self.view_is (next, c.in_ok-put_entries.ensures.saveable levels here)
