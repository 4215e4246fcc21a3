use Rattle.std.proofs.Common.{ℕ, List, OnOk, subst, ◌∙◌}
use Rattle.std.specs.List.{AllByRecursion}
use Rattle.dav_core.specs.Locks.{Lock}
use Rattle.dav_saved.specs.Parts.{IsWithin}
use Rattle.dav_saved.specs.Locks.{AreSaveableLocks}
use Rattle.dav_store.proofs.memls.MemLs.save.Goals as goal

pub returns-clause-saveable : goal.returns-clause-saveable
returns-clause-saveable c =
    subst (λ (ls : List Lock). OnOk c.put_locks.result ((levels : ℕ) → AllByRecursion {X = Lock} (λ l. IsWithin levels l.owner) ls → AreSaveableLocks levels ls)) (c.deref.ensures.value ∙ c.self.view_is)
    c.put_locks.ensures.saveable
