use Rattle.std.proofs.Common.{ℕ, OnOk, subst, ◌∙◌}
use Rattle.dav_core.specs.Property.{Properties}
use Rattle.dav_saved.specs.Worlds.{AreSaveableProperties, AreWithin}
use Rattle.dav_store.proofs.properties.Properties.save.Goals as goal

pub returns-clause-saveable : goal.returns-clause-saveable
returns-clause-saveable c =
    subst (λ (ps : Properties). OnOk c.put_entries.result ((levels : ℕ) → AreWithin levels ps → AreSaveableProperties levels ps)) (c.deref.ensures.value ∙ c.self.view_is) c.put_entries.ensures.saveable
