use Rattle.std.proofs.Common.{subst}
use Rattle.dav_store.specs.Numbered.{AreClones, in_order}
use Rattle.dav_store.proofs.NumberedLemmas.{cloned_in_order}
use Rattle.dav_store.proofs.tree.numbered.NumberedClone.clone.Goals as goal

pub returns : goal.returns
returns g c =
    record {
      cases = subst (λ es. AreClones g.V.Clone.is_clone es (in_order c.in_ok-clone.field-0.entries)) c.self.view_is
          (cloned_in_order g.V.Clone.is_clone c.self.inside.values.entries c.in_ok-clone.field-0.entries c.in_ok-clone.ensures.cases);
    }
