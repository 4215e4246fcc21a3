use Rattle.std.proofs.Common.{ap, subst, ◌∙◌, arith}
use Rattle.dav_saved.specs.Reading.{Gives}
use Rattle.dav_saved.specs.Trees.{element_from}
use Rattle.dav_saved.proofs.ReadSteps.{element_again, element_whole}
use Rattle.dav_saved.proofs.trees.element_of.Goals as goal

pub returns-clause-whole : goal.returns-clause-whole
returns-clause-whole c = element_whole c.args.levels c.args.bytes.now c.element_exact.result (λ i. omega (arith, c.type_inv.bytes i)) c.element_exact.ensures

pub returns-clause-back : goal.returns-clause-back
returns-clause-back c = λ t rest is le fits e. subst (λ f. Gives (λ x. (x.0, x.1.now)) c.element_exact.result f) (ap (element_from c.args.levels) e ∙ element_again t c.args.levels rest is le fits) c.element_exact.ensures
