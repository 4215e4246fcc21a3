use Rattle.std.proofs.Common.{ap, sym, ◌∙◌}
use Rattle.dav_core.specs.Property.{Property}
use Rattle.dav_engine.proofs.KeptLemmas.{element_more, element_same}
use Rattle.dav_engine.proofs.properties.stored.elements.Goals.{in-Some-xml+in_ok-push, in_default}
use Rattle.dav_engine.proofs.properties.stored.elements.Goals as goal

pub loop-property-preserved-after-xml : goal.loop-property-preserved-after-xml
loop-property-preserved-after-xml c = elim c.match-xml.branch [
  | in-Some-xml+in_ok-push w ↦ element_more c.loop-property.yielded c.in-Some.property _ (sym (ap (λ (p : Property). p.xml) c.property.view_is) ∙ w.in-Some-xml.is)
      c.loop-property.invariant (ap (λ v. v.items) w.elements-is ∙ w.in_ok-push.ensures.items)
  | in_default w ↦ element_same c.loop-property.yielded c.in-Some.property (sym (ap (λ (p : Property). p.xml) c.property.view_is) ∙ w.in_default.is)
      c.loop-property.invariant (ap (λ v. v.items) w.elements-is)
]

pub loop-property-preserved : goal.loop-property-preserved
loop-property-preserved c = elim c.match-xml.branch [
  | in-Some-xml+in_ok-push w ↦ element_more c.loop-property.yielded c.in-Some.property _ (sym (ap (λ (p : Property). p.xml) c.property.view_is) ∙ w.in-Some-xml.is)
      c.loop-property.invariant (ap (λ v. v.items) w.elements-is ∙ w.in_ok-push.ensures.items)
  | in_default w ↦ element_same c.loop-property.yielded c.in-Some.property (sym (ap (λ (p : Property). p.xml) c.property.view_is) ∙ w.in_default.is)
      c.loop-property.invariant (ap (λ v. v.items) w.elements-is)
]
