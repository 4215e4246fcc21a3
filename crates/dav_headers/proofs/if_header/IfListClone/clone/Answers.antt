use Rattle.dav_headers.specs.IfView.{condition_value}
use Rattle.dav_headers.proofs.IfMeaningLemmas.{copied_option, maps_alike}
use Rattle.dav_headers.proofs.if_header.IfListClone.clone.Goals as goal

pub returns : goal.returns
returns c =
    let resource = copied_option c.args.self.now.resource_tag c.in_ok-clone.field-0 c.in_ok-clone.ensures.cases in
    let conditions = maps_alike condition_value c.args.self.now.conditions.items c.in_ok-clone-2.field-0.items c.in_ok-clone-2.ensures.cases.0 in
    record { cases = cc (resource, conditions) }
