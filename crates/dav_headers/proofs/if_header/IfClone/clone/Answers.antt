use Rattle.dav_headers.specs.IfView.{list_value}
use Rattle.dav_headers.proofs.IfMeaningLemmas.{maps_alike}
use Rattle.dav_headers.proofs.if_header.IfClone.clone.Goals as goal

pub returns : goal.returns
returns c =
    record { cases = maps_alike list_value c.args.self.now.0.items c.in_ok-clone.field-0.items c.in_ok-clone.ensures.cases.0 }
