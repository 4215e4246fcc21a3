use Rattle.std.proofs.Common.{refl}
use Rattle.dav_kept.proofs.KeptLemmas.{of_some}
use Rattle.dav_live.specs.Serving.{anew, refused}
use Rattle.dav_live.proofs.ServingLemmas.{at_none}
use Rattle.dav_live.proofs.service.Service.take_users.Goals as goal

pub returns-in_ok-notice-in-None : goal.returns-in_ok-notice-in-None
returns-in_ok-notice-in-None g c =
    let heard = at_none _ c.in_ok-hear_users.field-0 c.in-None.is c.in_ok-hear_users.ensures in
    anew heard.0 heard.1 heard.2 heard.3 heard.4 refl refl

pub returns-in_ok-notice-in-Some-2 : goal.returns-in_ok-notice-in-Some-2
returns-in_ok-notice-in-Some-2 g c =
    let heard = of_some _ _ c.in_ok-hear_users.field-0 c.in-Some.fault c.in-Some.is c.in_ok-hear_users.ensures in
    refused c.in-Some.fault heard.0 (heard.1, refl) refl
