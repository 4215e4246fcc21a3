use Rattle.dav_core.specs.Path.{names}
use Rattle.dav_engine.specs.Follows.{served}
use Rattle.dav_server.specs.Get.{get, is_get}
use Rattle.dav_server.proofs.handle_gethead.handle_gethead.Goals as goal

pub returns : goal.returns
returns g c =
    served (get c.args.request.now.method c.in_ok-conditions.conditions (names c.args.request.now.path) c.args.now) (is_get _ c.in_ok-conditions.ensures) c.get.ensures
