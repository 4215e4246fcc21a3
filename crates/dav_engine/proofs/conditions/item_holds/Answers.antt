use Rattle.dav_headers.specs.IfView.{item_value}
use Rattle.dav_engine.specs.ConditionView.{locks_in}
use Rattle.dav_engine.proofs.ConditionLemmas.{item_of_none, item_of_token, item_of_tag}
use Rattle.dav_engine.proofs.conditions.item_holds.Goals as goal

pub returns-in_default : goal.returns-in_default
returns-in_default g c = item_of_none c.args.path.now (item_value c.args.item.now) c.in_default.is

pub returns-in-StateToken : goal.returns-in-StateToken
returns-in-StateToken g c = item_of_token c.args.path.now c.in-Some.path c.args.item.now c.in-StateToken.token c.token_holds.result c.in-Some.is c.in-StateToken.is c.token_holds.ensures

pub returns-in-ETag : goal.returns-in-ETag
returns-in-ETag g c = item_of_tag c.args.path.now c.in-Some.path c.args.item.now c.in-ETag.tag c.in-Some.is c.in-ETag.is (c.tag_holds.ensures (locks_in g.L.DavLockSystem.locks c.args.ls))
