use Rattle.std.specs.Option.{option_copied}
use Rattle.dav_engine.specs.Follows.{served}
use Rattle.dav_engine.specs.Conditions as spec
use Rattle.dav_engine.specs.ConditionView.{is_if_match_get_tokens}
use Rattle.dav_engine.proofs.conditions.if_match_get_tokens.Goals as goal

pub returns : goal.returns
returns g c =
    let said = c.in_ok-conditions.conditions in
    served (spec.if_match_get_tokens c.args.request.now.method said (option_copied c.args.found)) (is_if_match_get_tokens said c.in_ok-conditions.ensures) c.if_match_get_tokens.ensures
