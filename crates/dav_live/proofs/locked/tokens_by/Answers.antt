use Rattle.std.proofs.Common.{subst}
use Rattle.std.proofs.lemmas.Result.{IfOk-weaker}
use Rattle.dav_core.specs.Path.{names}
use Rattle.dav_engine.specs.Conditions.{AreConditions}
use Rattle.dav_engine.specs.Headers.{Headers}
use Rattle.dav_live.proofs.locked.tokens_by.Goals as goal

pub returns : goal.returns
returns c =
    IfOk-weaker c.tokens.result _ _
    (λ tokens is. (
      c.in_ok-conditions.conditions,
      subst (λ (headers : Headers). AreConditions headers c.args.path.now.prefix (names c.args.path.now) c.in_ok-conditions.conditions) c.in_ok-headers_of.ensures c.in_ok-conditions.ensures,
      is,
    ))
    c.tokens.ensures
