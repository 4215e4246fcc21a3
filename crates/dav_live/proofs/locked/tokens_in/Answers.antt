use Rattle.std.proofs.Common.{◌≡◌, ap, map, string_bytes, subst}
use Rattle.std.proofs.lemmas.Result.{IfOk-weaker}
use Rattle.dav_core.specs.Path.{names}
use Rattle.dav_engine.specs.Conditions.{AreConditions, Conditions, submitted}
use Rattle.dav_server.specs.Head.{Request}
use Rattle.dav_server.specs.Headers.{headers_of}
use Rattle.dav_server.proofs.HeadLemmas.{one_head}
use Rattle.dav_live.proofs.locked.tokens_in.Goals as goal

pub returns-in-Ok : goal.returns-in-Ok
returns-in-Ok c =
    IfOk-weaker c.tokens_by.result _ _
    (λ tokens by. (
      λ r is.
          subst (λ (q : Request). (k : Conditions) × AreConditions (headers_of q.fields) c.args.path.now.prefix (names c.args.path.now) k × (map string_bytes tokens.items ≡ submitted k.lists))
          (one_head c.args.head.now c.in-Ok.view r c.in-Ok.ensures.ok is) by,
      λ none. absurd (none c.in-Ok.view c.in-Ok.ensures.ok),
    ))
    c.tokens_by.ensures

pub returns-in-Err : goal.returns-in-Err
returns-in-Err c = (λ r is. absurd (c.in-Err.ensures.err.1 r is), λ none. ap (map string_bytes) c.new.ensures.items)
