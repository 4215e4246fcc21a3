use Rattle.std.proofs.Common.{◌≡◌, ◌∙◌, ℕ, List, IsTrue, subst}
use Rattle.dav_core.specs.Target.{IsRefused}
use Rattle.dav_server.proofs.PrefixLemmas.{kept_iff, never, invalid_not_kept, climbing_not_kept}
use Rattle.dav_server.proofs.davhandler.is_kept.Goals as goal

pub returns-in-Ok : goal.returns-in-Ok
returns-in-Ok c = kept_iff c.args.text.now c.as_bytes.result.now c.in-Ok.path c.is_same.result c.in-Ok.ensures.ok.0 c.in-Ok.ensures.ok.1 (c.as_bytes.ensures ∙ c.with_prefix.ensures)
    (subst (λ (l : List ℕ). (IsTrue c.is_same.result → c.as_bytes.result.now ≡ l) × (c.as_bytes.result.now ≡ l → IsTrue c.is_same.result)) c.as_bytes-in-Ok.ensures.value c.is_same.ensures)

pub returns-in-Err-InvalidPath : goal.returns-in-Err-InvalidPath
returns-in-Err-InvalidPath c = never (invalid_not_kept c.args.text.now (subst (IsRefused c.args.text.now) c.in-Err-InvalidPath.field-0-is c.in-Err-InvalidPath.ensures.err))

pub returns-in-Err-ForbiddenPath : goal.returns-in-Err-ForbiddenPath
returns-in-Err-ForbiddenPath c = never (climbing_not_kept c.args.text.now (subst (IsRefused c.args.text.now) c.in-Err-ForbiddenPath.field-0-is c.in-Err-ForbiddenPath.ensures.err))
