use Rattle.std.proofs.Common.{◌≡◌, ◌∙◌, ◌∷◌, [], ◌==◌, true, false, None, ap, map, sym, string_bytes, codes}
use Rattle.std.specs.List.{starts_with}
use Rattle.dav_core.specs.Locks.{requester_of, is_free}
use Rattle.dav_core.specs.Path.{names}
use Rattle.dav_engine.proofs.CheckLemmas.{answered}
use Rattle.dav_engine.proofs.ConditionLemmas.{token_free}
use Rattle.dav_engine.proofs.conditions.token_holds.Goals as goal

pub returns : goal.returns
returns g c =
    let locks = g.L.DavLockSystem.locks c.in-Some.ls.now in
    let who = requester_of (map string_bytes c.from_ref.result.now) true None in
    let token = string_bytes c.args.token.now in
    let p = names c.args.path.now in
    let asks : is_free who p locks ≡ is_free (requester_of (token ∷ []) true None) p locks =
    ap (λ ts. is_free (requester_of (map string_bytes ts) true None) p locks) c.from_ref.ensures.value in
    let other : starts_with ◌==◌ token (codes "DAV:") ≡ false = sym (c.if-starts_with.ensures.value ∙ ap (λ t. starts_with ◌==◌ t (codes "DAV:")) c.as_bytes.ensures.value) in
    token_free g.L.DavLockSystem.locks c.args.ls c.in-Some.ls token p c.is_ok.result c.in-Some.is other
    (c.is_ok.ensures.value ∙ answered false who p locks c.check.result c.check.ensures ∙ asks)
