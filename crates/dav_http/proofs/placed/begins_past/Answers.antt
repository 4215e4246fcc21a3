use Rattle.std.proofs.Common.{◌≡◌, ◌⊎◌, List, ℕ, codes, refl, subst}
use Rattle.dav_server.specs.Headers.{headers_of}
use Rattle.dav_http.proofs.PlacedLemmas.{by_past, past_by}
use Rattle.dav_http.proofs.placed.begins_past.Goals as goal

pub returns : goal.returns
returns c =
    let r = c.args.head.now in
    let writes : (r.method ≡ codes "PUT") ⊎ (r.method ≡ codes "PATCH") =
    subst (λ (m : List ℕ). (m ≡ codes "PUT") ⊎ (m ≡ codes "PATCH")) c.method.ensures (c.writes.ensures.0 c.if-not-writes.false) in
    let firsts = c.in_ok-firsts.firsts in
    let named = c.in_ok-firsts.ensures in (
      λ yes. past_by r (headers_of r.fields) refl c.args.most firsts.0 firsts.1 named.0 named.1 writes (c.is_either_past.ensures.0 yes),
      λ past. c.is_either_past.ensures.1 (by_past r (headers_of r.fields) refl c.args.most firsts.0 firsts.1 named.0 named.1 past),
    )
