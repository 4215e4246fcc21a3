use Rattle.std.proofs.Common.{◌≡◌, ◌∙◌, ap, codes, subst}
use Rattle.http_header.specs.HeaderMap.{get_all}
use Rattle.dav_engine.specs.Headers.{Headers}
use Rattle.dav_server.specs.Head.{Request}
use Rattle.dav_server.specs.Headers.{headers_of}
use Rattle.dav_http.specs.Placed.{AreFirsts}
use Rattle.dav_http.proofs.placed.firsts_in.Goals as goal

pub returns : goal.returns
returns c =
    let headers = c.in_ok-headers.headers in
    let same : headers ≡ headers_of c.args.head.now.fields = c.in_ok-headers.ensures ∙ ap (λ (q : Request). headers_of q.fields) c.view.ensures in
    let ranged = c.ranged_from-ranged.ensures (get_all headers (codes "content-range")) c.in_ok-range_in.ensures in
    let updated = c.updated_from-updated.ensures (get_all headers (codes "x-update-range")) c.in_ok-update_in.ensures in
    subst (λ (h : Headers). AreFirsts h (c.ranged_from-ranged.result, c.updated_from-updated.result)) same (ranged, updated)
