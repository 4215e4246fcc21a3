use Rattle.std.proofs.Common.{◌≡◌, ℕ, List, MatchOption, codes, rules, subst}
use Rattle.http_header.specs.FieldValue.{FieldValue}
use Rattle.http_header.specs.HeaderMap.{get_all}
use Rattle.dav_server.specs.Headers.{headers_of}
use Rattle.dav_http.specs.Uploaded.{AreTime}
use Rattle.dav_http.proofs.uploaded.time_in.Goals as goal

pub returns : goal.returns
returns c =
    let same : c.deref.result.now ≡ get_all (headers_of c.args.head.now.fields) (codes "x-oc-mtime") = search rules in
    subst (λ (vs : List FieldValue). MatchOption c.time_of_values.result ((time : ℕ) → ¬ AreTime vs time) (AreTime vs)) same c.time_of_values.ensures
