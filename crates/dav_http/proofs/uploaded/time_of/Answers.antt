use Rattle.std.proofs.Common.{◌≡◌, codes, rules}
use Rattle.dav_http.proofs.UploadedLemmas.{told_so_ok}
use Rattle.dav_http.proofs.uploaded.time_of.Goals as goal

pub returns-then-eq : goal.returns-then-eq
returns-then-eq c =
    let named : c.args.head.now.method ≡ codes "PUT" = search rules in
    told_so_ok c.time_in.result (λ none time tells. none time tells.1) (λ time is. (named, is)) c.time_in.ensures
