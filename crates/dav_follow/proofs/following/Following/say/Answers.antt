use Rattle.std.proofs.Common.{◌≡◌, ◌∷◌, ◌++◌, ◌∙◌, ℕ, List, [], ap, codes}
use Rattle.std.specs.Prelude.{decimal}
use Rattle.http_server.specs.Response.{fields_of}
use Rattle.dav_follow.specs.Following.{clock_of, seconds_behind}
use Rattle.dav_follow.proofs.following.Following.say.Goals as goal

pub returns-clause-fields : goal.returns-clause-fields
returns-clause-fields g c =
    let name : c.from_static.result ≡ codes "vuldarg-follows" = c.from_static.ensures in
    let bytes : c.in-Ok.value.bytes ≡ decimal (seconds_behind (clock_of c.args.self.now)) =
    ap (λ v. v.bytes) c.in-Ok.ensures.ok ∙ c.as_bytes.ensures.value ∙ c.in_ok-text.ensures.ok ∙ ap decimal c.seconds_behind-behind.ensures in
    c.in_ok-add_header.ensures.headers ∙ (λ i. fields_of c.args.response.now ++ (name i, bytes i) ∷ [])
