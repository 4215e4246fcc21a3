use Rattle.std.proofs.Common.{◌++◌, ◌∷◌, [], List, ℕ, ap, codes, ◌∙◌}
use Rattle.http_header.specs.FieldValue.{FieldValue}
use Rattle.http_server.specs.Response.{fields_of}
use Rattle.dav_live.proofs.MachineLemmas.{where_ok}
use Rattle.dav_live.proofs.words.fill_text.Goals as goal

pub returns-clause-fields : goal.returns-clause-fields
returns-clause-fields c =
    where_ok _ _ c.add_header.result
    (λ is. is ∙ ap (λ (v : List ℕ). fields_of c.args.response.now ++ (codes "content-type", v) ∷ []) (ap (λ (v : FieldValue). v.bytes) c.from_static-kind.ensures))
    c.add_header.ensures.headers
