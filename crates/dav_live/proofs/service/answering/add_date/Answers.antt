use Rattle.std.proofs.Common.{◌∙◌, ◌∷◌, ◌++◌, [], List, ℕ, ap, codes}
use Rattle.http_header.specs.FieldValue.{FieldValue}
use Rattle.http_server.specs.Response.{fields_of}
use Rattle.dav_live.proofs.service.answering.add_date.Goals as goal

pub returns-in_ok-add_header-in-Ok-from_bytes : goal.returns-in_ok-add_header-in-Ok-from_bytes
returns-in_ok-add_header-in-Ok-from_bytes c = record {
  date = c.in-Ok.date;
  is_date = c.in-Ok.ensures.value;
  fields = c.in_ok-add_header-in-Ok-from_bytes.ensures.headers
      ∙ ap (λ (v : List ℕ). fields_of c.args.response.now ++ (codes "date", v) ∷ []) (ap (λ (v : FieldValue). v.bytes) c.in-Ok-from_bytes.ensures.ok ∙ c.to_bytes.ensures);
  status = c.add_header.ensures.status;
  body = c.add_header.ensures.body;
}
