use Rattle.std.proofs.Common.{◌≡◌, refl, rules}
use Rattle.std.specs.Prelude.{IsUtf8}
use Rattle.dav_headers.specs.ETag.{IsEntityTag}
use Rattle.dav_headers.specs.If.{entity_tag}
use Rattle.dav_headers.specs.IfView.{item_value}
use Rattle.dav_headers.specs.IfWritten.{written_tag, SaysItem}
use Rattle.dav_headers.proofs.ReadingLemmas.{passed_on}
use Rattle.dav_headers.proofs.if_header.meaning.entity_tag.Goals as goal

pub returns-in_err-from_str : goal.returns-in_err-from_str
returns-in_err-from_str c =
    let utf8 : IsUtf8 c.args.bytes.now = search rules in
    let same : c.in-Ok.text.now ≡ c.args.bytes.now = search rules in
    passed_on (λ x. x) item_value IsEntityTag SaysItem c.in-Ok.text.now (written_tag c.args.bytes.now) c.in_err-from_str.field-0.0 c.from_residual.result c.from_residual.ensures.1
    (λ (e, is). (entity_tag e, (e, utf8, rw same at is, refl)))
    (λ (i, (e, _, is, _)). (e, rw same is))
    c.in_err-from_str.ensures
