use Rattle.std.proofs.Common.{◌≡◌, ◌∙◌, ◌++◌, ℕ, ap, codes, decimal, string_bytes}
use Rattle.std.proofs.lemmas.Result.{IfOk-weaker}
use Rattle.serde_json.specs.View.{view}
use Rattle.serde_json.specs.Written.{compact_text, has_float}
use Rattle.dav_engine.specs.Reply.{Reply}
use Rattle.dav_run.specs.Print.{headers_data}
use Rattle.dav_run.proofs.Headers.{no_fraction, rest_of}
use Rattle.dav_run.proofs.print.rest_text.Goals as goal

pub returns : goal.returns
returns c =
    let r = c.args.reply.now in
    let seen : view c.in_ok-headers_value.field-0 ≡ headers_data r.headers = c.in_ok-headers_value.ensures ∙ ap (λ (r : Reply). headers_data r.headers) c.reply.view_is in
    let text : string_bytes c.in_ok-headers.headers ≡ compact_text (headers_data r.headers) = c.in_ok-headers.ensures.text (ap has_float seen ∙ no_fraction r) ∙ ap compact_text seen in
    let status : c.as_u16-status.result ≡ r.status = c.as_u16-status.ensures.value ∙ ap (λ (r : Reply). r.status) c.reply.view_is in
    let same = ap (λ (n : ℕ). codes ",\"headers\":" ++ (string_bytes c.in_ok-headers.headers ++ (codes ",\"status\":" ++ (decimal n ++ codes "}\n")))) status ∙ rest_of r (string_bytes c.in_ok-headers.headers) text in
    IfOk-weaker c.format.result _ _ (λ s is. is ∙ same) c.format.ensures.ok
