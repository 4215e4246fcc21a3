use Rattle.std.proofs.Common.{ap, refl, sym, ◌∙◌}
use Rattle.http_header.specs.FieldValue.{FieldValue}
use Rattle.dav_http.proofs.PresentedLemmas.{sandboxed}
use Rattle.dav_http.proofs.presented.fields.add_sandbox.Goals as goal

pub returns-then-acts-clause-fields : goal.returns-then-acts-clause-fields
returns-then-acts-clause-fields c =
    sandboxed c.add_header.result _ _ _ _ c.args.kind.now c.add_header.ensures.headers refl (ap (λ (v : FieldValue). v.bytes) c.from_static-sandbox.ensures) (sym c.acts.ensures ∙ c.if-acts.true)
