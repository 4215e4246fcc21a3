use Rattle.std.proofs.Common.{◌≡◌, ◌∙◌, ap, refl, List, ℕ}
use Rattle.std.proofs.lemmas.Result.{IfOk-weaker}
use Rattle.uuid.specs.Text.{lower, urn_text}
use Rattle.uuid.specs.Parts.{with_variant, with_version}
use Rattle.uuid.specs.declared.Variant.TheVariants.{RFC4122}
use Rattle.uuid.specs.declared.Version.TheVariants.{Custom}
use Rattle.std.specs.Int.{w64, to_be_bytes}
use Rattle.dav_live.specs.Tokens.{token_bytes, token_digest, token_text}
use Rattle.dav_live.proofs.token.token_text.Goals as goal

pub returns : goal.returns
unfolding token_text
returns c =
    let digest : c.token_digest-r.result ≡ token_digest c.args.random.now c.args.number = rw c.token_digest-r.ensures (rw c.to_be_bytes-n.ensures refl) in
    let bytes : c.urn.result ≡ with_version (with_variant (token_bytes (token_digest c.args.random.now c.args.number) (to_be_bytes w64 c.args.number)) RFC4122) Custom =
    c.urn.ensures ∙ c.new_v8-uuid.ensures.value ∙ rw (digest, c.to_be_bytes-n.ensures) refl in
    IfOk-weaker c.from_str.result _ _ (λ text is. is ∙ c.encode_lower.ensures.text ∙ ap (λ (u : List ℕ). urn_text lower u) bytes) c.from_str.ensures.ok
