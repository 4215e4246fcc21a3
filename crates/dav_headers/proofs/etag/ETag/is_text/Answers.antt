use Rattle.std.proofs.Common.{subst, string_bytes}
use Rattle.std.specs.Prelude.{IsTrue, ◌↔◌}
use Rattle.dav_headers.specs.ETag.{EntityTag, tag_text}
use Rattle.dav_headers.specs.Value.{IsText}
use Rattle.dav_headers.proofs.TextLemmas.{tag_is_text, tag_was_text}
use Rattle.dav_headers.proofs.etag.ETag.is_text.Goals as goal

pub returns : goal.returns
returns c =
    let tag = string_bytes c.self.inside.tag in
    let shown = rw c.deref.ensures at c.is_text.ensures in
    let P : EntityTag → Type 0 = λ e. IsTrue c.is_text.result ↔ IsText (tag_text e.weak e.tag) in
    subst P c.self.view_is (λ t. tag_is_text c.self.inside.weak tag (shown.0 t), λ h. shown.1 (tag_was_text c.self.inside.weak tag h))
