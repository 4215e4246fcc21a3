use Rattle.std.proofs.Common.{subst, sym, string_bytes, ◌∙◌, rules}
use Rattle.std.proofs.lemmas.Bool.{false≢true}
use Rattle.dav_headers.specs.ETag.{EntityTag, IsUnquoted, tag_text}
use Rattle.dav_headers.specs.Value.{IsText, Writes}
use Rattle.dav_headers.proofs.TextLemmas.{tag_is_text, tag_was_text, writes_tag, writes_memory}
use Rattle.dav_headers.proofs.etag.ETag.encode.Goals as goal

pub returns-then-not-is_text-clause-writes : goal.returns-then-not-is_text-clause-writes
returns-then-not-is_text-clause-writes c = λ h.
    let other = λ (k : IsText c.deref.result.now). false≢true (sym c.if-not-is_text.true ∙ c.is_text.ensures.1 k) in
    let P : EntityTag → Type 0 = λ e. IsText (tag_text e.weak e.tag) in
    other (rw c.deref.ensures (tag_was_text c.self.inside.weak (string_bytes c.self.inside.tag) (subst P (sym c.self.view_is) h)))

pub returns-in_err-text-clause-writes : goal.returns-in_err-text-clause-writes
returns-in_err-text-clause-writes c =
    let is = c.is_text.ensures.0 c.if-not-is_text.false in
    let P : EntityTag → Type 0 = λ e. IsText (tag_text e.weak e.tag) in
    writes_memory _ _ c.from_residual.ensures.1 (subst P c.self.view_is (tag_is_text c.self.inside.weak (string_bytes c.self.inside.tag) (rw c.deref.ensures at is)))

pub returns-clause-again : goal.returns-clause-again
returns-clause-again c =
    let writes : Writes c.written.result (tag_text c.args.self.now.weak c.args.self.now.tag) = search rules in
    let P : EntityTag → Type 0 = λ e. IsUnquoted e.tag in
    writes_tag c.written.result c.args.self.now (subst P c.self.view_is c.self.invariant) writes
