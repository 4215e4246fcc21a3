use Rattle.std.proofs.Common.{◌∙◌, subst, sym, All}
use Rattle.std.proofs.lemmas.Bool.{false≢true}
use Rattle.dav_headers.specs.ETag.{EntityTag, tag_text}
use Rattle.dav_headers.specs.ETagList.{tag_list, tag_list_text}
use Rattle.dav_headers.specs.Value.{IsText}
use Rattle.dav_headers.specs.declared.etag_list.ETagList.{ETagList}
use Rattle.dav_headers.proofs.TextLemmas.{joined_is_text, joined_was_text, tags_are_text, tags_were_text, writes_memory}
use Rattle.dav_headers.proofs.etag_list.ETagList.encode.Goals as goal

pub returns-then-not-are_text : goal.returns-then-not-are_text
returns-then-not-are_text c = λ h.
    let other = λ (k : All (λ (t : EntityTag). IsText (tag_text t.weak t.tag)) c.deref.result.now). false≢true (sym c.if-not-are_text.true ∙ c.are_text.ensures.1 k) in
    let P : ETagList → Type 0 = λ l. IsText (tag_list_text (tag_list l)) in
    other (rw c.deref.ensures.value (tags_were_text c.in-Tags.tags.items (joined_was_text _ (subst P c.in-Tags.is h))))

pub returns-in_err-texts-in-Tags : goal.returns-in_err-texts-in-Tags
returns-in_err-texts-in-Tags c =
    let these = c.are_text.ensures.0 c.if-not-are_text.false in
    let all = rw c.deref.ensures.value at these in
    let P : ETagList → Type 0 = λ l. IsText (tag_list_text (tag_list l)) in
    writes_memory _ _ c.from_residual.ensures.1 (subst P (sym c.in-Tags.is) (joined_is_text _ (tags_are_text c.in-Tags.tags.items all)))

pub returns-in_err-text-in-Tags : goal.returns-in_err-text-in-Tags
returns-in_err-text-in-Tags c =
    let these = c.are_text.ensures.0 c.if-not-are_text.false in
    let all = rw c.deref.ensures.value at these in
    let P : ETagList → Type 0 = λ l. IsText (tag_list_text (tag_list l)) in
    writes_memory _ _ c.from_residual-in_err-text-in-Tags.ensures.1 (subst P (sym c.in-Tags.is) (joined_is_text _ (tags_are_text c.in-Tags.tags.items all)))
