use Rattle.std.proofs.Common.{◌≡◌, ◌∷◌, ◌++◌, ◌∙◌, [], List, map, lit<, subst, ap, append_assoc, Err}
use Rattle.std.proofs.lemmas.List.{map_push}
use Rattle.std.proofs.lemmas.Iterator.Splits.{YieldsList-from_str_split}
use Rattle.dav_headers.specs.ETag.{EntityTag, IsEntityTag}
use Rattle.dav_headers.specs.ETagList.{AreTags}
use Rattle.dav_headers.specs.Elements.{trimmed}
use Rattle.dav_headers.specs.Value.{ReadsBy}
use Rattle.dav_headers.specs.declared.errors.HeaderError.{HeaderError}
use Rattle.dav_headers.proofs.LoopLemmas.{end_parts}
use Rattle.dav_headers.proofs.ETagListLemmas.{AreTags-push, AreTags-skip}
use Rattle.dav_headers.proofs.etag_list.push_tags.Goals as goal

-- one more tag at the end of what was added to a list
one_more : (start added before after : List EntityTag) (t : EntityTag) → after ≡ before ++ t ∷ [] → before ≡ start ++ added → after ≡ start ++ (added ++ t ∷ [])
one_more start added before after t e f = e ∙ ap (λ ts. ts ++ t ∷ []) f ∙ append_assoc start added (t ∷ [])

pub loop-element-preserved : goal.loop-element-preserved
loop-element-preserved c =
    let so_far = c.loop-element.invariant in
    let tag = rw c.trimmed.ensures at c.in-Ok.ensures in
    rw (map_push, map_push) (
      so_far.0 ++ c.in-Ok.tag ∷ [],
      one_more _ _ _ _ _ c.in_ok-push.ensures.items so_far.1,
      AreTags-push _ so_far.0 _ c.in-Ok.tag so_far.2 tag,
    )

pub loop-element-preserved-in-Err-Invalid : goal.loop-element-preserved-in-Err-Invalid
loop-element-preserved-in-Err-Invalid c =
    let so_far = c.loop-element.invariant in
    let Reads : HeaderError → Type 0 = λ e. ReadsBy IsEntityTag c.trimmed.result.now (Err e) in
    let none : (t : EntityTag) → ¬ IsEntityTag c.trimmed.result.now t = subst Reads c.in-Err-Invalid.field-0-is c.in-Err-Invalid.ensures in
    let other = rw c.trimmed.ensures at none in
    rw (map_push, map_push) (so_far.0, so_far.1, AreTags-skip _ so_far.0 _ so_far.2 other)

pub returns : goal.returns
returns c =
    let e = end_parts c.loop-element.yielded _ c.loop-element.yielded_by (YieldsList-from_str_split 44 c.args.text.now (lit< tt) (cc) (cc) (cc)) _ _ c.in-None.is c.next.ensures.steps in
    subst (λ ps. (added : List EntityTag) × (c.loop-element.tags.items ≡ c.args.tags.now.items ++ added) × AreTags (map trimmed ps) added) e c.loop-element.invariant
