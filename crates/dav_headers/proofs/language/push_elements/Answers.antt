use Rattle.std.proofs.Common.{◌≡◌, ◌++◌, ◌∙◌, map, lit<, subst, string_bytes}
use Rattle.std.proofs.lemmas.List.{map_push}
use Rattle.std.proofs.lemmas.Iterator.Splits.{YieldsList-from_str_split}
use Rattle.dav_headers.specs.Elements.{trimmed}
use Rattle.dav_headers.proofs.LanguageLemmas.{more_items}
use Rattle.dav_headers.proofs.LoopLemmas.{end_parts}
use Rattle.dav_headers.proofs.language.push_elements.Goals as goal

pub loop-element-preserved : goal.loop-element-preserved
loop-element-preserved c =
    rw (map_push, map_push)
    (more_items string_bytes c.push.new.self.items c.loop-element.items.items _ _ _ _ c.in_ok-push.ensures.items (c.in_ok-from_str.ensures.ok ∙ c.trimmed.ensures) c.loop-element.invariant)

pub returns : goal.returns
returns c =
    let e = end_parts c.loop-element.yielded _ c.loop-element.yielded_by (YieldsList-from_str_split 44 c.args.text.now (lit< tt) (cc) (cc) (cc)) _ _ c.in-None.is c.next.ensures.steps in
    subst (λ ps. map string_bytes c.loop-element.items.items ≡ map string_bytes c.args.items.now.items ++ map trimmed ps) e c.loop-element.invariant
