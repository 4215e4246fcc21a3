use Rattle.std.proofs.Common.{◌∙◌, ap, sym, ◌++◌, string_bytes}
use Rattle.dav_xml.proofs.TextLemmas.{text_joined, text_follows}
use Rattle.dav_xml.proofs.nesting.push_text.Goals as goal

pub returns-in_ok-push-in-Some-Text-clause-ok : goal.returns-in_ok-push-in-Some-Text-clause-ok
returns-in_ok-push-in-Some-Text-clause-ok c =
    text_joined c.args.children.now.items c.pop.new.self.items c.push.new.self.items c.in-Some-Text.field-0 c.in-Some-Text.before c.push_str.new.self c.args.value c.in-Some-Text.ensures.items c.in-Some-Text.field-0-is (c.in_ok-push_str-in-Some-Text.ensures.bytes ∙ ap (λ t. string_bytes c.in-Some-Text.before ++ t) c.deref.ensures) c.in_ok-push-in-Some-Text.ensures.items

pub returns-in_ok-push-in-Some-Element-2-clause-ok : goal.returns-in_ok-push-in-Some-Element-2-clause-ok
returns-in_ok-push-in-Some-Element-2-clause-ok c =
    text_follows c.args.children.now.items c.pop.new.self.items c.push-in-Some-Element.new.self.items c.push-in-Some-Element-2.new.self.items c.in-Some-Element.field-0 c.in-Some-Element.element c.element.inside c.args.value c.in-Some-Element.ensures.items c.in-Some-Element.field-0-is (sym c.element.view_is) c.in_ok-push-in-Some-Element.ensures.items c.in_ok-push-in-Some-Element-2.ensures.items
