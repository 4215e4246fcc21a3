use Rattle.std.proofs.Common.{sym, subst}
use Rattle.dav_headers.specs.IfWritten.{SaysItem}
use Rattle.dav_headers.specs.IfTexts.{item_view}
use Rattle.dav_headers.specs.IfView.{item_value}
use Rattle.dav_headers.specs.Value.{ReadsAs}
use Rattle.dav_headers.specs.declared.if_header.written.ItemText.{ItemText}
use Rattle.dav_headers.proofs.if_header.meaning.meant_item.Goals as goal

pub returns-in-StateToken : goal.returns-in-StateToken
returns-in-StateToken c =
    let P : ItemText → Type 0 = λ x. ReadsAs item_value SaysItem (item_view x) c.state_token.result in
    subst P (sym c.in-StateToken.is) c.state_token.ensures

pub returns-in-EntityTag : goal.returns-in-EntityTag
returns-in-EntityTag c =
    let P : ItemText → Type 0 = λ x. ReadsAs item_value SaysItem (item_view x) c.entity_tag.result in
    subst P (sym c.in-EntityTag.is) c.entity_tag.ensures
