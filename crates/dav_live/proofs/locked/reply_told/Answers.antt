use Rattle.std.proofs.Common.{ap, refl}
use Rattle.std.proofs.lemmas.Result.{IfOk-weaker}
use Rattle.std.specs.Option.{option_copied}
use Rattle.dav_confined.specs.Asked.{IsAsked, IsUnread}
use Rattle.dav_live.specs.Locked.{IsBare423, locked, unread}
use Rattle.dav_live.proofs.LockedLemmas.{at_none, at_some}
use Rattle.dav_live.proofs.locked.reply_told.Goals as goal

pub returns-in-Some-2 : goal.returns-in-Some-2
returns-in-Some-2 c =
    let bare : IsBare423 c.args.reply = c.is_bare_423.ensures.0 c.if-not-is_bare_423.false in
    IfOk-weaker c.told_by.result _ _
    (λ told by.
    locked c.in-Some.ls.now c.in-Some-2.asked bare (ap option_copied c.in-Some.is)
    (λ s x below here. at_some (IsUnread s x) (IsAsked s x) c.in_ok-asked.field-0 c.in-Some-2.asked c.in-Some-2.is (c.in_ok-asked.ensures s x below here)) by)
    c.told_by.ensures

pub returns-in-None : goal.returns-in-None
returns-in-None c = unread (λ s x below here. at_none (IsAsked s x) c.in_ok-asked.field-0 c.in-None.is (c.in_ok-asked.ensures s x below here)) refl
