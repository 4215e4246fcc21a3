use Rattle.std.proofs.Common.{List, ap, false, map, refl, string_bytes, subst, ◌∙◌}
use Rattle.std.proofs.lemmas.Result.{IfOk-weaker}
use Rattle.std.specs.Option.{option_copied}
use Rattle.dav_core.specs.Element.{ElementTree}
use Rattle.dav_core.specs.Locks.{requester_of}
use Rattle.dav_confined.specs.Asked.{AskedView}
use Rattle.dav_engine.specs.Reply.{Reply}
use Rattle.dav_live.specs.Locked.{IsInWay, IsNoneInWay, IsWithTree, locked_error, named, unnamed}
use Rattle.dav_live.specs.declared.locked.Place.{Place}
use Rattle.dav_live.proofs.locked.told_by.Goals as goal

pub returns-in-Some : goal.returns-in-Some
returns-in-Some c =
    let lock = c.in-Some.lock.now in
    let ls = c.args.ls.now in
    let tokens = map string_bytes c.in_ok-tokens.tokens.items in
    let places : List Place = c.in_ok-places.places.items in
    let met : IsInWay (requester_of tokens false (option_copied c.args.principal)) ls places lock =
    subst (λ (ps : List Place). IsInWay (requester_of tokens false (option_copied c.args.principal)) ls ps lock) c.deref-2.ensures.value
    (subst (λ items. IsInWay (requester_of (map string_bytes items) false (option_copied c.args.principal)) ls c.deref-2.result.now lock) c.deref.ensures.value c.in-Some.ensures) in
    IfOk-weaker c.with_tree.result _ _
    (λ told tree.
    named tokens places lock c.in_ok-tokens.ensures c.in_ok-places.ensures met (
    subst (λ (t : ElementTree). IsWithTree c.args.reply t told) (c.in_ok-locked_error-in-Some.ensures ∙ ap (λ (a : AskedView). locked_error a.method lock) c.asked.view_is)
    (subst (λ (r : Reply). IsWithTree r c.in_ok-locked_error-in-Some.field-0 told) c.reply.view_is tree)
    ))
    c.with_tree.ensures

pub returns : goal.returns
returns c =
    let ls = c.args.ls.now in
    let tokens = map string_bytes c.in_ok-tokens.tokens.items in
    let places : List Place = c.in_ok-places.places.items in
    let none : IsNoneInWay (requester_of tokens false (option_copied c.args.principal)) ls places =
    subst (λ (ps : List Place). IsNoneInWay (requester_of tokens false (option_copied c.args.principal)) ls ps) c.deref-2.ensures.value
    (subst (λ items. IsNoneInWay (requester_of (map string_bytes items) false (option_copied c.args.principal)) ls c.deref-2.result.now) c.deref.ensures.value c.in-None.ensures) in
    unnamed tokens places c.in_ok-tokens.ensures c.in_ok-places.ensures none refl
