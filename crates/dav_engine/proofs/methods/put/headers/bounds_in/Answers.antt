use Rattle.std.proofs.Common.{◌≡◌, inl, ap, sym, ◌∙◌, length, rules}
use Rattle.std.proofs.lemmas.List.{nil_from_length}
use Rattle.http_header.specs.HeaderMap.{get_all}
use Rattle.dav_engine.proofs.PutHeaderLemmas.{bounds_told}
use Rattle.dav_engine.proofs.methods.put.headers.bounds_in.Goals as goal

pub returns-then-is_empty : goal.returns-then-is_empty
returns-then-is_empty c =
    let none : length c.in_ok-values.values.items ≡ 0 = search rules in
    inl (sym (ap (get_all c.args.headers.now) c.CONTENT_RANGE.ensures) ∙ sym c.in_ok-values.ensures ∙ nil_from_length _ none)

pub returns-in-Ok : goal.returns-in-Ok
returns-in-Ok c = bounds_told _ c.deref.result.now _ _ (c.deref.ensures.value ∙ c.in_ok-values.ensures ∙ ap (get_all c.args.headers.now) c.CONTENT_RANGE.ensures) c.bounds_of.ensures c.in-Ok.ensures.reads
