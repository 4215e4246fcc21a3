use Rattle.std.proofs.Common.{◌≡◌, ◌<◌, Err, None, List, ap, subst, map, drop, length, arith}
use Rattle.std.proofs.lemmas.List.{length-map}
use Rattle.std.proofs.lemmas.Result.{err_from_is_err_and}
use Rattle.dav_headers.specs.IfTokens.{Token}
use Rattle.dav_headers.specs.IfParts.{part_view}
use Rattle.dav_headers.specs.IfWritten.{conditions_at}
use Rattle.dav_headers.specs.IfTexts.{condition_view}
use Rattle.dav_headers.specs.declared.errors.HeaderError.TheVariants.{Invalid}
use Rattle.dav_headers.proofs.IfTokenLemmas.{none_from_test, many_from_test}
use Rattle.dav_headers.proofs.IfListLemmas.{from, same_error, no_conditions, empty_list, found_after, within_slice}
use Rattle.dav_headers.proofs.if_header.written.list_at.Goals as goal

pub returns-in_err-conditions-clause-none : goal.returns-in_err-conditions-clause-none
returns-in_err-conditions-clause-none c = λ e.
    let p = err_from_is_err_and c.from_residual.result c.from_residual.ensures.1 in
    let invalid : c.in_err-conditions.field-0.0 ≡ Invalid = same_error c.from_residual.result p.0 c.in_err-conditions.field-0.0 p.1 p.2 e in
    let front = c.in-Some.ensures.is in
    let P : List Token → Type 0 = λ x. conditions_at x ≡ None in
    let none = subst P (from part_view c.in-Some.opened c.args.parts.now front.1) (c.in_err-conditions.ensures.none (ap Err invalid)) in
    no_conditions _ _ _ front.2 none

pub returns-then-is_empty-clause-none : goal.returns-then-is_empty-clause-none
returns-then-is_empty-clause-none c = λ e.
    let front = c.in-Some.ensures.is in
    let found = c.in_ok-conditions.ensures.found in
    let read = found_after c.args.parts.now c.in-Some.opened c.in_ok-conditions.n _ front.1 found.1 in
    empty_list _ _ _ _ _ front.2 read (ap (map condition_view) (none_from_test c.in_ok-conditions.conditions.items _ _ c.is_empty.ensures c.if-is_empty.true (omega (arith, c.in_ok-conditions.conditions.ok.0))))

pub returns-clause-found : goal.returns-clause-found
returns-clause-found c =
    let front = c.in-Some.ensures.is in
    let found = c.in_ok-conditions.ensures.found in
    let read = found_after c.args.parts.now c.in-Some.opened c.in_ok-conditions.n _ front.1 found.1 in
    let items = c.in_ok-conditions.conditions.items in
    let some = many_from_test items _ _ c.is_empty.ensures c.if-is_empty.false (omega (arith, c.in_ok-conditions.conditions.ok.0)) in
    let many : 0 < length (map condition_view items) = omega (arith, some, length-map items condition_view) in
    (omega (arith, front.0), within_slice c.args.parts.now c.in-Some.opened c.in_ok-conditions.n front.1 found.0, (drop c.in-Some.opened (map part_view c.args.parts.now), front.2, many, read))
