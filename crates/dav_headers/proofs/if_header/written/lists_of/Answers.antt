use Rattle.std.proofs.Common.{◌≡◌, ◌++◌, ◌∷◌, [], Err, List, arith, ap, ◌∙◌, subst, map, drop, length, length-drop}
use Rattle.std.proofs.lemmas.List.{map_push, drop-drop, drop_all, length-map}
use Rattle.std.proofs.lemmas.Result.{err_from_is_err_and}
use Rattle.dav_headers.specs.IfTokens.{Token}
use Rattle.dav_headers.specs.IfParts.{part_view}
use Rattle.dav_headers.specs.IfWritten.{ListAt, NoList}
use Rattle.dav_headers.specs.IfTexts.{list_view}
use Rattle.dav_headers.specs.declared.errors.HeaderError.TheVariants.{Invalid}
use Rattle.dav_headers.proofs.IfListLemmas.{from, same_error, within_slice, ListsSoFar-step, ListsSoFar-end, ListsSoFar-stuck}
use Rattle.dav_headers.proofs.if_header.written.lists_of.Goals as goal

pub returns-in_err-list-clause-none : goal.returns-in_err-list-clause-none
returns-in_err-list-clause-none c = λ e.
    let ts = map part_view c.args.parts.now in
    let p = err_from_is_err_and c.from_residual.result c.from_residual.ensures.1 in
    let invalid : c.in_err-list.field-0.0 ≡ Invalid = same_error c.from_residual.result p.0 c.in_err-list.field-0.0 p.1 p.2 e in
    let none : NoList (drop c.loop-at.at ts) = subst NoList (from part_view c.loop-at.at c.args.parts.now c.loop-at.invariant.0) (c.in_err-list.ensures.none (ap Err invalid)) in
    ListsSoFar-stuck ts (drop c.loop-at.at ts) _ c.loop-at.invariant.1 (λ empty. absurd (omega (arith, ap length empty, length-drop c.loop-at.at ts, length-map c.args.parts.now part_view))) none

pub loop-at-preserved : goal.loop-at-preserved
loop-at-preserved c =
    let ts = map part_view c.args.parts.now in
    let n = c.in_ok-list.n in
    let ok = c.in_ok-list.ensures.found in
    let P : List Token → Type 0 = λ x. ListAt x (list_view c.in_ok-list.list) (drop n x) in
    let at = subst P (from part_view c.loop-at.at c.args.parts.now c.loop-at.invariant.0) ok.2 in
    let items : map list_view c.push.new.self.items ≡ map list_view c.loop-at.lists.items ++ list_view c.in_ok-list.list ∷ [] = ap (map list_view) c.in_ok-push.ensures.items ∙ map_push list_view _ _ in (
      within_slice c.args.parts.now c.loop-at.at n c.loop-at.invariant.0 ok.1,
      rw (items, ← drop-drop n c.loop-at.at ts) (ListsSoFar-step ts (drop c.loop-at.at ts) _ (map list_view c.loop-at.lists.items) (list_view c.in_ok-list.list) c.loop-at.invariant.1 at),
    )

pub returns-clause-found : goal.returns-clause-found
returns-clause-found c =
    let ts = map part_view c.args.parts.now in
    ListsSoFar-end ts (drop c.loop-at.at ts) _ c.loop-at.invariant.1 (drop_all c.loop-at.at ts (omega (arith, c.loop-at-test.false, length-map c.args.parts.now part_view)))
