use Rattle.std.proofs.Common.{◌≡◌, ◌++◌, ◌∷◌, [], arith, ap, sym, ◌∙◌, map}
use Rattle.std.proofs.lemmas.List.{map_push}
use Rattle.dav_headers.specs.IfParts.{part_view}
use Rattle.dav_headers.specs.IfTokens.{Spells}
use Rattle.dav_headers.proofs.ReadingLemmas.{out_of_memory}
use Rattle.dav_headers.proofs.IfTokenLemmas.{ReadSoFar-start, ReadSoFar-step, ReadSoFar-end, ReadSoFar-stuck, skip_is_no_longer, empty_from_test, some_from_test}
use Rattle.dav_headers.proofs.if_header.tokens.parts_of.Goals as goal

pub loop-rest-init : goal.loop-rest-init
loop-rest-init c = ReadSoFar-start _ _ _ c.skip-rest.ensures (ap (map part_view) c.new-parts.ensures.items)

pub returns-in_default : goal.returns-in_default
returns-in_default c = λ ts.
    ReadSoFar-stuck _ _ _ c.loop-rest.invariant (some_from_test _ _ c.is_empty.ensures c.loop-rest-test.true) (sym c.in_default.ensures.is) ts

pub loop-rest-smaller : goal.loop-rest-smaller
loop-rest-smaller c =
    omega (arith, ap Rattle.std.proofs.Common.length c.skip-rest-in-loop-rest.ensures, skip_is_no_longer c.in-Some.after.now, c.in-Some.ensures.shorter)

pub loop-rest-preserved : goal.loop-rest-preserved
loop-rest-preserved c =
    let items : map part_view c.push.new.self.items ≡ map part_view c.loop-rest.parts.items ++ part_view c.in-Some.part ∷ [] = ap (map part_view) c.in_ok-push.ensures.items ∙ map_push part_view _ _ in
    rw (items, c.skip-rest-in-loop-rest.ensures) (ReadSoFar-step _ _ _ _ _ c.loop-rest.invariant (sym c.in-Some.ensures.is))

pub returns-in_err-push : goal.returns-in_err-push
returns-in_err-push c = out_of_memory _ Spells c.args.text.now _ c.from_residual.ensures.1 (c.are_tokens.ensures.0 c.if-not-are_tokens.false)

pub returns : goal.returns
returns c = ReadSoFar-end _ _ _ c.loop-rest.invariant (empty_from_test _ _ c.is_empty.ensures c.loop-rest-test.false)
