use Rattle.std.proofs.Common.{◌≡◌, ◌∙◌, ◌<◌, ℕ, List, get_or, sym, subst, arith}
use Rattle.std.proofs.lemmas.List.{get_or_default}
use borrow.Author.Count.{below_more}
use Rattle.dav_access.specs.RulesText.{SaysGroup}
use Rattle.dav_access.proofs.RulesTextLemmas.{none_says, says_at}
use Rattle.dav_access.proofs.line.members_of.Goals as goal

pub loop-line-preserved : goal.loop-line-preserved
loop-line-preserved c =
    let lines = c.args.lines.now in
    let place = c.loop-line.line-index in
    let P : ℕ → Type 0 = λ k. (d : List (List ℕ)) (members : List (List ℕ)) → ¬ SaysGroup (get_or lines k d) c.args.group.now members in
    below_more P place c.loop-line.invariant
    (λ d members says.
    let same : get_or lines place d ≡ c.line-item.result = get_or_default lines place d c.line-item.result c.loop-line-test.true ∙ sym c.line-item.is in
    c.in_default.ensures members (subst (λ (l : List (List ℕ)). SaysGroup l c.args.group.now members) same says))

pub returns : goal.returns
returns c = none_says c.args.lines.now c.args.group.now (λ k d within members. c.loop-line.invariant k (omega arith) d members)
