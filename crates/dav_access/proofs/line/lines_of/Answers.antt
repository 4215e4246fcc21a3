use Rattle.std.proofs.Common.{◌≡◌, ◌∙◌, [], ◌∷◌, List, ℕ, length, map, sym, ap, rules, tests, eqb}
use Rattle.std.proofs.lemmas.List.{map_push}
use Rattle.std.proofs.lemmas.Result.{err_from_is_err_and}
use Rattle.std.proofs.lemmas.Iterator.Consumers.{YieldsList-end, YieldsList-turn}
use Rattle.std.proofs.lemmas.Iterator.Splits.{YieldsList-from_slice_split}
use Rattle.dav_access.specs.RulesText.{words_of}
use Rattle.dav_access.proofs.RulesTextLemmas.{line_read, lines_fault}
use Rattle.dav_access.proofs.line.lines_of.Goals as goal

pub returns-in_err-texts_of : goal.returns-in_err-texts_of
returns-in_err-texts_of c =
    let p = err_from_is_err_and c.from_residual-in_err-texts_of.result c.from_residual-in_err-texts_of.ensures.1 in
    let t = YieldsList-turn (YieldsList-from_slice_split _ (λ b. eqb b 10) c.args.text.now (cc) (cc) (cc) (λ x b q k. search (rules, tests))) c.loop-line.yielded _ c.loop-line.yielded_by _ _ c.in-Some.line c.in-Some.is c.next.ensures.steps in
    rw (p.1, p.2)
    (lines_fault c.args.text.now c.in-Some.line.now (length c.loop-line.yielded) _ _ t.0 t.1 (ap (map (λ w. w.now)) c.deref.ensures.value ∙ c.in_ok-words.ensures) c.in_err-texts_of.ensures)

pub loop-line-preserved : goal.loop-line-preserved
loop-line-preserved c =
    rw map_push
    (line_read _ c.loop-line.lines.items c.push.new.self.items c.in-Some.line.now c.in_ok-texts_of.field-0 c.loop-line.invariant.0 c.loop-line.invariant.1
    (c.in_ok-texts_of.ensures.0 ∙ ap (map (λ w. w.now)) c.deref.ensures.value ∙ c.in_ok-words.ensures) c.in_ok-texts_of.ensures.1 c.in_ok-push.ensures.items)

pub returns : goal.returns
returns c =
    let e = YieldsList-end (YieldsList-from_slice_split _ (λ b. eqb b 10) c.args.text.now (cc) (cc) (cc) (λ x b q k. search (rules, tests))) c.loop-line.yielded _ c.loop-line.yielded_by _ _ c.in-None.is c.next.ensures.steps in
    (c.loop-line.invariant.0 ∙ ap (map words_of) e.0, c.loop-line.invariant.1)
