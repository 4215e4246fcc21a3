use Rattle.std.proofs.Common.{◌∙◌, All, map, sym, subst}
use Rattle.std.specs.Str.{IsUtf8}
use Rattle.dav_access.proofs.RulesTextLemmas.{broken_at, now_at, text_read, whole_now, within_now}
use Rattle.dav_access.proofs.line.texts_of.Goals as goal

pub returns-in-Err : goal.returns-in-Err
returns-in-Err c =
    let words = c.args.words.now in
    let place = c.loop-word.word-index in
    broken_at (map (λ w. w.now) words) place _ (within_now words place c.loop-word-test.true) (now_at words place _ c.loop-word-test.true) c.in-Err.ensures.cases.0

pub loop-word-preserved : goal.loop-word-preserved
loop-word-preserved c =
    let words = c.args.words.now in
    let place = c.loop-word.word-index in
    text_read (map (λ w. w.now) words) place _ c.loop-word.texts.items c.push.new.self.items c.in-Ok.text (within_now words place c.loop-word-test.true)
    (now_at words place _ c.loop-word-test.true) c.loop-word.invariant.0 c.loop-word.invariant.1 c.in-Ok.ensures.cases.0 c.in-Ok.ensures.cases.1 c.in_ok-push-in-Ok.ensures.items

pub returns : goal.returns
returns c =
    let whole = whole_now c.args.words.now c.loop-word.word-index c.loop-word-test.false in
    let items = c.loop-word.invariant.0 ∙ whole in
    (items, subst (All IsUtf8) (sym c.loop-word.invariant.0) c.loop-word.invariant.1)
