use Rattle.std.proofs.Common.{map}
use Rattle.std.specs.Option.{option_copied}
use Rattle.std.proofs.lemmas.Result.{err_from_is_err_and}
use Rattle.dav_access.specs.RulesText.{none}
use Rattle.dav_access.proofs.RulesTextLemmas.{all_more, fault_as, now_at, unknown_at, within_now}
use Rattle.dav_access.proofs.file.Reader.all_of.Goals as goal

pub loop-word-init : goal.loop-word-init
loop-word-init c = rw c.new-whom.ensures.items none

pub returns-in_err-whom_of : goal.returns-in_err-whom_of
returns-in_err-whom_of c =
    let p = err_from_is_err_and c.from_residual.result c.from_residual.ensures.1 in
    let words = c.args.words.now in
    let place = c.loop-word.word-index in
    rw (p.1, p.2)
    (fault_as _ _ c.in_err-whom_of.field-0.0
    (λ f. unknown_at (option_copied c.args.self.now.users) c.args.self.now.lines.now (map (λ w. w.now) words) place _ c.loop-word.whom.items f (within_now words place c.loop-word-test.true)
    (now_at words place _ c.loop-word-test.true) c.loop-word.invariant)
    c.in_err-whom_of.ensures)

pub loop-word-preserved : goal.loop-word-preserved
loop-word-preserved c =
    let words = c.args.words.now in
    let place = c.loop-word.word-index in
    all_more (option_copied c.args.self.now.users) c.args.self.now.lines.now (map (λ w. w.now) words) place _ c.loop-word.whom.items c.in_ok-whom_of.field-0.items c.append.new.self.items
    (within_now words place c.loop-word-test.true) (now_at words place _ c.loop-word-test.true) c.loop-word.invariant c.in_ok-whom_of.ensures c.in_ok-append.ensures.items
