use Rattle.std.proofs.Common.{Ok, Err, false, true, drop, map, ◌+◌}
use Rattle.std.specs.Option.{option_map}
use Rattle.std.proofs.lemmas.Result.{err_from_is_err_and}
use Rattle.dav_core.specs.declared.errors.DavError.TheVariants as dav
use Rattle.dav_core.specs.Path.{names}
use Rattle.dav_headers.specs.IfView.{condition_value}
use Rattle.dav_engine.proofs.ConditionLemmas.{all_hold_at, all_hold_end, condition_held, condition_failed, condition_stopped}
use Rattle.dav_engine.proofs.conditions.all_hold.Goals as goal

pub returns-in_err-item_holds : goal.returns-in_err-item_holds
returns-in_err-item_holds g c =
    let path = option_map names c.args.path.now in
    let cs = c.args.conditions.now in
    let i = c.loop-condition.condition-index in
    let p = err_from_is_err_and c.from_residual.result c.from_residual.ensures.1 in
    rw p.1 (c.loop-condition.invariant (Err dav.Memory) (g.F.DavFileSystem.state c.item_holds.new.fs)
    (all_hold_at path cs i c.condition-item.result c.loop-condition-test.true c.condition-item.is
    (condition_stopped path (condition_value c.condition-item.result) (map condition_value (drop (i + 1) cs)) c.in_err-item_holds.ensures)))

pub returns-then-branch-condition : goal.returns-then-branch-condition
returns-then-branch-condition g c =
    let path = option_map names c.args.path.now in
    let cs = c.args.conditions.now in
    let i = c.loop-condition.condition-index in
    c.loop-condition.invariant (Ok false) (g.F.DavFileSystem.state c.item_holds.new.fs)
    (all_hold_at path cs i c.condition-item.result c.loop-condition-test.true c.condition-item.is
    (condition_failed path (condition_value c.condition-item.result) (map condition_value (drop (i + 1) cs)) c.in_ok-item_holds.field-0 c.if-branch-condition.true c.in_ok-item_holds.ensures))

pub loop-condition-preserved : goal.loop-condition-preserved
loop-condition-preserved g c = λ r end more.
    let path = option_map names c.args.path.now in
    let cs = c.args.conditions.now in
    let i = c.loop-condition.condition-index in
    c.loop-condition.invariant r end
    (all_hold_at path cs i c.condition-item.result c.loop-condition-test.true c.condition-item.is
    (condition_held path (condition_value c.condition-item.result) (map condition_value (drop (i + 1) cs)) c.in_ok-item_holds.field-0 c.if-branch-condition.false c.in_ok-item_holds.ensures more))

pub returns : goal.returns
returns g c =
    c.loop-condition.invariant (Ok true) (g.F.DavFileSystem.state c.loop-condition.fs)
    (all_hold_end (option_map names c.args.path.now) c.args.conditions.now c.loop-condition.condition-index c.loop-condition-test.false)
