use Rattle.std.proofs.Common.{Ok, Err, false, true, drop, map, ◌+◌}
use Rattle.std.proofs.lemmas.Result.{err_from_is_err_and}
use Rattle.dav_core.specs.declared.errors.DavError.TheVariants as dav
use Rattle.dav_engine.specs.ConditionView.{list_of}
use Rattle.dav_engine.proofs.ConditionLemmas.{some_holds_at, some_holds_end, list_held, list_failed, list_stopped}
use Rattle.dav_engine.proofs.conditions.some_holds.Goals as goal

pub returns-in_err-all_hold : goal.returns-in_err-all_hold
returns-in_err-all_hold g c =
    let xs = c.args.lists.now in
    let i = c.loop-list.list-index in
    let p = err_from_is_err_and c.from_residual.result c.from_residual.ensures.1 in
    rw p.1 (c.loop-list.invariant (Err dav.Memory) (g.F.DavFileSystem.state c.all_hold.new.fs)
    (some_holds_at xs i c.list-item.result c.loop-list-test.true c.list-item.is
    (list_stopped c.list-item.result c.deref.result.now (map list_of (drop (i + 1) xs)) c.deref.ensures.value c.in_err-all_hold.ensures)))

pub returns-then-branch : goal.returns-then-branch
returns-then-branch g c =
    let xs = c.args.lists.now in
    let i = c.loop-list.list-index in
    c.loop-list.invariant (Ok true) (g.F.DavFileSystem.state c.all_hold.new.fs)
    (some_holds_at xs i c.list-item.result c.loop-list-test.true c.list-item.is
    (list_held c.list-item.result c.deref.result.now (map list_of (drop (i + 1) xs)) c.in_ok-all_hold.field-0 c.deref.ensures.value c.if-branch.true c.in_ok-all_hold.ensures))

pub loop-list-preserved : goal.loop-list-preserved
loop-list-preserved g c = λ r end more.
    let xs = c.args.lists.now in
    let i = c.loop-list.list-index in
    c.loop-list.invariant r end
    (some_holds_at xs i c.list-item.result c.loop-list-test.true c.list-item.is
    (list_failed c.list-item.result c.deref.result.now (map list_of (drop (i + 1) xs)) c.in_ok-all_hold.field-0 c.deref.ensures.value c.if-branch.false c.in_ok-all_hold.ensures more))

pub returns : goal.returns
returns g c =
    c.loop-list.invariant (Ok false) (g.F.DavFileSystem.state c.loop-list.fs)
    (some_holds_end c.args.lists.now c.loop-list.list-index c.loop-list-test.false)
