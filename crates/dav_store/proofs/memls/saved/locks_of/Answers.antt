use Rattle.std.proofs.Common.{◌≡◌, ◌∷◌, [], ◌++◌, sym, ap, ◌∙◌}
use Rattle.std.proofs.lemmas.Result.{err_from_is_err_and}
use Rattle.dav_core.specs.Path.{names}
use Rattle.dav_core.specs.Locks.{Lock}
use Rattle.dav_saved.specs.Reading.{many_at}
use Rattle.dav_saved.specs.Locks.{lock_at}
use Rattle.dav_saved.proofs.Loop.{goes_on, ends, is_done}
use Rattle.dav_store.specs.LockIndex.{tally}
use Rattle.dav_store.proofs.IndexCalls.{index_grown}
use Rattle.dav_store.proofs.memls.saved.locks_of.Goals as goal

pub returns-in_err-lock : goal.returns-in_err-lock
returns-in_err-lock c =
    let p = err_from_is_err_and c.from_residual.result c.from_residual.ensures.1 in
    rw (p.1, p.2) (ends (lock_at c.args.levels) c.in_err-lock.field-0.0 c.loop-grant.locks.items c.args.count c.loop-grant.grant c.loop-grant.rest.now (many_at (lock_at c.args.levels) c.args.count c.args.bytes.now) c.loop-grant-test.true c.in_err-lock.ensures c.loop-grant.invariant.0)

pub loop-grant-preserved : goal.loop-grant-preserved
loop-grant-preserved c =
    let old = c.loop-grant.locks.items in
    let l = c.in_ok-lock.lock in
    let new : c.push.new.self.items ≡ old ++ l ∷ [] = c.in_ok-push.ensures.items ∙ ap (λ (x : Lock). old ++ x ∷ []) c.in_ok-kept.ensures in (
      rw new (goes_on (lock_at c.args.levels) old c.args.count c.loop-grant.grant c.loop-grant.rest.now l c.in_ok-lock.after.now (many_at (lock_at c.args.levels) c.args.count c.args.bytes.now) c.loop-grant-test.true c.in_ok-lock.ensures c.loop-grant.invariant.0),
      index_grown c.raise.new.index c.lock.inside.deep (names c.lock.inside.path) old c.push.new.self.items l (c.raise.ensures (λ k. tally k old) c.loop-grant.invariant.1) new
          (ap (λ (x : Lock). x.deep) (sym c.lock.view_is)) (ap (λ (x : Lock). names x.path) (sym c.lock.view_is)),
    )

pub returns : goal.returns
returns c = is_done (lock_at c.args.levels) c.loop-grant.locks.items c.args.count c.loop-grant.grant c.loop-grant.rest.now (many_at (lock_at c.args.levels) c.args.count c.args.bytes.now) c.loop-grant-test.false c.loop-grant.invariant.0
