use Rattle.std.proofs.Common.{refl, sym, ◌∙◌}
use Rattle.dav_core.specs.Status.{fs_status}
use Rattle.dav_engine.specs.Removal.{StaysWhole}
use Rattle.dav_engine.proofs.CutWalks.{cut_behind, cut_out}
use Rattle.dav_engine.proofs.RemovalLemmas.{call_ok, call_err, told_as}
use Rattle.dav_engine.proofs.methods.delete.removal.removal.Goals as goal

pub returns-then-reaches_below : goal.returns-then-reaches_below
returns-then-reaches_below g c = rw (sym c.reaches_below.ensures ∙ c.if-reaches_below.true) c.remove_one.ensures

pub returns-then-not-dir : goal.returns-then-not-dir
returns-then-not-dir g c = rw (sym c.reaches_below.ensures ∙ c.if-reaches_below.false, c.if-not-dir.true) c.remove_one-then-not-dir.ensures

pub returns-in_err-report-in-Err : goal.returns-in_err-report-in-Err
returns-in_err-report-in-Err g c = rw (sym c.reaches_below.ensures ∙ c.if-reaches_below.false, c.if-not-dir.false) (cut_out _ _ _ c.from_residual.result c.from_residual.ensures.1 (cut_behind c.in-Err.ensures c.in_err-report-in-Err.ensures.err))

pub returns-in-Ok : goal.returns-in-Ok
returns-in-Ok g c = rw (sym c.reaches_below.ensures ∙ c.if-reaches_below.false, c.if-not-dir.false) (call_ok (λ e. StaysWhole c.args.path.now (fs_status e)) c.in-Ok.ensures refl)

pub returns-in_ok-report-in-Err : goal.returns-in_ok-report-in-Err
returns-in_ok-report-in-Err g c = rw (sym c.reaches_below.ensures ∙ c.if-reaches_below.false, c.if-not-dir.false) (call_err (λ e. StaysWhole c.args.path.now (fs_status e)) c.in-Err.ensures (told_as c.args.path.now _ c.in_ok-report-in-Err.ensures.ok c.status_of.ensures))
