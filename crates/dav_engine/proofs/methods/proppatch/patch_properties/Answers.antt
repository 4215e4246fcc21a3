use Rattle.std.proofs.Common.{Some}
use Rattle.std.proofs.lemmas.Result.{err_from_is_err_and}
use Rattle.dav_engine.specs.Folder.{location_found}
use Rattle.dav_engine.proofs.Following.{follows_up_to}
use Rattle.dav_engine.proofs.ProppatchLemmas.{no_changes, these_changes, changes_err, changes_short, changes_told}
use Rattle.dav_engine.proofs.methods.proppatch.patch_properties.Goals as goal

pub returns-in_err-changes : goal.returns-in_err-changes
returns-in_err-changes g c ls =
    let p = err_from_is_err_and c.from_residual.result c.from_residual.ensures.1 in
    rw (p.1, p.2) follows_up_to

pub returns-in_default : goal.returns-in_default
returns-in_default g c ls =
    no_changes c.args.path.now (location_found (Some c.args.found.now) c.args.asked.now) c.args.body.now (rw c.in_default.is at c.in_ok-changes.ensures)

pub returns-in_err-told : goal.returns-in_err-told
returns-in_err-told g c ls =
    let p = err_from_is_err_and c.from_residual-in_err-told.result c.from_residual-in_err-told.ensures.1 in
    let location = location_found (Some c.args.found.now) c.args.asked.now in
    rw (p.1, p.2) (these_changes c.args.path.now location c.args.body.now c.in-Some.changes.items (rw c.in-Some.is at c.in_ok-changes.ensures)
    (changes_err c.args.path.now location c.in-Some.changes.items _ (c.in_err-told.ensures ls)))

pub returns-in_err-proppatch_reply : goal.returns-in_err-proppatch_reply
returns-in_err-proppatch_reply g c ls =
    let p = err_from_is_err_and c.from_residual-in_err-proppatch_reply.result c.from_residual-in_err-proppatch_reply.ensures.1 in
    let location = location_found (Some c.args.found.now) c.args.asked.now in
    rw (p.1, p.2) (these_changes c.args.path.now location c.args.body.now c.in-Some.changes.items (rw c.in-Some.is at c.in_ok-changes.ensures)
    (changes_short c.args.path.now location c.in-Some.changes.items c.in_ok-told.told (c.in_ok-told.ensures ls)))

pub returns : goal.returns
returns g c ls =
    let location = location_found (Some c.args.found.now) c.args.asked.now in
    these_changes c.args.path.now location c.args.body.now c.in-Some.changes.items (rw c.in-Some.is at c.in_ok-changes.ensures)
    (changes_told c.args.path.now location c.in-Some.changes.items c.in_ok-told.told _ (c.in_ok-told.ensures ls) c.in_ok-proppatch_reply.ensures)
