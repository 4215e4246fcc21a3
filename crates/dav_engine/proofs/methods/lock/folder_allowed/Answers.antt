use Rattle.std.proofs.Common.{◌∙◌, ap, map, string_bytes}
use Rattle.std.proofs.lemmas.Result.{err_from_is_err_and}
use Rattle.dav_core.specs.declared.errors.DavError.TheVariants as dav
use Rattle.dav_core.specs.Path.{names}
use Rattle.dav_engine.specs.CallerView.{caller_of}
use Rattle.dav_engine.specs.Caller.{requester}
use Rattle.dav_engine.specs.Conditions.{submitted}
use Rattle.dav_engine.specs.MembersView.{members_change}
use Rattle.dav_engine.proofs.GuardLemmas.{parent_short}
use Rattle.dav_engine.proofs.GrantFollows.{above_by}
use Rattle.dav_engine.proofs.methods.lock.folder_allowed.Goals as goal

pub returns-in_err-tokens : goal.returns-in_err-tokens
returns-in_err-tokens g c =
    let p = err_from_is_err_and c.from_residual.result c.from_residual.ensures.1 in
    rw (p.1, p.2) (parent_short (requester c.args.caller.now (submitted c.args.conditions.now.lists)) (names c.args.path.now) (dav.Status 423) (members_change c.args.members))

pub returns : goal.returns
returns g c =
    rw (← c.caller.view_is) (above_by (submitted c.args.conditions.now.lists) (caller_of c.caller.inside).principal (members_change c.args.members) (names c.args.path.now) (dav.Status 423) (ap (map string_bytes) c.deref.ensures.value ∙ c.in_ok-tokens.ensures) c.parent_allowed.ensures)
