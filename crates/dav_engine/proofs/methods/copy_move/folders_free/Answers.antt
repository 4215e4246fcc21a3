use Rattle.std.proofs.Common.{map, string_bytes, false}
use Rattle.std.specs.Option.{option_copied}
use Rattle.std.proofs.lemmas.Result.{err_from_is_err_and}
use Rattle.dav_core.specs.Locks.{requester_of}
use Rattle.dav_engine.specs.CopyMove.{is_move}
use Rattle.dav_engine.specs.MembersView.{members_change}
use Rattle.dav_engine.proofs.CopyMoveLemmas.{folders_out, folders_on}
use Rattle.dav_engine.proofs.methods.copy_move.folders_free.Goals as goal

pub returns-in_err-parent_allowed : goal.returns-in_err-parent_allowed
returns-in_err-parent_allowed g c =
    let p = err_from_is_err_and c.from_residual.result c.from_residual.ensures.1 in
    rw (p.1, p.2) (folders_out (is_move c.args.method) (members_change c.args.members) (requester_of (map string_bytes c.args.tokens.now) false (option_copied c.args.principal)) c.args.path.now c.args.destination.now _ (rw c.source_members.ensures at c.in_err-parent_allowed.ensures))

pub returns : goal.returns
returns g c =
    folders_on (is_move c.args.method) (members_change c.args.members) (requester_of (map string_bytes c.args.tokens.now) false (option_copied c.args.principal)) c.args.path.now c.args.destination.now (rw c.source_members.ensures at c.in_ok-parent_allowed.ensures) c.parent_allowed-2.ensures
