use Rattle.std.proofs.Common.{rules}
use Rattle.std.proofs.lemmas.Result.{err_from_is_err_and}
use Rattle.dav_core.specs.Target.{IsRooted, pieces_of}
use Rattle.dav_core.specs.Buffer.{IsRefusedBy}
use Rattle.dav_core.proofs.BufferLemmas.{refused}
use Rattle.dav_core.proofs.davpath.DavPath.new.Goals as goal

pub returns-in_err-full-2-clause-err : goal.returns-in_err-full-2-clause-err
returns-in_err-full-2-clause-err c =
    let p = err_from_is_err_and c.from_residual-in_err-full-2.result c.from_residual-in_err-full-2.ensures.1 in
    let rooted : IsRooted c.args.src.now = search rules in
    let why : IsRefusedBy (pieces_of c.args.src.now) c.in_err-full-2.field-0.0 = rw c.as_bytes-src.ensures.value at c.in_err-full-2.ensures in
    rw (p.1, p.2) (refused c.args.src.now _ rooted why)
