use Rattle.std.proofs.lemmas.Result.{err_from_is_err_and}
use Rattle.dav_saved.specs.Reading.{sized_at}
use Rattle.dav_store.specs.Loaded.{IsNameOfBytes}
use Rattle.dav_store.proofs.LoadedReads.{count_failed, behind_count}
use Rattle.dav_store.proofs.names.Names.load.Goals as goal

pub returns-in_err-count : goal.returns-in_err-count
returns-in_err-count c =
    let p = err_from_is_err_and c.from_residual.result c.from_residual.ensures.1 in
    rw (p.1, p.2) (count_failed IsNameOfBytes sized_at c.args.bytes.now c.in_err-count.field-0.0 c.in_err-count.ensures)

pub returns : goal.returns
returns c = rw (behind_count IsNameOfBytes sized_at c.args.bytes.now c.in_ok-count.count c.in_ok-count.rest.now c.in_ok-count.ensures) c.names_at.ensures
