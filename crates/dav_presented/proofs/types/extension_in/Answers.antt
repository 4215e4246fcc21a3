use Rattle.dav_presented.proofs.DotLemmas.{extension_found}
use Rattle.dav_presented.proofs.types.extension_in.Goals as goal

pub returns-in-Some : goal.returns-in-Some
returns-in-Some c = extension_found c.args.name.now c.in-Some.ensures.0 c.in-Some.after.now c.last_part.result.now c.in-Some.ensures.1 c.last_part.ensures
