use Rattle.std.proofs.Common.{arith, Err, refl}
use Rattle.std.proofs.lemmas.Grind.{common_steps}
use Rattle.dav_server.proofs.RefusalLemmas.{over_refused}
use Rattle.dav_server.proofs.refusing.RefusingDavFileSystem.have_props.Goals as goal

-- the error in the entry is the answer, which says that there are no properties
pub returns-in-Some : goal.returns-in-Some
returns-in-Some g c = (Err c.in-Some.field-0, grind (arith, common_steps, over_refused), refl)
