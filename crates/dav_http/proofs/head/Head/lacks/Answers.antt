use Rattle.std.proofs.Common.{refl, sym}
use Rattle.dav_server.specs.Head.{values_of}
use Rattle.dav_http.proofs.PresentedLemmas.{none_first}
use Rattle.dav_http.proofs.head.Head.lacks.Goals as goal

pub returns-in-None : goal.returns-in-None
returns-in-None c = ((λ yes. none_first (values_of c.args.name.now c.args.self.now.fields) (sym c.in-None.ensures)), (λ none. refl))
