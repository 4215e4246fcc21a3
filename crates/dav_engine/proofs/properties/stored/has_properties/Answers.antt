use Rattle.dav_engine.specs.Follows.{followed}
use Rattle.dav_engine.proofs.KeptLemmas.{properties_asked}
use Rattle.dav_engine.proofs.properties.stored.has_properties.Goals as goal

pub returns : goal.returns
returns g c ls = followed (properties_asked c.args.path.now c.have_props.result c.have_props.ensures.0 c.have_props.ensures.1 c.have_props.ensures.2 ls)
