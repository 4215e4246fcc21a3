use Rattle.dav_http.specs.Presented.{alone, asked}
use Rattle.dav_http.proofs.presented.fields.address_in.Goals as goal

pub returns-in-Some : goal.returns-in-Some
returns-in-Some c = asked c.in-Some.address.now c.in-Some.field-0-1.now c.in-Some.ensures.0 c.in-Some.ensures.1

pub returns-in-None : goal.returns-in-None
returns-in-None c = alone c.in-None.ensures
