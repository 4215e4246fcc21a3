-- The body that a method is handed, as contracts see it.
use Rattle.dav_engine.specs.declared.request.Body.{Body}
use Rattle.dav_server.specs.declared.body.Given.{Given}
use Rattle.dav_server.specs.declared.body.Given.TheVariants.{Whole, Other}

-- the body that a method is handed: the request's own (`Whole`), or one in its place (`Other`)
abbrev pub given_body : Given → Body
given_body (Whole body) = body.now
given_body (Other body) = body
