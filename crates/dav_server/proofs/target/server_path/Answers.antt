use Rattle.std.proofs.Common.{inr}
use Rattle.dav_server.specs.Target.{reserved}
use Rattle.dav_server.proofs.TargetLemmas.{server_named}
use Rattle.dav_server.proofs.target.server_path.Goals as goal

pub returns-in-Options-clause-path : goal.returns-in-Options-clause-path
returns-in-Options-clause-path c = λ prefix. server_named prefix c.args.method c.args.target.now c.named.result c.requires c.in-Options.is c.named.ensures

pub returns-in_default-clause-path : goal.returns-in_default-clause-path
returns-in_default-clause-path c = λ prefix. inr (reserved c.requires c.in_default.not-Options)
