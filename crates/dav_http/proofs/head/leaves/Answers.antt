use Rattle.dav_http.proofs.head.leaves.Goals as goal

pub returns-in-Some : goal.returns-in-Some
returns-in-Some c = c.method_leaves.ensures c.args.head.now c.in-Some.head c.in-Some.ensures c.method.ensures
