use Rattle.dav_http.proofs.head.Head.leaves.Goals as goal

pub returns : goal.returns
returns c = λ bytes is. c.method_leaves.ensures bytes c.args.self.now is c.method.ensures
