use Rattle.std.proofs.Common.{inr, subst}
use Rattle.dav_server.specs.Server.{Server}
use Rattle.dav_live.specs.Answers.{IsSentFor}
use Rattle.dav_live.proofs.MachineLemmas.{where_ok}
use Rattle.dav_live.proofs.machine.Machine.show_way.Goals as goal

pub returns-clause-told : goal.returns-clause-told
returns-clause-told c =
    where_ok _ _ c.tell_way.result
    (λ (is : IsSentFor c.way_told.new.self c.args.request.now c.args.reply c.tell_way.new.response).
    inr (subst (λ (s : Server). IsSentFor s c.args.request.now c.args.reply c.tell_way.new.response) c.in_ok-told.ensures is))
    c.tell_way.ensures
