use Rattle.std.proofs.Common.{subst, ◌∙◌}
use Rattle.dav_server.specs.Server.{Server}
use Rattle.dav_live.specs.Answers.{IsAnswer}
use Rattle.dav_live.proofs.MachineLemmas.{finding_leaves, listed_answered}
use Rattle.dav_live.proofs.machine.Machine.list.Goals as goal

pub hand_on-requires : goal.hand_on-requires
hand_on-requires c = finding_leaves c.args.request.now.head c.args.head.now c.requires.head c.requires.finds

pub returns-clause-answers : goal.returns-clause-answers
returns-clause-answers c =
    let begun = c.in_ok-listing.ensures in
    subst (λ (s : Server). IsAnswer s c.args.request.now c.show_listing.new.response c.hand_on.new.self) c.see_told.ensures
    (listed_answered c.see_told.new.self c.hand_on.new.self c.args.request.now c.in_ok-listing.listing c.in_ok-reply.reply c.show_listing.new.response c.args.head.now begun.0 begun.1 c.in_ok-reply.taken
    c.in_ok-reply.ensures.same c.requires.head c.requires.finds begun.2 c.in_ok-reply.ensures.step c.in_ok-show_listing.ensures)

pub returns-clause-same : goal.returns-clause-same
returns-clause-same c = c.in_ok-reply.ensures.same ∙ c.see_told.ensures
