use Rattle.std.proofs.Common.{ap, refl, ◌∙◌}
use Rattle.std.proofs.lemmas.Result.{IfOk-weaker}
use Rattle.dav_kept.specs.Records.{RequestView}
use Rattle.dav_live.proofs.MachineLemmas.{folder_answered, folder_leaves, reply_answered}
use Rattle.dav_live.proofs.machine.Machine.answer.Goals as goal

pub returns-then-is_for_folder-clause-answers : goal.returns-then-is_for_folder-clause-answers
returns-then-is_for_folder-clause-answers c =
    IfOk-weaker c.answer_folder.result _ _
    (λ effect done.
    folder_answered c.args.self.now c.reply_to.new.self c.args.request.now c.request.inside.head.now (ap (λ (q : RequestView). q.head) c.request.view_is) c.in_ok-reply.reply
    c.answer_folder.new.response c.in_ok-reply.ensures.step c.in_ok-reply.ensures.left c.answer_folder.new.self (c.if-is_for_folder.ensures refl) done)
    c.answer_folder.ensures

pub returns-then-is_for_folder-clause-left : goal.returns-then-is_for_folder-clause-left
returns-then-is_for_folder-clause-left c =
    IfOk-weaker c.answer_folder.result _ _
    (λ effect done is_left.
    done.0
    ∙ folder_leaves c.args.self.now c.reply_to.new.self c.args.request.now c.request.inside.head.now (ap (λ (q : RequestView). q.head) c.request.view_is) c.in_ok-reply.reply
    c.answer_folder.new.response c.in_ok-reply.ensures.step c.in_ok-reply.ensures.left (c.if-is_for_folder.ensures refl))
    c.answer_folder.ensures

pub returns-else-is_for_folder-clause-answers : goal.returns-else-is_for_folder-clause-answers
returns-else-is_for_folder-clause-answers c =
    IfOk-weaker c.answer_with.result _ _
    (λ effect done.
    reply_answered c.args.self.now c.reply_to.new.self c.args.request.now c.request.inside.head.now (ap (λ (q : RequestView). q.head) c.request.view_is) c.in_ok-reply.reply
    c.answer_with.new.response c.in_ok-reply.ensures.step c.in_ok-reply.ensures.left done.0)
    c.answer_with.ensures

pub returns-else-is_for_folder-clause-left : goal.returns-else-is_for_folder-clause-left
returns-else-is_for_folder-clause-left c = IfOk-weaker c.answer_with.result _ _ (λ effect done is_left. c.in_ok-reply.ensures.left (done.1 is_left)) c.answer_with.ensures
