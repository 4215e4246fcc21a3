use Rattle.std.proofs.Common.{refl}
use Rattle.dav_live.proofs.VerdictLemmas.{judged_head, left_head}
use Rattle.dav_live.proofs.service.answering.ServiceAnswerer.judge.Goals as goal

pub returns-then-is_plain_read : goal.returns-then-is_plain_read
returns-then-is_plain_read g c =
    left_head c.args.self.now c.args.self.now c.args.head.now (λ r is. c.is_plain_read.ensures c.if-is_plain_read.true r is) (refl, refl) refl

pub returns-in-None : goal.returns-in-None
returns-in-None g c =
    left_head c.args.self.now c.args.self.now c.args.head.now (λ r is. absurd (c.in-None.ensures r is)) (refl, refl) refl

pub returns-in-Some : goal.returns-in-Some
returns-in-Some g c =
    judged_head c.args.self.now c.judge_head.new.self c.args.head.now c.judge_head.result _ c.in-Some.ensures c.judge_head.ensures.same c.judge_head.ensures.verdict
    c.judge_head.ensures.login
