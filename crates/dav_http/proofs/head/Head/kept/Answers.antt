use Rattle.std.proofs.Common.{arith, refl, sym, true≢false, ◌∙◌}
use Rattle.std.proofs.lemmas.Result.{IfOk-weaker}
use Rattle.dav_http.proofs.HeadTextLemmas.{answers_depthless, answers_lock, answers_other}
use Rattle.dav_http.proofs.head.Head.kept.Goals as goal

pub returns-then-is_lock : goal.returns-then-is_lock
returns-then-is_lock c =
    IfOk-weaker c.lock_text.result _ _
    (λ t is.
    answers_lock c.args.most c.in_ok-seconds.seconds c.args.strict c.self.inside.bytes.now c.method.result.now t.items c.self.inside.view c.args.self.now c.self.invariant c.self.view_is c.method.ensures
    (c.if-is_lock.ensures.0 refl) c.in_ok-seconds.ensures (omega arith) is)
    c.lock_text.ensures

pub returns-then-gets_depth : goal.returns-then-gets_depth
returns-then-gets_depth c =
    IfOk-weaker c.depth_text.result _ _
    (λ t is.
    answers_depthless c.args.most c.args.strict c.self.inside.bytes.now t.items c.self.inside.view c.args.self.now c.self.invariant c.self.view_is (c.gets_depth.ensures.0 c.if-gets_depth.true) is)
    c.depth_text.ensures

pub returns : goal.returns
returns c =
    IfOk-weaker c.other_text.result _ _
    (λ t is.
    answers_other c.args.most c.args.strict c.self.inside.bytes.now c.method.result.now t.items c.self.inside.view c.args.self.now c.self.invariant c.self.view_is c.method.ensures
    (λ named. true≢false (sym (c.if-is_lock.ensures.1 named))) (λ silent. true≢false (sym (c.gets_depth.ensures.1 silent) ∙ c.if-gets_depth.false)) is)
    c.other_text.ensures
