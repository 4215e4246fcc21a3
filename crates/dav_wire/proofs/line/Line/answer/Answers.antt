use Rattle.std.proofs.Common.{map, [], ◌∷◌, ◌++◌, List, None, refl, sym, ap, ◌∙◌, inl, inr}
use Rattle.std.proofs.lemmas.List.{map_push}
use Rattle.dav_wire.specs.Exchange.{Call, passed}
use Rattle.dav_wire.proofs.Heads.{in_log}
use Rattle.dav_wire.specs.Place.{history_of}
use Rattle.dav_wire.proofs.Streams.{acts_answered}
use Rattle.dav_wire.proofs.Runs.{rebased, reaches_over, aborts}
use Rattle.dav_wire.proofs.line.Line.answer.Goals as goal

pub returns-in-Err-clause-reaches : goal.returns-in-Err-clause-reaches
returns-in-Err-clause-reaches g c = λ old less x.
    let reads = x.whole.request.reads in
    reaches_over _ old _ _ _ c.abort.ensures.written c.abort.ensures.keeps.config (λ is. cc) c.abort.ensures.stops
    (aborts x.base (inl (record { head = x.whole.message.head; framing = reads.framing; after = reads.after_head; accepts = reads.head })) (inl x.calls)
    (inr (None, (c.args.asked.now.head, record { head = x.whole.message.head; framing = reads.framing; after = reads.after_head; accepts = reads.head; text = x.whole.request.head }, x.judged))))

pub returns-clause-reaches : goal.returns-clause-reaches
returns-clause-reaches g c = λ old less x.
    let call : Call = (c.args.asked.now, c.answer.new.response) in
    c.reply.ensures.reaches old less (record {
      base = rebased x.base refl _ _ _ _ _ _;
      asked = c.args.asked.now;
      calls = c.and-self.ensures ∙ ap (λ (t : List Call). t ++ call ∷ []) x.calls;
      judged = x.judged ∙ sym (map_push (λ (d : Call). (d.0.head, None)) _ call) ∙ ap passed (sym c.and-self.ensures);
      whole = x.whole;
    })

pub returns-clause-acts : goal.returns-clause-acts
returns-clause-acts g c = λ alive.
    let l = c.args.self.now in
    let new = history_of c.reply.new.self in
    let call : Call = (c.args.asked.now, c.answer.new.response) in
    acts_answered g.S.Answerer.judges g.S.Answerer.answers _ _ (history_of l) new call
    (ap (λ t. t.items) c.reply.ensures.acts.0 ∙ c.and-self.ensures) (ap (λ t. map in_log t.items) c.reply.ensures.acts.1)
    c.in_default.ensures
