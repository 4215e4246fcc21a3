use Rattle.std.proofs.Common.{◌≡◌, List, ℕ, true, ap, ◌∙◌, inl, inr}
use Rattle.dav_wire.specs.Place.{place, history_of, closed_with}
use Rattle.dav_wire.specs.declared.state.Reason.TheVariants.{Unsendable}
use Rattle.dav_wire.specs.Refusals.{closing_text}
use Rattle.dav_wire.proofs.Replies.{stops_after, fails_with, closes, stays_open}
use Rattle.dav_wire.proofs.Runs.{reaches_over, holds_open}
use Rattle.dav_wire.proofs.line.Line.reply.Goals as goal

pub returns-in-Err-clause-reaches : goal.returns-in-Err-clause-reaches
returns-in-Err-clause-reaches c = λ old less x.
    let l = c.args.self.now in
    elim c.fail.ensures.written [
      | inl written ↦
          let why = c.in-Err.ensures.refused written.1 in
          let same : history_of c.fail.new.self ≡ closed_with (Unsendable c.in-Err.error) (closing_text true 500) (history_of l) =
          written.0 ∙ ap (λ (t : List ℕ). closed_with (Unsendable c.in-Err.error) (closing_text true 500) (record (history_of l) { pending = t })) why.1 in
          reaches_over _ old _ _ _ same c.fail.ensures.keeps.config (λ is. cc) c.fail.ensures.stops
          (fails_with (place l.intake) (history_of l) l.response c.args.is_head x c.in-Err.error why.0)
      | inr written ↦
          reaches_over _ old _ _ _ written c.fail.ensures.keeps.config (λ is. cc) c.fail.ensures.stops
          (stops_after (place l.intake) (history_of l) l.response c.args.is_head x)
    ]

pub returns-in_default-clause-reaches : goal.returns-in_default-clause-reaches
returns-in_default-clause-reaches c = λ old less x.
    let l = c.args.self.now in
    reaches_over _ old _ _ _ c.abort.ensures.written c.abort.ensures.keeps.config (λ is. cc) c.abort.ensures.stops
    (stops_after (place l.intake) (history_of l) l.response c.args.is_head x)

pub returns-then-is_closed-clause-reaches : goal.returns-then-is_closed-clause-reaches
returns-then-is_closed-clause-reaches c = λ old less x.
    let l = c.args.self.now in
    let sent = c.in-Ok-write_rest.ensures in
    let closed = closes (place l.intake) (history_of l) l.response c.args.is_head x c.in-Ok.ensures.sendable c.in-Ok.ensures.short
    c.write_head.new.output.items c.write_rest.new.output.items c.in-Ok.ensures.text (rw c.in-Ok.ensures.next at sent.text)
    c.write_rest.new.server (rw c.in-Ok.ensures.next at sent.next) (c.is_closed.ensures.0 c.if-is_closed.true) in
    reaches_over _ old _ _ _ (ap history_of c.close.ensures.written) (ap (λ t. t.intake.config) c.close.ensures.written) (λ is. cc)
    c.close.ensures.stops closed

pub returns-clause-reaches : goal.returns-clause-reaches
returns-clause-reaches c = λ old less x.
    let l = c.args.self.now in
    let sent = c.in-Ok-write_rest.ensures in
    let runs = stays_open (place l.intake) (history_of l) l.response c.args.is_head x c.in-Ok.ensures.sendable c.in-Ok.ensures.short
    c.write_head.new.output.items c.write_rest.new.output.items c.in-Ok.ensures.text (rw c.in-Ok.ensures.next at sent.text)
    c.write_rest.new.server (rw c.in-Ok.ensures.next at sent.next) (λ closed. let wrong = c.is_closed.ensures.1 closed in cc) in
    record {
      holds = holds_open _ _ runs;
      less = λ _. less;
      rests = λ wrong. cc;
    }
