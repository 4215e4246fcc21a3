use Rattle.std.proofs.Common.{rules, ◌≡◌, ℕ, List, ◌++◌, drop, length, ap, ◌∙◌, arith, length-append}
use Rattle.httparse.specs.Spans.{span_bytes}
use Rattle.dav_wire.specs.Place.{place}
use Rattle.dav_wire.proofs.Events.{piece_refused, piece_taken}
use Rattle.dav_wire.proofs.intake.Intake.add.Goals as goal

pub returns-in-Some-clause-finds : goal.returns-in-Some-clause-finds
returns-in-Some-clause-finds c = λ stream interim x.
    let i = c.args.self.now in
    let piece : c.of.result.now ≡ span_bytes i.input.items c.args.piece =
    c.of.ensures ∙ ap (λ u. span_bytes u c.args.piece) (c.as_slice.ensures ∙ ap (λ k. k.input.items) c.follow.ensures) in
    piece_refused x (place c.follow.new.self) (place c.weigh.new.self) c.in-Some.why c.args.room _ i.ended
    (ap place c.follow.ensures) (ap place c.in-Some.ensures.1)
    (omega (
      arith,
      c.len.ensures,
      ap (λ k. length k.body.items) c.follow.ensures,
      ap length piece,
      length-append i.body.items (span_bytes i.input.items c.args.piece),
    )) c.in-Some.ensures.0

pub returns-clause-finds : goal.returns-clause-finds
returns-clause-finds c = λ stream interim x.
    let i = c.args.self.now in
    let followed = c.follow.ensures in
    let weighed = c.in_default.ensures.2 in
    let piece : c.of.result.now ≡ span_bytes i.input.items c.args.piece =
    c.of.ensures ∙ ap (λ u. span_bytes u c.args.piece) (c.as_slice.ensures ∙ ap (λ k. k.input.items) followed) in
    let input : c.weigh.new.self.input.items ≡ i.input.items = ap (λ k. k.input.items) weighed ∙ ap (λ k. k.input.items) followed in
    let body : c.weigh.new.self.body.items ≡ i.body.items = ap (λ k. k.body.items) weighed ∙ ap (λ k. k.body.items) followed in
    let bytes : c.of-bytes.result.now ≡ span_bytes i.input.items c.args.piece =
    c.of-bytes.ensures ∙ ap (λ u. span_bytes u c.args.piece) (c.as_slice-2.ensures ∙ input) in
    let grown : c.extend_from_slice.new.self.items ≡ c.weigh.new.self.body.items ++ c.of-bytes.result.now = search rules in
    piece_taken x (place c.follow.new.self) (place c.weigh.new.self) _ c.advance.new.self.items c.extend_from_slice.new.self.items
    (ap place followed) (ap place weighed)
    (omega (
      arith,
      c.len.ensures,
      ap (λ k. length k.body.items) followed,
      ap length piece,
      length-append i.body.items (span_bytes i.input.items c.args.piece),
    )) c.in_default.ensures.0
    (c.advance.ensures.items ∙ ap (λ (t : List ℕ). drop c.args.piece.end t) input)
    (grown ∙ (λ k. body k ++ bytes k))
    (search rules)
