use Rattle.std.proofs.Common.{ap}
use Rattle.dav_wire.specs.Place.{place, history_of}
use Rattle.dav_wire.proofs.Runs.{running}
use Rattle.dav_wire.proofs.Steps.{after_nothing, after_end, after_part, is_at_head, is_given, after_refusal, after_stop, had_work}
use Rattle.dav_wire.proofs.line.Line.step.Goals as goal

pub returns-in-Ok-Nothing-clause-reaches : goal.returns-in-Ok-Nothing-clause-reaches
returns-in-Ok-Nothing-clause-reaches g c = λ x.
    let l = c.args.self.now in
    let r = running (place l.intake) (history_of l) x (c.is_open.ensures.0 c.if-not-is_open.false) in
    let did = c.in-Ok-Nothing.ensures in
    after_nothing l c.read.new.self did.keeps r _
    (rw c.in-Ok-Nothing.field-0-is at (did.finds r.base.rest r.base.interim r.standing))

pub returns-in-Ok-End-clause-reaches : goal.returns-in-Ok-End-clause-reaches
returns-in-Ok-End-clause-reaches g c = λ x.
    let l = c.args.self.now in
    let r = running (place l.intake) (history_of l) x (c.is_open.ensures.0 c.if-not-is_open.false) in
    let did = c.in-Ok-End.ensures in
    after_end l c.read.new.self did.keeps r _ _ _ c.close.ensures.written c.close.ensures.stops
    (rw c.in-Ok-End.field-0-is at (did.finds r.base.rest r.base.interim r.standing))

pub returns-in-Ok-Part-clause-reaches : goal.returns-in-Ok-Part-clause-reaches
returns-in-Ok-Part-clause-reaches g c = λ x.
    let l = c.args.self.now in
    let r = running (place l.intake) (history_of l) x (c.is_open.ensures.0 c.if-not-is_open.false) in
    let did = c.in-Ok-Part.ensures in
    after_part l c.read.new.self did.keeps r _
    (rw c.in-Ok-Part.field-0-is at (did.finds r.base.rest r.base.interim r.standing))

pub returns-in-Ok-Head-clause-reaches : goal.returns-in-Ok-Head-clause-reaches
returns-in-Ok-Head-clause-reaches g c = λ x.
    let l = c.args.self.now in
    let r = running (place l.intake) (history_of l) x (c.is_open.ensures.0 c.if-not-is_open.false) in
    let did = c.in-Ok-Head.ensures in
    let found = rw c.in-Ok-Head.field-0-is at (did.finds r.base.rest r.base.interim r.standing) in
    c.judge.ensures.reaches _ found.2 (is_at_head l c.read.new.self did.keeps r _ _ found)

pub returns-in-Ok-Request-clause-reaches : goal.returns-in-Ok-Request-clause-reaches
returns-in-Ok-Request-clause-reaches g c = λ x.
    let l = c.args.self.now in
    let r = running (place l.intake) (history_of l) x (c.is_open.ensures.0 c.if-not-is_open.false) in
    let did = c.in-Ok-Request.ensures in
    let found = rw c.in-Ok-Request.field-0-is at (did.finds r.base.rest r.base.interim r.standing) in
    c.answer.ensures.reaches _ found.2 (is_given l c.read.new.self did.keeps r _ found)

pub returns-in-Ok-Refused-clause-reaches : goal.returns-in-Ok-Refused-clause-reaches
returns-in-Ok-Refused-clause-reaches g c = λ x.
    let l = c.args.self.now in
    let r = running (place l.intake) (history_of l) x (c.is_open.ensures.0 c.if-not-is_open.false) in
    let did = c.in-Ok-Refused.ensures in
    after_refusal l c.read.new.self did.keeps r _ _ _ _ c.refuse.ensures.written c.refuse.ensures.intake c.refuse.ensures.stops
    (rw c.in-Ok-Refused.field-0-is at (did.finds r.base.rest r.base.interim r.standing))

pub returns-in-Err-clause-reaches : goal.returns-in-Err-clause-reaches
returns-in-Err-clause-reaches g c = λ x.
    let l = c.args.self.now in
    let r = running (place l.intake) (history_of l) x (c.is_open.ensures.0 c.if-not-is_open.false) in
    let did = c.in-Err.ensures in
    after_stop l c.read.new.self did.keeps r _ _ _ c.abort.ensures.written (ap (λ t. t.config) c.abort.ensures.intake) c.abort.ensures.stops
    (had_work l c.read.new.self did.keeps r (did.fails r.base.rest r.base.interim r.standing))
