use Rattle.std.proofs.Common.{rules, ◌≤◌, ◌*◌, length, sym, ap, subst, arith, length-drop, inr}
use Rattle.dav_wire.specs.Place.{place, HasEnd}
use Rattle.dav_wire.proofs.Events.{head_found, piece_found, end_found, nothing_found, unreadable}
use Rattle.dav_wire.proofs.intake.Intake.read.Goals as goal

pub returns-in-Err-clause-finds : goal.returns-in-Err-clause-finds
returns-in-Err-clause-finds c = λ stream interim x.
    let p = place c.args.self.now in
    let why = unreadable p stream interim c.in-Err.error x (rw (c.as_slice.ensures, c.requires) at c.in-Err.ensures.err) in
    (why, inr (inr why.0), tt)

pub returns-in-Head-clause-finds : goal.returns-in-Head-clause-finds
returns-in-Head-clause-finds c = λ stream interim x.
    c.begin.ensures.finds stream interim
    (head_found (place c.args.self.now) stream interim c.read.new.headers c.read.new.self c.in-Ok.read
    (rw c.as_slice.ensures at c.in-Ok.ensures.ok) c.in-Head.head x c.in-Head.is (search rules))

pub returns-in-Head-clause-fails : goal.returns-in-Head-clause-fails
returns-in-Head-clause-fails c = λ stream interim x.
    c.begin.ensures.fails stream interim
    (head_found (place c.args.self.now) stream interim c.read.new.headers c.read.new.self c.in-Ok.read
    (rw c.as_slice.ensures at c.in-Ok.ensures.ok) c.in-Head.head x c.in-Head.is (search rules))

pub returns-in-Data-clause-finds : goal.returns-in-Data-clause-finds
returns-in-Data-clause-finds c = λ stream interim x.
    c.add.ensures.finds stream interim
    (piece_found (place c.args.self.now) stream interim c.read.new.headers c.read.new.self c.in-Ok.read
    (rw c.as_slice.ensures at c.in-Ok.ensures.ok) c.in-Data.piece x c.in-Data.is)

pub returns-in-Data-clause-fails : goal.returns-in-Data-clause-fails
returns-in-Data-clause-fails c = λ stream interim x.
    c.add.ensures.fails stream interim
    (piece_found (place c.args.self.now) stream interim c.read.new.headers c.read.new.self c.in-Ok.read
    (rw c.as_slice.ensures at c.in-Ok.ensures.ok) c.in-Data.piece x c.in-Data.is)

pub returns-in-End-clause-finds : goal.returns-in-End-clause-finds
returns-in-End-clause-finds c = λ stream interim x.
    let i = c.args.self.now in
    let less : 2 * length c.advance.new.self.items ≤ 2 * length i.input.items =
    omega (arith, ap length c.advance.ensures.items, length-drop c.in-Ok.read.consumed i.input.items) in
    c.finish.ensures.finds stream interim _ (omega (arith, less))
    (subst (λ u. HasEnd (record (place i) { server = c.read.new.self; unread = u }) stream) (sym c.advance.ensures.items)
    (end_found (place i) stream interim c.read.new.headers c.read.new.self c.in-Ok.read
    (rw c.as_slice.ensures at c.in-Ok.ensures.ok) c.in-End.field-0 x c.in-End.is))

pub returns-in-End-clause-fails : goal.returns-in-End-clause-fails
returns-in-End-clause-fails c = λ stream interim x.
    let i = c.args.self.now in
    c.finish.ensures.fails stream
    (subst (λ u. HasEnd (record (place i) { server = c.read.new.self; unread = u }) stream) (sym c.advance.ensures.items)
    (end_found (place i) stream interim c.read.new.headers c.read.new.self c.in-Ok.read
    (rw c.as_slice.ensures at c.in-Ok.ensures.ok) c.in-End.field-0 x c.in-End.is))

pub returns-in_default-clause-finds : goal.returns-in_default-clause-finds
returns-in_default-clause-finds c = λ stream interim x.
    c.pause.ensures.finds stream interim
    (nothing_found (place c.args.self.now) stream interim c.read.new.headers c.read.new.self c.in-Ok.read
    (rw c.as_slice.ensures at c.in-Ok.ensures.ok) x (c.in_default.not-Head, c.in_default.not-Data, c.in_default.not-End))
