use Rattle.std.proofs.Common.{◌≡◌, refl, arith}
use Rattle.std.proofs.lemmas.Bool.Decides.{nat_tests}
use Rattle.std.specs.Fmt.{digits}
use Rattle.httparse.specs.Grammar.{print_response}
use Rattle.dav_wire.specs.Refusals.{known_status}
use Rattle.dav_wire.proofs.state.closing_head.Goals as goal

pub returns-in-413 : goal.returns-in-413
unfolding print_response digits
returns-in-413 c = rw c.in-413.is refl

pub returns-in-414 : goal.returns-in-414
unfolding print_response digits
returns-in-414 c = rw c.in-414.is refl

pub returns-in-431 : goal.returns-in-431
unfolding print_response digits
returns-in-431 c = rw c.in-431.is refl

pub returns-in-500 : goal.returns-in-500
unfolding print_response digits
returns-in-500 c = rw c.in-500.is refl

pub returns-in-501 : goal.returns-in-501
unfolding print_response digits
returns-in-501 c = rw c.in-501.is refl

pub returns-in-403 : goal.returns-in-403
unfolding print_response digits
returns-in-403 c = rw c.in-403.is refl

pub returns-in-415 : goal.returns-in-415
unfolding print_response digits
returns-in-415 c = rw c.in-415.is refl

pub returns-in-421 : goal.returns-in-421
unfolding print_response digits
returns-in-421 c = rw c.in-421.is refl

pub returns-in-429 : goal.returns-in-429
unfolding print_response digits
returns-in-429 c = rw c.in-429.is refl

pub returns-in-503 : goal.returns-in-503
unfolding print_response digits
returns-in-503 c = rw c.in-503.is refl

pub returns-in-401 : goal.returns-in-401
unfolding print_response digits
returns-in-401 c = rw c.in-401.is refl

pub returns-in_default : goal.returns-in_default
unfolding print_response digits
returns-in_default c =
    let other : known_status c.args.status ≡ 400 = grind (arith, nat_tests) in
    rw other refl
