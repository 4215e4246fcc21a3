use Rattle.std.proofs.Common.{◌≡◌, ◌≢◌, [], length, ap, arith}
use Rattle.std.proofs.lemmas.Bool.Decides.{nat_tests}
use Rattle.dav_core.proofs.CutOnce.{cuts_start, cuts_whole, cuts_slash, cuts_inside, cuts_other}
use Rattle.dav_core.proofs.davpath.ends.lacks_slash.Goals as goal

pub returns-in_default : goal.returns-in_default
returns-in_default c =
    let some : c.args.prefix.now ≢ [] = λ e. let empty : length c.args.prefix.now ≡ 0 = ap length e in grind (arith, nat_tests) in
    cuts_other c.args.prefix.now c.args.bytes.now some c.in_default.ensures

pub returns-then-is_empty-2 : goal.returns-then-is_empty-2
returns-then-is_empty-2 c =
    let some : c.args.prefix.now ≢ [] = λ e. let empty : length c.args.prefix.now ≡ 0 = ap length e in grind (arith, nat_tests) in
    cuts_whole c.args.prefix.now c.args.bytes.now c.in-Some.rest.now some c.in-Some.ensures (grind (arith, nat_tests))

pub returns-then-rest-eq47 : goal.returns-then-rest-eq47
returns-then-rest-eq47 c =
    let some : c.args.prefix.now ≢ [] = λ e. let empty : length c.args.prefix.now ≡ 0 = ap length e in grind (arith, nat_tests) in
    cuts_slash c.args.prefix.now c.args.bytes.now c.in-Some.rest.now some c.in-Some.ensures (grind (arith, nat_tests)) c.if-rest-eq47.true

pub returns-else-rest-eq47 : goal.returns-else-rest-eq47
returns-else-rest-eq47 c =
    let some : c.args.prefix.now ≢ [] = λ e. let empty : length c.args.prefix.now ≡ 0 = ap length e in grind (arith, nat_tests) in
    cuts_inside c.args.prefix.now c.args.bytes.now c.in-Some.rest.now some c.in-Some.ensures (grind (arith, nat_tests)) c.if-rest-eq47.false

pub returns-then-is_empty : goal.returns-then-is_empty
returns-then-is_empty c = cuts_start c.args.prefix.now c.args.bytes.now (grind (arith, nat_tests))
