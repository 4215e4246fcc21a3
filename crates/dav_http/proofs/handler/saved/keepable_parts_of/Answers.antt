use Rattle.std.proofs.Common.{◌≡◌, true, false, List, sym, subst, ◌∙◌}
use Rattle.dav_core.specs.Locks.{Lock}
use Rattle.dav_core.specs.World.{World}
use Rattle.dav_http.specs.Saved.{AreKeepable}
use Rattle.dav_http.proofs.SavedLaws.{parts_are}
use Rattle.dav_http.proofs.handler.saved.keepable_parts_of.Goals as goal

pub returns-then-not-branch-clause-back : goal.returns-then-not-branch-clause-back
returns-then-not-branch-clause-back c = λ w ls is fits listed keepable bytes.
    let v = c.in_ok-fs.fs.world in
    let ks = c.in_ok-fs.ls in
    let read = c.in_ok-fs.ensures.read in
    let same = parts_are c.args.bytes.now w v ls ks read.0 bytes fits listed read.1 read.2 in
    let first : AreKeepable v ls = subst (λ (x : World). AreKeepable x ls) (sym same.0) keepable in
    let all : AreKeepable v ks = subst (λ (xs : List Lock). AreKeepable v xs) (sym same.1) first in
    let yes = c.in_ok-are_keepable.ensures.1 all in
    let clash : true ≡ false = sym yes ∙ c.if-not-branch.true in cc
