use Rattle.std.proofs.Common.{◌∙◌, List, map, string_bytes, subst}
use Rattle.std.specs.Option.{option_copied}
use Rattle.dav_core.specs.Path.{PathText, names}
use Rattle.dav_core.specs.Locks.{Lock, Requester, Checks, requester_of, free, lent}
use Rattle.dav_store.specs.LockIndex.{IsIndexOf, MattersAlone}
use Rattle.dav_store.proofs.IndexCalls.{free_where_none, checked_alone}
use Rattle.dav_store.proofs.memls.MemLsDavLockSystem.check.Goals as goal

pub returns-then-not-may_matter : goal.returns-then-not-may_matter
returns-then-not-may_matter c =
    let indexed = subst (λ (ls : List Lock). IsIndexOf c.self.inside.index ls) c.self.view_is c.self.invariant in
    free (free_where_none c.args.deep (requester_of (map string_bytes c.args.tokens.now) c.args.ignore_principal (option_copied c.args.principal)) (names c.args.path.now) c.args.self.now
    (c.may_matter.ensures c.args.self.now indexed c.if-not-may_matter.true))

pub returns-in-Some : goal.returns-in-Some
returns-in-Some c =
    let who : Requester = requester_of (map string_bytes c.args.tokens.now) c.args.ignore_principal (option_copied c.args.principal) in
    let answer = lent c.check_in.result in
    let alone =
    subst (λ (ls : List Lock). MattersAlone c.args.deep (names c.new.result) c.in-Some.kept.now ls) (c.deref.ensures.value ∙ c.self.view_is) c.in-Some.ensures in
    let checks = subst (λ (ls : List Lock). Checks c.args.deep who (names c.new.result) ls answer) c.from_ref.ensures.value c.check_in.ensures in
    subst (λ (p : PathText). Checks c.args.deep who (names p) c.args.self.now answer) c.new.ensures
    (checked_alone c.args.deep who (names c.new.result) c.in-Some.kept.now c.args.self.now answer alone checks)
