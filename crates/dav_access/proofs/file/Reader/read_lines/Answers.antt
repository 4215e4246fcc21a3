use Rattle.std.proofs.Common.{◌≡◌, ◌+◌, ◌++◌, List, [], arith, subst, sym, take}
use Rattle.std.specs.Option.{option_copied}
use Rattle.dav_access.specs.declared.grant.Grant.{Grant}
use Rattle.dav_access.specs.RulesText.{Grants, Limits, ended}
use Rattle.dav_access.specs.RulesFaults.{HasFirstFault, granted_by}
use Rattle.dav_access.proofs.RulesTextLemmas.{fault_after, fault_as, fault_at, fault_error, grants_done, grants_more}
use Rattle.dav_access.proofs.LimitLemmas.{limits_done, said_grants, said_limits}
use Rattle.dav_access.proofs.file.Reader.read_lines.Goals as goal

pub returns-in-Err : goal.returns-in-Err
returns-in-Err c =
    let users = option_copied c.args.self.now.users in
    let lines = c.args.self.now.lines.now in
    rw c.at.ensures
    (fault_error users lines (c.loop-place.place + 1) c.in-Err.stop
    (fault_as _ _ c.in-Err.stop (λ f. fault_at users lines c.loop-place.place c.line-item.result c.loop-place-test.true c.line-item.is f c.loop-place.invariant.1) c.in-Err.ensures))

pub loop-place-init : goal.loop-place-init
loop-place-init c =
    let users = option_copied c.args.self.now.users in
    let lines = c.args.self.now.lines.now in (
      λ more h. subst (λ (gs : List Grant). Grants users lines [] lines (gs ++ more)) (sym c.new-grants.ensures.items) h,
      λ n f h. let same : 0 + n ≡ n = omega arith in subst (λ k. HasFirstFault users lines [] lines k f) (sym same) h,
      subst (Limits []) (sym c.new-limits.ensures.items) ended,
    )

pub loop-place-preserved : goal.loop-place-preserved
loop-place-preserved c =
    let users = option_copied c.args.self.now.users in
    let lines = c.args.self.now.lines.now in
    let place = c.loop-place.place in
    let said = c.in-Ok.said in
    let good = said_grants users lines (take place lines) c.line-item.result said c.in-Ok.ensures in (
      λ more h. subst (λ (gs : List Grant). Grants users lines [] lines (gs ++ more)) (sym c.in_ok-add-in-Ok.ensures.0)
          (grants_more users lines place c.line-item.result c.loop-place-test.true c.line-item.is c.loop-place.grants.items (granted_by said) more c.loop-place.invariant.0 good h),
      λ n f h. fault_after users lines place c.line-item.result c.loop-place-test.true c.line-item.is (granted_by said) n f c.loop-place.invariant.1 good h,
      said_limits users lines lines (take place lines) place c.line-item.result c.loop-place.limits.items _ said c.loop-place-test.true c.line-item.is c.loop-place.invariant.2 c.in-Ok.ensures
          c.in_ok-add-in-Ok.ensures.1,
    )

pub returns : goal.returns
returns c = (
  subst (Grants (option_copied c.args.self.now.users) c.args.self.now.lines.now [] c.args.self.now.lines.now) (sym c.new.ensures)
      (grants_done (option_copied c.args.self.now.users) c.args.self.now.lines.now c.loop-place.place c.loop-place.grants.items c.loop-place-test.false c.loop-place.invariant.0),
  limits_done c.args.self.now.lines.now c.loop-place.place c.loop-place.limits.items c.loop-place-test.false c.loop-place.invariant.2,
)
