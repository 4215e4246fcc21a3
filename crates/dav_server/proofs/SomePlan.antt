-- No request is without a plan.
use Rattle.std.proofs.Common.{◌≡◌, ◌≢◌, ℕ, List, Result, Ok, Err, refl}
use Rattle.dav_core.specs.declared.errors.DavError.{DavError}
use Rattle.dav_core.specs.declared.errors.DavError.TheVariants as dav
use Rattle.dav_core.specs.declared.method.DavMethod.{DavMethod}
use Rattle.dav_core.specs.declared.method.DavMethod.TheVariants.{Get, Head, Put, Patch, Options, MkCol, Copy, Move, Delete, PropFind, PropPatch, Lock, Unlock, Report, MkCalendar, MkAddressbook}
use Rattle.dav_core.specs.Method.{method_name, Has}
use Rattle.dav_core.specs.Path.{PathText, names, HasNoCut, star, without_slash}
use Rattle.dav_core.specs.Target.{Reads}
use Rattle.dav_core.proofs.Theorems.{read_or_refused}
use Rattle.dav_engine.specs.declared.request.Body.{Body}
use Rattle.dav_engine.specs.Caller.{Caller}
use Rattle.dav_engine.specs.Headers.{Headers}
use Rattle.dav_engine.specs.Method.{MethodPlan, fails}
use Rattle.dav_engine.specs.Options.{options}
use Rattle.dav_engine.specs.Reply.{Reply}
use Rattle.dav_engine.proofs.Theorems.{some_conditions, some_put_plan, some_mkcol_plan, some_copymove_plan, some_delete_plan, some_lock_plan, some_unlock_plan, some_propfind_plan, some_proppatch_plan}
use Rattle.dav_server.specs.Get.{get, IsGet, is_get}
use Rattle.dav_server.specs.Head.{Request, IsHead}
use Rattle.dav_server.specs.Headers.{headers_of}
use Rattle.dav_server.specs.Machine.{Settings, Exchange, caller, taken_by, body_for, PlanOf, gets, heads, puts, patches, makes, deletes, copies, moves, offers, finds_properties, sets_properties, locks, releases, MeansOf, not_allowed, no_path, no_body, method, no_head, no_method, known}
use Rattle.dav_server.specs.Method.{IsServed}
use Rattle.dav_server.specs.Run.{RequestsHavePlans}
use Rattle.dav_server.specs.Target.{HasPathText, formless, invalid, climbing, TargetNames, server, reserved, unreadable, outside, path}

-- no target is without an outcome
some_outcome : (prefix : List ℕ) (m : DavMethod) (target : List ℕ) → ¬ ((r : Result PathText DavError) → ¬ TargetNames prefix m target r)
some_outcome prefix m target unnamed =
    let apart : target ≢ star = λ is. unnamed (Err (dav.Status 400)) (reserved is (λ options. unnamed _ (server is options))) in
    let textless : (text : List ℕ) → ¬ HasPathText target text = λ text has.
    let unread : (bytes : List ℕ) → ¬ Reads text bytes = λ bytes reads.
    let uncut : HasNoCut (without_slash prefix) bytes = λ p cut. unnamed (Ok p) (path has reads cut) in
    unnamed (Err dav.IllegalPath) (outside has reads uncut) in
    read_or_refused text unread
    (λ bad. unnamed (Err dav.InvalidPath) (unreadable apart (invalid has bad)))
    (λ climbs. unnamed (Err dav.ForbiddenPath) (unreadable apart (climbing has climbs))) in
    unnamed (Err (dav.Status 400)) (unreadable apart (formless textless))

some_get : (m : DavMethod) (headers : Headers) (p : PathText) (now : ℕ) → ¬ ((plan : MethodPlan Reply) → ¬ IsGet m headers p now plan)
some_get m headers p now without =
    some_conditions headers p.prefix (names p) (λ c is. without (get m c (names p) now) (is_get c is))

-- no method that is served is without a plan
some_plan_of : (allowed : ℕ) (headers : Headers) (p : PathText) (body : Body) (who : Caller) (m : DavMethod) → IsServed m → ¬ ((plan : MethodPlan Reply) → ¬ PlanOf allowed headers p body who m plan)
some_plan_of allowed headers p body who Get is without = some_get Get headers p who.moment (λ plan is. without plan (gets is))
some_plan_of allowed headers p body who Head is without = some_get Head headers p who.moment (λ plan is. without plan (heads is))
some_plan_of allowed headers p body who Put is without = some_put_plan Put headers p body who (λ plan is. without plan (puts is))
some_plan_of allowed headers p body who Patch is without = some_put_plan Patch headers p body who (λ plan is. without plan (patches is))
some_plan_of allowed headers p body who MkCol is without = some_mkcol_plan headers p who (λ plan is. without plan (makes is))
some_plan_of allowed headers p body who Delete is without = some_delete_plan headers p who (λ plan is. without plan (deletes is))
some_plan_of allowed headers p body who Copy is without = some_copymove_plan Copy headers p who (λ plan is. without plan (copies is))
some_plan_of allowed headers p body who Move is without = some_copymove_plan Move headers p who (λ plan is. without plan (moves is))
some_plan_of allowed headers p body who Options is without = without (options allowed p) offers
some_plan_of allowed headers p body who PropFind is without = some_propfind_plan headers p body who (λ plan is. without plan (finds_properties is))
some_plan_of allowed headers p body who PropPatch is without = some_proppatch_plan headers p body who (λ plan is. without plan (sets_properties is))
some_plan_of allowed headers p body who Lock is without = some_lock_plan headers p body who (λ plan is. without plan (locks is))
some_plan_of allowed headers p body who Unlock is without = some_unlock_plan headers p who (λ plan is. without plan (releases is))
some_plan_of allowed headers p body who Report is without = is
some_plan_of allowed headers p body who MkCalendar is without = is
some_plan_of allowed headers p body who MkAddressbook is without = is

-- nor a request whose head, method and path are known, whatever its body is
some_with_body : (s : Settings) (x : Exchange) (r : Request) (m : DavMethod) (p : PathText) → IsServed m → Has s.allowed m → TargetNames s.prefix m r.target (Ok p)
    → (given : Result Body DavError) → body_for (taken_by m) x.body ≡ given → ¬ ((plan : MethodPlan Reply) → ¬ MeansOf s x r m plan)
some_with_body s x r m p served has named (Err e) is without = without (fails e) (no_body p e has named is)
some_with_body s x r m p served has named (Ok body) is without =
    some_plan_of s.allowed (headers_of r.fields) p body (caller x) m served (λ plan planned. without plan (method p body has named is planned))

-- nor one whose head and method are known, whatever its target names
some_with_target : (s : Settings) (x : Exchange) (r : Request) (m : DavMethod) → IsServed m → Has s.allowed m → (outcome : Result PathText DavError) → TargetNames s.prefix m r.target outcome
    → ¬ ((plan : MethodPlan Reply) → ¬ MeansOf s x r m plan)
some_with_target s x r m served has (Err e) named without = without (fails e) (no_path e has named)
some_with_target s x r m served has (Ok p) named without =
    some_with_body s x r m p served has named (body_for (taken_by m) x.body) refl without

some_means_of : (s : Settings) (x : Exchange) (r : Request) (m : DavMethod) → IsServed m → ¬ ((plan : MethodPlan Reply) → ¬ MeansOf s x r m plan)
some_means_of s x r m served without =
    let barred : ¬ Has s.allowed m = λ has. some_outcome s.prefix m r.target (λ outcome named. some_with_target s x r m served has outcome named without) in
    without (fails (dav.StatusClose 405)) (not_allowed barred)

pub requests_have_plans : RequestsHavePlans
requests_have_plans s x without =
    let headless : (r : Request) → ¬ IsHead x.head r = λ r is.
    let unknown : (m : DavMethod) → IsServed m → r.method ≢ method_name m = λ m served named.
    some_means_of s x r m served (λ plan means. without plan (known r m is (served, named) means)) in
    without (fails dav.UnknownDavMethod) (no_method r dav.UnknownDavMethod is (refl, unknown)) in
    without (fails (dav.Status 400)) (no_head headless)
