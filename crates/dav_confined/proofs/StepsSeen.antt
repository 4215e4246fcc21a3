-- A request that only reads is answered alike where what it reads is alike.
use Rattle.std.proofs.Common.{◌≡◌, ◌≢◌, ◌≤◌, append-nil, Bool, true, false, true≢false, List, [], Some, None, Ok, Err, refl, sym, ap, subst}
use Rattle.dav_core.specs.declared.method.DavMethod.{DavMethod}
use Rattle.dav_core.specs.declared.method.DavMethod.TheVariants.{Get, Head, Options}
use Rattle.dav_core.specs.Asking.{StoreState, Asks}
use Rattle.dav_core.specs.Path.{Path, PathText, names}
use Rattle.dav_core.specs.World.{last_moment}
use Rattle.dav_engine.specs.declared.request.Body.{Body}
use Rattle.dav_engine.specs.Method.{MethodPlan}
use Rattle.dav_engine.specs.Plan.{Ran}
use Rattle.dav_engine.specs.Reply.{Reply, reply_to}
use Rattle.dav_confined.specs.Seen.{ReadsSeen, seen_done}
use Rattle.dav_engine.proofs.FaultLemmas.{at_path}
use Rattle.dav_confined.proofs.SeenLemmas.{readers_agree, options_reads_seen}
use Rattle.dav_confined.proofs.SeenPropfind.{propfind_reads_seen}
use Rattle.dav_server.specs.Head.{Request, IsHead}
use Rattle.dav_server.specs.Headers.{headers_of}
use Rattle.dav_server.specs.Holder.{IsRequestTo}
use Rattle.dav_server.specs.Machine.{Settings, Exchange, caller, PlanOf, gets, heads, puts, patches, makes, deletes, copies, moves, offers, finds_properties, sets_properties, locks, releases, MeansOf, not_allowed, no_path, no_body, method, Means, no_head, no_method, known, steps}
use Rattle.dav_server.specs.Method.{GivesServed}
use Rattle.dav_confined.specs.SeenSteps.{ReadsAt, StepsAnswerAlike}
use Rattle.dav_server.proofs.MeansLemmas.{one_means}
use Rattle.dav_server.proofs.MeansWorld.{target_storable}
use Rattle.dav_confined.proofs.SeenGet.{get_reads_seen}
use Rattle.dav_server.proofs.TargetLemmas.{target_is_path}

module _ (seen : Path → Bool) (s : Settings) (x : Exchange) (reads : ReadsAt seen s x) (small : x.moment ≤ last_moment) where
  here : (r : Request) (m : DavMethod) (p : PathText) → IsRequestTo s x r m p → seen (names p) ≡ true
  here r m p to = reads.target r m p to (names p) (at_path (names p) (names p) [] (sym (append-nil (names p))))

  plan_reads : (r : Request) {p : PathText} {body : Body} {m : DavMethod} {plan : MethodPlan Reply} → IsRequestTo s x r m p → PlanOf s.allowed (headers_of r.fields) p body (caller x) m plan → ReadsSeen seen None plan
  plan_reads r {p = p} {plan = plan} to (gets is) = get_reads_seen seen Get (headers_of r.fields) p (caller x).moment plan (target_storable to.target) small (here r Get p to) (λ lists. reads.conditions r Get p lists to) is
  plan_reads r {p = p} {plan = plan} to (heads is) = get_reads_seen seen Head (headers_of r.fields) p (caller x).moment plan (target_storable to.target) small (here r Head p to) (λ lists. reads.conditions r Head p lists to) is
  plan_reads r {p} to offers = options_reads_seen seen s.allowed p (here r Options p to)
  plan_reads r {p = p} {body} {m} {plan = plan} to (finds_properties is) = propfind_reads_seen seen (headers_of r.fields) p body (caller x) plan (target_is_path to.target (λ e. cc)) (reads.target r m p to) is
  plan_reads r {p = p} {m = m} to (puts is) = absurd (true≢false (sym (reads.safe r m p to)))
  plan_reads r {p = p} {m = m} to (patches is) = absurd (true≢false (sym (reads.safe r m p to)))
  plan_reads r {p = p} {m = m} to (makes is) = absurd (true≢false (sym (reads.safe r m p to)))
  plan_reads r {p = p} {m = m} to (deletes is) = absurd (true≢false (sym (reads.safe r m p to)))
  plan_reads r {p = p} {m = m} to (copies is) = absurd (true≢false (sym (reads.safe r m p to)))
  plan_reads r {p = p} {m = m} to (moves is) = absurd (true≢false (sym (reads.safe r m p to)))
  plan_reads r {p = p} {m = m} to (sets_properties is) = absurd (true≢false (sym (reads.safe r m p to)))
  plan_reads r {p = p} {m = m} to (locks is) = absurd (true≢false (sym (reads.safe r m p to)))
  plan_reads r {p = p} {m = m} to (releases is) = absurd (true≢false (sym (reads.safe r m p to)))

  of_reads : (r : Request) {m : DavMethod} {plan : MethodPlan Reply} → IsHead x.head r → GivesServed r.method (Ok m) → MeansOf s x r m plan → ReadsSeen seen None plan
  of_reads r head gives (not_allowed out) = seen_done
  of_reads r head gives (no_path e has none) = seen_done
  of_reads r head gives (no_body p e has named bad) = seen_done
  of_reads r head gives (method p body has named good plan) = plan_reads r (record { head = head; method = gives; target = named }) plan

  means_reads : {plan : MethodPlan Reply} → Means s x plan → ReadsSeen seen None plan
  means_reads (no_head out) = seen_done
  means_reads (no_method r e head gives) = seen_done
  means_reads (known r m head gives means) = of_reads r head gives means

pub steps_answer_alike : StepsAnswerAlike
steps_answer_alike seen s x old new old' new' ls ks ms ns reply reply' reads small (steps plan a means one) (steps plan' b means' two) u u' same world world' agree alike =
    ap reply_to (readers_agree seen plan old new old' new' ls ks ms ns a b (means_reads seen s x reads small means) one
    (subst (λ (q : MethodPlan Reply). Ran Asks q old' (Some ks) b new' ns) (sym (one_means means means')) two) u u' same world world' agree alike)
