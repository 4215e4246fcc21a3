-- What a live server keeps when it answers and hears.
use Rattle.std.proofs.Common.{◌≡◌, inr, ℕ, Result, Ok, Err, OnOk, MatchOption, ◌⊎◌, inl, [], Bool, IsFalse, IsTrue, String, option_map, string_bytes, List, Option, Some, None, refl, sym, ap, subst, ◌∙◌}
use Rattle.std.specs.Global.{Global}
use Rattle.http_server.specs.declared.response.Response.{Response}
use Rattle.dav_kept.specs.Kept.{Holding, held_by}
use Rattle.dav_kept.specs.declared.kept.Kept.{Kept}
use Rattle.dav_kept.specs.Records.{RequestView}
use Rattle.dav_kept.specs.declared.handler.Effect.TheVariants.{Left}
use Rattle.http_server.specs.Response.{IsResponse}
use Rattle.dav_server.specs.Head.{IsHead, Request}
use Rattle.dav_wire.specs.declared.answer.Asked.{Asked}
use Rattle.dav_access.specs.Rules.{Rules}
use Rattle.dav_access.specs.declared.limit.Limit.{Limit}
use Rattle.dav_live.specs.Full.{IsUnrun}
use Rattle.dav_live.specs.Admission.{AdmissionView, HasLeaveIn, IsLookOf, IsRequestOf, IsTokenFor, after_clocks, next, none, request_in}
use Rattle.dav_live.specs.declared.admission.Admitted.{Admitted}
use Rattle.dav_live.specs.Numbered.{HasNumber}
use Rattle.dav_live.specs.Runs.{GoesOn}
use Rattle.dav_http.specs.Refused.{Tells}
use Rattle.dav_http.specs.Uploaded.{BringsTime, time_body, time_head}
use Rattle.dav_http.specs.declared.uploaded.TimeRequest.{TimeRequest}
use Rattle.dav_live.specs.Serving.{EndsLocks, IsAccepted, IsEnded, IsPassed, IsResponseTo, IsRun, IsRunWhole, IsTimed, StaysAll, admission_of, belonging_to, run, answered, held_of, kept_of, logins_of, one, own_request, shown_way, not_run, told, untold, without_leave}
use Rattle.dav_live.specs.declared.service.Service.{Service}

module _ {S : Type 0} (answers : S → RequestView → Response → S → Type 0) where
  -- a request that only reads was answered
  pub looked : (old new : Holding S) (q : RequestView) (own : Response) → answers old.state q own new.state → new ≡ old → IsRun answers old q own new
  looked old new q own is held = answered Left (record { is_answer = is; held = held })

-- ---- tokens, and the ends of locks

pub number_of : (random : List ℕ) (number : ℕ) (method body : List ℕ) (token : Option (List ℕ)) → IsTokenFor random number method body token → HasNumber number token
number_of random number method body _ (next lock some number_is) = number_is
number_of random number method body _ (none other) = tt

pub ends_at : {H : Type 0} (ends : H → ℕ → Option (List ℕ) → Type 0) (s t : H) (n m : ℕ) (o : Option (String Global)) (h : String Global) (head : List ℕ)
    → ends s n (option_map string_bytes o) → s ≡ t → n ≡ m → o ≡ Some h → head ≡ string_bytes h → ends t m (Some head)
ends_at {H} ends s t n m o h head is state moment some text =
    subst (λ (b : List ℕ). ends t m (Some b)) (sym text)
    (subst (λ (x : H). ends x m (Some (string_bytes h))) state
    (subst (λ (k : ℕ). ends s k (Some (string_bytes h))) moment (subst (λ (x : Option (String Global)). ends s n (option_map string_bytes x)) some is)))

-- a lock more was ended
pub ends_one : {S : Type 0} (answers : S → RequestView → Response → S → Type 0) (ends : S → ℕ → Option (List ℕ) → Type 0) (a b : AdmissionView) (old mid new : Holding S)
    → EndsLocks answers ends a.moment old mid → b ≡ a
    → (head : List ℕ) × (sent : Response) × ends mid.state b.moment (Some head) × IsRun answers mid (own_request b.moment head) sent new × (sent.status ≡ 204)
    → EndsLocks answers ends a.moment old new
ends_one answers ends a b old mid new so same it =
    let moment = ap (λ (x : AdmissionView). x.moment) same in
    one it.0 it.1 so (subst (λ (n : ℕ). ends mid.state n (Some it.0)) moment it.2)
    (subst (λ (n : ℕ). IsRun answers mid (own_request n it.0) it.1 new) moment it.3) it.4

pub not_both : (b : Bool) → IsFalse b → IsTrue b → ⊥
not_both b is_false is_true = cc

-- ---- results

pub holds_on : {T E P : Type 0} (r : Result T E) → P → OnOk r P
holds_on (Ok x) p = p
holds_on (Err e) p = tt

pub on_ok : {T E P Q : Type 0} (r : Result T E) → (P → Q) → OnOk r P → OnOk r Q
on_ok (Ok x) f p = f p
on_ok (Err e) f p = tt

pub at_none : {A N : Type 0} (P : A → Type 0) (o : Option A) → o ≡ None → MatchOption o N P → N
at_none {A} {N} P o e m = subst (λ (t : Option A). MatchOption t N P) e m

-- ---- a moment passes

pub passed_later : {T E H J : Type 0} (answers : H → RequestView → Response → H → Type 0) (is_clean : J → Type 0) (kept : J → List (List ℕ) → Type 0)
    (ends : H → ℕ → Option (List ℕ) → Type 0) (r : Result T E) (old noted new : Service H J) (seconds date : ℕ) (a : AdmissionView)
    → StaysAll old noted → logins_of noted ≡ logins_of old → a ≡ after_clocks (admission_of noted) seconds date
    → OnOk r ((mid : Holding H) × EndsLocks answers ends a.moment (held_of noted) mid × IsEnded answers ends a.moment mid (held_of new))
    → OnOk r (admission_of new ≡ a) → OnOk r (logins_of new ≡ logins_of noted) → OnOk r (GoesOn answers is_clean kept (kept_of noted) (kept_of new)) → OnOk r (IsPassed answers is_clean kept ends old seconds date new)
passed_later {T} {E} {H} {J} answers is_clean kept ends (Ok x) old noted new seconds date a stays logins later ended same known goes =
    let moment : a.moment ≡ (admission_of new).moment = sym (ap (λ (v : AdmissionView). v.moment) same) in
    record {
      clocks = same ∙ later ∙ ap (λ (v : AdmissionView). after_clocks v seconds date) stays.0;
      logins = known ∙ logins;
      ended = inr (
        ended.0,
        subst (λ (h : Holding H). EndsLocks answers ends (admission_of new).moment h ended.0) (ap (λ (k : Kept H J). held_by k) stays.1)
            (subst (λ (n : ℕ). EndsLocks answers ends n (held_of noted) ended.0) moment ended.1),
        subst (λ (n : ℕ). IsEnded answers ends n ended.0 (held_of new)) moment ended.2,
      );
      goes_on = subst (λ (k : Kept H J). GoesOn answers is_clean kept k (kept_of new)) stays.1 goes;
    }
passed_later answers is_clean kept ends (Err e) old noted new seconds date a stays logins later ended same known goes = tt

-- ---- a request that was admitted

pub ran_or_not : {S : Type 0} (answers : S → RequestView → Response → S → Type 0) (refuses : Option Rules → List Limit → S → Request → RequestView → ℕ → Type 0) (looks : Rules → S → RequestView → Response → Type 0) (a b : AdmissionView) (old new noted : Holding S)
    (asked : Asked) (r : Request) (admitted : Admitted) (own : Response) → IsHead asked.head r → IsRequestOf a old.tokens r asked.body (request_in a admitted asked.body) → b ≡ a → noted ≡ new
    → ((status : ℕ) × refuses b.rules b.limits old.state r (request_in b admitted asked.body) status × IsUnrun status own × (new ≡ old))
    ⊎ (((status : ℕ) → ¬ refuses b.rules b.limits old.state r (request_in b admitted asked.body) status) × IsRunWhole answers b old (request_in b admitted asked.body) own new)
    → IsResponseTo answers refuses looks a old asked own noted
ran_or_not answers refuses looks a b old new noted asked r admitted own is request same noted-is (inl (status, refused, answer, left)) =
    not_run r (request_in a admitted asked.body) status is request (subst (λ (x : AdmissionView). refuses x.rules x.limits old.state r (request_in x admitted asked.body) status) same refused) answer (noted-is ∙ left)
ran_or_not {S} answers refuses looks a b old new noted asked r admitted own is request same noted-is (inr (may, ran)) =
    run r (request_in a admitted asked.body) is request (subst (λ (x : AdmissionView). (status : ℕ) → ¬ refuses x.rules x.limits old.state r (request_in x admitted asked.body) status) same may)
    (subst (λ (h : Holding S). IsRunWhole answers a old (request_in a admitted asked.body) own h) (sym noted-is)
    (subst (λ (x : AdmissionView). IsRunWhole answers x old (request_in x admitted asked.body) own new) same ran))

-- a request that looks at a folder on the way was answered
pub way_shown : {S : Type 0} (answers : S → RequestView → Response → S → Type 0) (refuses : Option Rules → List Limit → S → Request → RequestView → ℕ → Type 0) (looks : Rules → S → RequestView → Response → Type 0) (a b : AdmissionView) (old new noted : Holding S)
    (asked : Asked) (r : Request) (admitted : Admitted) (own : Response) → IsHead asked.head r → IsLookOf a r asked.body (request_in a admitted asked.body) → b ≡ a → noted ≡ new
    → (rules : Rules) × (b.rules ≡ Some rules) × looks rules old.state (request_in b admitted asked.body) own → new ≡ old → IsResponseTo answers refuses looks a old asked own noted
way_shown answers refuses looks a b old new noted asked r admitted own is look same noted-is (rules, some, tells) left =
    shown_way r (request_in a admitted asked.body) rules is look (subst (λ (x : AdmissionView). x.rules ≡ Some rules) same some)
    (subst (λ (x : AdmissionView). looks rules old.state (request_in x admitted asked.body) own) same tells) (noted-is ∙ left)

pub not_refused : {S E : Type 0} (answers : S → RequestView → Response → S → Type 0) (refuses : Option Rules → List Limit → S → Request → RequestView → ℕ → Type 0) (P : Type 0) (lent : Option Rules)
    (limits : List Limit) (a : AdmissionView) (state : S) (old new : Holding S) (came : Request) (q r : RequestView) (own : Response) (status : Option ℕ) (result : Result (Unit {0}) E)
    → lent ≡ a.rules → limits ≡ a.limits → state ≡ old.state → q ≡ r → status ≡ None
    → Tells (refuses lent limits state came q) status → OnOk result (IsRunWhole answers a old q own new)
    → OnOk result (P ⊎ (((n : ℕ) → ¬ refuses a.rules a.limits old.state came r n) × IsRunWhole answers a old r own new))
not_refused {S} answers refuses P lent limits a state old new came q r own status result rules bounds at same nothing tells ran =
    let never : Tells (refuses a.rules a.limits old.state came r) None =
    subst (λ (o : Option Rules). Tells (refuses o a.limits old.state came r) None) rules
    (subst (λ (ls : List Limit). Tells (refuses lent ls old.state came r) None) bounds
    (subst (λ (s : S). Tells (refuses lent limits s came r) None) at
    (subst (λ (v : RequestView). Tells (refuses lent limits state came v) None) same (subst (Tells (refuses lent limits state came q)) nothing tells)))) in
    on_ok result (λ done. inr (never, subst (λ (v : RequestView). IsRunWhole answers a old v own new) same done)) ran

pub refused_by : {S : Type 0} (refuses : Option Rules → List Limit → S → Request → RequestView → ℕ → Type 0) (lent rules : Option Rules) (limits bounds : List Limit) (state was : S) (came : Request) (q r : RequestView)
    (status : Option ℕ) (n : ℕ) → lent ≡ rules → limits ≡ bounds → state ≡ was → q ≡ r → status ≡ Some n → Tells (refuses lent limits state came q) status → refuses rules bounds was came r n
refused_by {S} refuses lent rules limits bounds state was came q r status n of by at same some tells =
    subst (λ (o : Option Rules). refuses o bounds was came r n) of
    (subst (λ (ls : List Limit). refuses lent ls was came r n) by
    (subst (λ (s : S). refuses lent limits s came r n) at
    (subst (λ (v : RequestView). refuses lent limits state came v n) same (subst (Tells (refuses lent limits state came q)) some tells))))

-- ---- the time of a file that was put

-- the request by which a time is set, of a head with this status: none where there is no such time
abbrev pub TellsRequest : List ℕ → ℕ → Option TimeRequest → Type 0
TellsRequest head status found =
    MatchOption found ((r : Request) (time : ℕ) → IsHead head r → ¬ BringsTime r status time)
    (λ t. (r : Request) × (time : ℕ) × IsHead head r × BringsTime r status time × (t.head.items ≡ time_head r) × (t.body ≡ time_body time))

module _ {S : Type 0} (answers : S → RequestView → Response → S → Type 0) (a : AdmissionView) (old : Holding S) (q : RequestView) (own : Response) (status : ℕ) (found : Option TimeRequest) (same : status ≡ own.status)
    (tells : TellsRequest q.head status found) where
  pub untold_time : found ≡ None → IsTimed answers a old q own own old
  untold_time nothing = untold (subst (λ (n : ℕ). (r : Request) (time : ℕ) → IsHead q.head r → ¬ BringsTime r n time) same (subst (TellsRequest q.head status) nothing tells)) refl refl

  module _ (t : TimeRequest) (some : found ≡ Some t) where
    -- the request by which the time is set has no leave
    pub left_time : ¬ HasLeaveIn a q.principal t.head.items → IsTimed answers a old q own own old
    left_time lacks =
        let (r, time, is, brings, head, body) = subst (TellsRequest q.head status) some tells in
        without_leave r time is (subst (λ (n : ℕ). BringsTime r n time) same brings) (λ leave. lacks (subst (HasLeaveIn a q.principal) (sym head) leave)) refl refl

    -- it has, and was run
    pub told_time : (new : Holding S) (said : Response) → HasLeaveIn a q.principal t.head.items → (sent : Response) × IsRun answers old (belonging_to q t.head.items t.body) sent new × IsAccepted sent.status own said
        → IsTimed answers a old q own said new
    told_time new said leave (sent, ran, accepted) =
        let (r, time, is, brings, head, body) = subst (TellsRequest q.head status) some tells in
        told r time sent is (subst (λ (n : ℕ). BringsTime r n time) same brings) (subst (HasLeaveIn a q.principal) head leave)
        (subst (λ (bytes : List ℕ). IsRun answers old (belonging_to q (time_head r) bytes) sent new) body
        (subst (λ (bytes : List ℕ). IsRun answers old (belonging_to q bytes t.body) sent new) head ran)) accepted
