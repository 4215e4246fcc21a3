-- What becomes of a request.
use Rattle.std.proofs.Common.{◌≡◌, ◌≢◌, ◌⊎◌, ◌<◌, ◌^◌, ◌↔◌, ◌==◌, ◌∷◌, ℕ, Bool, false, true, IsTrue, arith, IfOk, IfSome, OnOk, List, [], length, get_or, Option, None, Some, Result, Ok, Err, String, option_map, unwrap_or, codes, inl, inr, refl, sym, subst, string_bytes, true≢false, ◌∙◌}
use Rattle.std.proofs.lemmas.List.Elements.{All-from_get_or}
use Rattle.std.proofs.lemmas.Bool.Decides.{nat_tests}
use Rattle.std.specs.Bool.{Decides}
use Rattle.std.specs.Global.{Global}
use Rattle.dav_core.specs.Path.{PathText}
use Rattle.dav_core.specs.declared.errors.DavError.{DavError}
use Rattle.dav_core.specs.declared.errors.DavError.TheVariants.{IllegalPath, Memory}
use Rattle.dav_core.specs.declared.method.DavMethod.TheVariants.{Get}
use Rattle.dav_engine.specs.declared.request.Body.TheVariants as body
use Rattle.dav_server.specs.Head.{Request}
use Rattle.dav_server.specs.Machine.{Exchange, Settings}
use Rattle.dav_confined.specs.Leave.{HasLeave, Permits}
use Rattle.dav_confined.specs.Sight.{Looks, MayLook}
use Rattle.dav_access.specs.Rules.{Rules}
use Rattle.dav_server.specs.Target.{TargetNames}
use Rattle.dav_server.specs.TargetCode.{GivesPath}
use Rattle.dav_server.proofs.TargetLemmas.{one_outcome}
use Rattle.dav_live.specs.Admission.{AdmissionView, IsDecision, IsTokenFor, HasLeaveIn, IsTurnedAway, LooksIn, bad_port, misdirected, next, unknown, users_for}
use Rattle.dav_live.specs.Hosts.{AsksBadPort, TellsFor, asked_host, value_of}
use Rattle.dav_live.specs.Tokens.{token_text}
use Rattle.dav_access.specs.Principals.{ShowsNoUser}
use Rattle.dav_live.specs.declared.admission.Decision.{Decision}
use Rattle.dav_live.specs.declared.admission.Decision.TheVariants.{Refused}
use Rattle.dav_live.specs.declared.admission.Reason.{Reason}
use Rattle.dav_live.specs.declared.admission.Reason.TheVariants.{BadPort, Misdirected, Unauthorized}
use Rattle.dav_live.specs.declared.admission.RefusedRequest.{RefusedRequest}

module _ (a : AdmissionView) (tokens : ℕ) (came : Request) (bytes : List ℕ) (d : Decision) where
  pub turned_away : (x : RefusedRequest) (reason : Reason) (user : List ℕ) → d ≡ Refused x → x.reason ≡ reason → string_bytes x.user ≡ user
      → IsTurnedAway a came bytes reason user → IsDecision a tokens came bytes d
  turned_away x reason user e reason_is user_is away =
      subst (IsDecision a tokens came bytes) (sym e)
      (subst (λ (r : Reason). IsTurnedAway a came bytes r (string_bytes x.user)) (sym reason_is) (subst (IsTurnedAway a came bytes reason) (sym user_is) away))

  pub for_no_port : (x : RefusedRequest) → d ≡ Refused x → x.reason ≡ BadPort → string_bytes x.user ≡ [] → AsksBadPort (asked_host came)
      → IsDecision a tokens came bytes d
  for_no_port x e reason_is user_is asks = turned_away x BadPort [] e reason_is user_is (bad_port asks)

  pub for_another : (x : RefusedRequest) (hosts : List (List ℕ)) → a.hosts ≡ hosts → d ≡ Refused x → x.reason ≡ Misdirected → string_bytes x.user ≡ []
      → ¬ AsksBadPort (asked_host came) → TellsFor hosts (asked_host came) false → IsDecision a tokens came bytes d
  for_another x hosts same e reason_is user_is port tells =
      turned_away x Misdirected [] e reason_is user_is
      (misdirected port (subst (λ (hs : List (List ℕ)). TellsFor hs (asked_host came) false) (sym same) tells))

  pub of_nobody : (x : RefusedRequest) (hosts : List (List ℕ)) (shown : List ℕ) → a.hosts ≡ hosts → d ≡ Refused x → x.reason ≡ Unauthorized
      → string_bytes x.user ≡ shown → ¬ AsksBadPort (asked_host came) → TellsFor hosts (asked_host came) true
      → ShowsNoUser (users_for a came) (value_of (codes "authorization") came) shown → IsDecision a tokens came bytes d
  of_nobody x hosts shown same e reason_is user_is port tells shows =
      turned_away x Unauthorized shown e reason_is user_is
      (unknown shown port (subst (λ (hs : List (List ℕ)). TellsFor hs (asked_host came) true) (sym same) tells) shows)

-- ---- leave

-- the request of the machine with this head, of this user
abbrev pub exchange_with : List ℕ → Option (List ℕ) → Exchange
exchange_with head who = record { head = head; body = body.None; principal = who; moment = 0; token = None }

-- what is said of each request with a head is said of its leave
pub leave_by : (a : AdmissionView) (rules : Rules) (user : Option (List ℕ)) (head : List ℕ) (b : Bool) → a.rules ≡ Some rules
    → ((s : Settings) (x : Exchange) → s.prefix ≡ a.prefix → x.head ≡ head → x.principal ≡ user → IsTrue b ↔ HasLeave rules s x) → Decides b (HasLeaveIn a user head)
leave_by a rules user head b some says = (
  λ yes. subst (λ (o : Option Rules). IfSome o (λ (rs : Rules). Permits rs a.prefix user head)) (sym some) (λ s x at is who. (says s x at is who).0 yes),
  λ leave.
      let permits : Permits rules a.prefix user head = subst (λ (o : Option Rules). IfSome o (λ (rs : Rules). Permits rs a.prefix user head)) some leave in
      let s : Settings = record { prefix = a.prefix; allowed = 0 } in
      (says s (exchange_with head user) refl refl refl).1 (permits s (exchange_with head user) refl refl refl),
)

-- what is said of each request with a head is said of whether it looks
pub looks_by : (a : AdmissionView) (rules : Rules) (user : Option (List ℕ)) (head : List ℕ) (b : Bool) → a.rules ≡ Some rules
    → (user ≢ None) ⊎ (a.users ≡ None)
    → ((s : Settings) (x : Exchange) → s.prefix ≡ a.prefix → x.head ≡ head → x.principal ≡ user → IsTrue b ↔ MayLook rules s x) → Decides b (LooksIn a user head)
looks_by a rules user head b some named says = (
  λ yes. (named, (rules, some, λ s x at is who. (says s x at is who).0 yes)),
  λ looks.
      let (also_named, (others, also, permits)) = looks in
      let s : Settings = record { prefix = a.prefix; allowed = 0 } in
      let same : Some others ≡ Some rules = sym also ∙ some in
      let one : others ≡ rules = cc in
      (says s (exchange_with head user) refl refl refl).1 (subst (λ (r : Rules). Looks r a.prefix user head) one permits s (exchange_with head user) refl refl refl),
)

-- without rules nobody looks
pub no_look : (a : AdmissionView) (user : Option (List ℕ)) (head : List ℕ) → a.rules ≡ None → Decides false (LooksIn a user head)
no_look a user head none = (
  λ yes. absurd (true≢false (sym yes)),
  λ looks. let (named, (others, also, permits)) = looks in let same : Some others ≡ None = sym also ∙ none in cc,
)

-- who isn't told doesn't look
pub untold_look : (a : AdmissionView) (user : Option (List ℕ)) (head : List ℕ) (told : Bool) → told ≡ false
    → Decides told ((user ≢ None) ⊎ (a.users ≡ None)) → Decides false (LooksIn a user head)
untold_look a user head told not decides = (
  λ yes. absurd (true≢false (sym yes)),
  λ looks. absurd (true≢false (sym (decides.1 looks.0) ∙ not)),
)

-- who has no leave may ask where he looks
pub asks_by : {E : Type 0} (Leave Look : Type 0) (has : Bool) (r : Result Bool E) → has ≡ false → Decides has Leave → IfOk r (λ may. Decides may Look) → IfOk r (λ may. Decides may (Leave ⊎ Look))
asks_by Leave Look has (Ok may) not decides is = (
  λ yes. inr (is.0 yes),
  λ either. elim either [
    | inl leave ↦ absurd (true≢false (sym (decides.1 leave) ∙ not))
    | inr look ↦ is.1 look
  ],
)
asks_by Leave Look has (Err e) not decides is = is

-- ---- paths outside of the prefix

pub inside_is : (prefix target : List ℕ) (p : PathText) → GivesPath prefix Get target (Ok p) → ¬ TargetNames prefix Get target (Err IllegalPath)
inside_is prefix target p gives names =
    let same : Ok p ≡ Err IllegalPath = one_outcome prefix Get target (Ok p) (Err IllegalPath) gives names in
    cc

tells_illegal : (prefix target : List ℕ) (e : DavError) (b : Bool) → GivesPath prefix Get target (Err e) → (IsTrue b ↔ (e ≡ IllegalPath)) → e ≢ Memory
    → (IsTrue b ↔ TargetNames prefix Get target (Err IllegalPath))
tells_illegal prefix target e b (inl memory) tells ample = absurd (ample memory)
tells_illegal prefix target e b (inr gives) tells ample = (
  λ yes. subst (λ (x : DavError). TargetNames prefix Get target (Err x)) (tells.0 yes) gives,
  λ names. let same : Err e ≡ Err IllegalPath = one_outcome prefix Get target (Err e) (Err IllegalPath) gives names in tells.1 (cc),
)

pub outside_is : {E : Type 0} (prefix target : List ℕ) (e : DavError) (r : Result Bool E) → GivesPath prefix Get target (Err e)
    → IfOk r (λ b. IsTrue b ↔ (e ≡ IllegalPath)) → OnOk r (e ≢ Memory) → IfOk r (λ b. IsTrue b ↔ TargetNames prefix Get target (Err IllegalPath))
outside_is prefix target e (Ok b) gives tells ample = tells_illegal prefix target e b gives tells ample
outside_is prefix target e (Err f) gives tells ample = tt

-- ---- tokens

pub next_token : (random : List ℕ) (number : ℕ) (method body text : List ℕ) → ((i : ℕ) → get_or random i 0 < 256) → length random ≡ 16 → number < 2 ^ 64
    → method ≡ codes "LOCK" → body ≢ [] → text ≡ token_text random number → IsTokenFor random number method body (Some text)
next_token random number method body text bytes sixteen small lock some is =
    subst (λ (t : List ℕ). IsTokenFor random number method body (Some t)) (sym is)
    (next lock some (random, (sixteen, All-from_get_or (λ b. b < 256) random 0 (λ i within. bytes i)), small, refl))

-- ---- the user that is told

pub user_text : (o : Option (String Global)) (d : String Global) → string_bytes d ≡ [] → string_bytes (unwrap_or o d) ≡ unwrap_or (option_map string_bytes o) []
user_text None d e = e
user_text (Some s) d e = refl

-- ---- whether there are bytes

pub empty_is : (xs : List ℕ) → true ≡ (length xs == 0) → xs ≡ []
empty_is [] e = refl
empty_is (x ∷ xs) e = absurd (grind (arith, nat_tests))

pub some_is : (xs : List ℕ) → false ≡ (length xs == 0) → xs ≢ []
some_is xs e none = let f : false ≡ true = subst (λ (t : List ℕ). false ≡ (length t == 0)) none e in cc
