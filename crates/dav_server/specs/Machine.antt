-- The machine: the reply to each request, from the bytes of its head on, and the store and the locks that it leaves.
use Rattle.std.specs.Prelude.{◌≡◌, ℕ, List, [], ◌∷◌, nat_lt, if◌then◌else◌, Option, Result, Ok, Err}
use Rattle.dav_core.specs.declared.errors.DavError.{DavError}
use Rattle.dav_core.specs.declared.errors.DavError.TheVariants as dav
use Rattle.dav_core.specs.declared.method.DavMethod.{DavMethod}
use Rattle.dav_core.specs.declared.method.DavMethod.TheVariants.{Get, Head, Put, Patch, Options, MkCol, Copy, Move, Delete, PropFind, PropPatch, Lock, Unlock}
use Rattle.dav_core.specs.Asking.{StoreState, Asks}
use Rattle.dav_core.specs.Element.{ElementTree, depth_of}
use Rattle.dav_core.specs.Method.{Has}
use Rattle.dav_core.specs.Path.{PathText}
use Rattle.dav_engine.specs.declared.request.Body.{Body}
use Rattle.dav_engine.specs.declared.request.Body.TheVariants as body
use Rattle.dav_engine.specs.Headers.{Headers}
use Rattle.dav_engine.specs.Method.{MethodPlan, fails}
use Rattle.dav_engine.specs.Plan.{Locks, CallStep, Ran, Cut}
use Rattle.dav_engine.specs.Caller.{Caller}
use Rattle.dav_engine.specs.CopyMove.{IsCopyMove}
use Rattle.dav_engine.specs.Delete.{IsDelete}
use Rattle.dav_engine.specs.Lock.{IsLock}
use Rattle.dav_engine.specs.Mkcol.{IsMkcol}
use Rattle.dav_engine.specs.Options.{options}
use Rattle.dav_engine.specs.Propfind.{IsPropfind}
use Rattle.dav_engine.specs.Proppatch.{IsProppatch}
use Rattle.dav_engine.specs.Put.{IsPut}
use Rattle.dav_engine.specs.RefusedCalls.{CallKind, RanRefused}
use Rattle.dav_engine.specs.Reply.{Reply, reply_to}
use Rattle.dav_engine.specs.Unlock.{IsUnlock}
use Rattle.dav_server.specs.Get.{IsGet}
use Rattle.dav_server.specs.Head.{Request, IsHead}
use Rattle.dav_server.specs.Headers.{headers_of}
use Rattle.dav_server.specs.Method.{GivesServed}
use Rattle.dav_server.specs.Target.{TargetNames}

-- A request as it comes in: the bytes of its head, its body, who makes it, when (in seconds since 1970), and the token that is handed in
-- for a lock that it creates.
pub record Exchange : Type 0 where
  pub head : List ℕ
  pub body : Body
  pub principal : Option (List ℕ)
  pub moment : ℕ
  pub token : Option (List ℕ)

-- How a server is set up: the prefix of the paths that it serves, and the set of the methods that it allows.
pub record Settings : Type 0 where
  pub prefix : List ℕ
  pub allowed : ℕ

-- what a method takes as body: bytes, an element tree, or none
pub data Taken : Type 0 where
  TakesBytes : Taken
  TakesTree : Taken
  TakesNone : Taken

-- what each method takes as body: PUT and PATCH bytes; PROPFIND, PROPPATCH and LOCK an element tree; all others none
abbrev pub taken_by : DavMethod → Taken
taken_by Put = TakesBytes
taken_by Patch = TakesBytes
taken_by PropFind = TakesTree
taken_by PropPatch = TakesTree
taken_by Lock = TakesTree
taken_by _ = TakesNone

-- an element tree as a body, of at most 64 levels of nested elements; 400 for a tree of more levels
abbrev pub given_tree : ElementTree → Result Body DavError
given_tree tree = if nat_lt 64 (depth_of tree) then Err (dav.Status 400) else Ok (body.Tree tree)

-- The body that a method is handed, or the error that answers the request. No body, and one of no bytes, is none. Bytes where a tree is
-- taken are a malformed one. 400 for a tree of more than 64 levels; 415 for a body that the method doesn't take (RFC 9110, section
-- 15.5.16).
abbrev pub body_for : Taken → Body → Result Body DavError
body_for taken body.None = Ok body.None
body_for taken (body.Bytes []) = Ok body.None
body_for TakesBytes (body.Bytes (b ∷ bytes)) = Ok (body.Bytes (b ∷ bytes))
body_for TakesTree (body.Bytes (b ∷ bytes)) = Ok body.Malformed
body_for TakesNone (body.Bytes (b ∷ bytes)) = Err (dav.Status 415)
body_for TakesTree (body.Tree tree) = given_tree tree
body_for TakesBytes (body.Tree tree) = Err (dav.Status 415)
body_for TakesNone (body.Tree tree) = Err (dav.Status 415)
body_for TakesTree body.Malformed = Ok body.Malformed
body_for TakesBytes body.Malformed = Err (dav.Status 415)
body_for TakesNone body.Malformed = Err (dav.Status 415)

-- the client that makes a request: its principal, the moment, and the token that is handed in
abbrev pub caller : Exchange → Caller
caller x = record { principal = x.principal; moment = x.moment; token = x.token }

-- The plan of a request with this method, by the set of the methods that are allowed, its headers, its path, its body and its client. A
-- method that isn't served has none (RFC 9110, section 9.3; RFC 5789; RFC 4918, section 9).
pub data PlanOf (allowed : ℕ) (headers : Headers) (p : PathText) (body : Body) (who : Caller) : DavMethod → MethodPlan Reply → Type 0 where
  gets : {plan : MethodPlan Reply} → IsGet Get headers p who.moment plan → PlanOf allowed headers p body who Get plan
  heads : {plan : MethodPlan Reply} → IsGet Head headers p who.moment plan → PlanOf allowed headers p body who Head plan
  puts : {plan : MethodPlan Reply} → IsPut Put headers p body who plan → PlanOf allowed headers p body who Put plan
  patches : {plan : MethodPlan Reply} → IsPut Patch headers p body who plan → PlanOf allowed headers p body who Patch plan
  makes : {plan : MethodPlan Reply} → IsMkcol headers p who plan → PlanOf allowed headers p body who MkCol plan
  deletes : {plan : MethodPlan Reply} → IsDelete headers p who plan → PlanOf allowed headers p body who Delete plan
  copies : {plan : MethodPlan Reply} → IsCopyMove Copy headers p who plan → PlanOf allowed headers p body who Copy plan
  moves : {plan : MethodPlan Reply} → IsCopyMove Move headers p who plan → PlanOf allowed headers p body who Move plan
  offers : PlanOf allowed headers p body who Options (options allowed p)
  finds_properties : {plan : MethodPlan Reply} → IsPropfind headers p body who plan → PlanOf allowed headers p body who PropFind plan
  sets_properties : {plan : MethodPlan Reply} → IsProppatch headers p body who plan → PlanOf allowed headers p body who PropPatch plan
  locks : {plan : MethodPlan Reply} → IsLock headers p body who plan → PlanOf allowed headers p body who Lock plan
  releases : {plan : MethodPlan Reply} → IsUnlock headers p who plan → PlanOf allowed headers p body who Unlock plan

-- The plan that a request results in whose head and method are known. The first of these refuses it, before anything is asked of the
-- store: 405 for a method that isn't allowed, and the connection closes; the error of its target; the error of its body (RFC 9110,
-- sections 15.5.6 and 15.5.16).
pub data MeansOf (s : Settings) (x : Exchange) (r : Request) (m : DavMethod) : MethodPlan Reply → Type 0 where
  not_allowed : ¬ Has s.allowed m → MeansOf s x r m (fails (dav.StatusClose 405))
  no_path : (e : DavError) → Has s.allowed m → TargetNames s.prefix m r.target (Err e) → MeansOf s x r m (fails e)
  no_body : (p : PathText) (e : DavError) → Has s.allowed m → TargetNames s.prefix m r.target (Ok p) → body_for (taken_by m) x.body ≡ Err e → MeansOf s x r m (fails e)
  method : (p : PathText) (body : Body) {plan : MethodPlan Reply} → Has s.allowed m → TargetNames s.prefix m r.target (Ok p) → body_for (taken_by m) x.body ≡ Ok body
      → PlanOf s.allowed (headers_of r.fields) p body (caller x) m plan → MeansOf s x r m plan

-- The plan that a request results in: 400 for bytes that are no head, an error for a method that isn't served, else the plan that its
-- method has (RFC 9110, sections 15.5.1 and 15.6.2).
pub data Means (s : Settings) (x : Exchange) : MethodPlan Reply → Type 0 where
  no_head : ((r : Request) → ¬ IsHead x.head r) → Means s x (fails (dav.Status 400))
  no_method : (r : Request) (e : DavError) → IsHead x.head r → GivesServed r.method (Err e) → Means s x (fails e)
  known : (r : Request) (m : DavMethod) {plan : MethodPlan Reply} → IsHead x.head r → GivesServed r.method (Ok m) → MeansOf s x r m plan → Means s x plan

-- One step of the machine over stores that answer each call by this relation: the reply to a request, and the store and the
-- list of locks that it leaves.
pub data StepsBy (step : CallStep) (s : Settings) (x : Exchange) (old : StoreState) (ls : Locks) : Reply → StoreState → Locks → Type 0 where
  steps : (plan : MethodPlan Reply) (outcome : Result Reply DavError) {new : StoreState} {ms : Locks}
      → Means s x plan → Ran step plan old ls outcome new ms → StepsBy step s x old ls (reply_to outcome) new ms

-- one step of the machine over any lawful store
abbrev pub Steps : Settings → Exchange → StoreState → Locks → Reply → StoreState → Locks → Type 0
Steps = StepsBy Asks

-- One step of the machine over any lawful store, in which a call of this kind is refused.
pub data StepRefused (kind : CallKind) (s : Settings) (x : Exchange) (old : StoreState) (ls : Locks) : Reply → StoreState → Locks → Type 0 where
  step_refused : (plan : MethodPlan Reply) (outcome : Result Reply DavError) {new : StoreState} {ms : Locks}
      → Means s x plan → RanRefused kind plan old ls outcome new ms → StepRefused kind s x old ls (reply_to outcome) new ms

-- Memory ran out in a step: nothing was done, or the first calls of its plan were made, each of them whole. The list of locks is as
-- before, or as the plan leaves it where each later call is refused.
pub data StepCutBy (step : CallStep) (s : Settings) (x : Exchange) (old : StoreState) (ls : Locks) : StoreState → Locks → Type 0 where
  untouched : StepCutBy step s x old ls old ls
  cut : (plan : MethodPlan Reply) {new : StoreState} {ms : Locks} → Means s x plan → Cut step ls plan old ls new ms → StepCutBy step s x old ls new ms

-- memory ran out in the step of a request, over any lawful store
abbrev pub StepCut : Settings → Exchange → StoreState → Locks → StoreState → Locks → Type 0
StepCut = StepCutBy Asks
