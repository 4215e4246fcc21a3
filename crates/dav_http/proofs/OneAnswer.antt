-- A request has one answer.
use Rattle.std.proofs.Common.{◌≡◌, ℕ, List, [], ◌∷◌, Option, refl, sym, ap, subst, ◌∙◌}
use Rattle.dav_core.specs.Asking.{StoreState}
use Rattle.dav_engine.specs.declared.request.Body.{Body}
use Rattle.dav_engine.specs.Caller.{Caller}
use Rattle.dav_engine.specs.Plan.{Locks}
use Rattle.dav_engine.specs.Reply.{Reply}
use Rattle.dav_server.specs.Head.{IsHead, Request}
use Rattle.dav_server.specs.Machine.{Exchange, Settings, Steps, steps, no_head, no_method, known}
use Rattle.dav_server.specs.Run.{Runs, no_more, one_more}
use Rattle.dav_server.specs.Server.{turn_of}
use Rattle.dav_server.proofs.MeansLemmas.{runs_same}
use Rattle.dav_http.specs.Steps.{IsBodyOf, IsExchangeOf, IsTokenOf, StepsAreOne, as_bytes, as_tree, granted, missing, nothing, refused}

-- a token that is handed in is granted or not
one_token : (text a b : Option (List ℕ)) → IsTokenOf text a → IsTokenOf text b → a ≡ b
one_token _ _ _ missing missing = refl
one_token _ _ _ (granted is) (granted also) = refl
one_token _ _ _ (granted is) (refused not) = absurd (not is)
one_token _ _ _ (refused not) (granted is) = absurd (not is)
one_token _ _ _ (refused not) (refused also) = refl

-- bytes are one body
one_body : (method : List ℕ) (moment : ℕ) (bytes : List ℕ) (a b : Body) → IsBodyOf method moment bytes a → IsBodyOf method moment bytes b → a ≡ b
one_body method moment bytes _ _ (nothing is) (nothing also) = refl
one_body method moment bytes _ _ (nothing is) (as_tree some takes) = absurd (some is)
one_body method moment bytes _ _ (nothing is) (as_bytes some not) = absurd (some is)
one_body method moment bytes _ _ (as_tree some takes) (nothing is) = absurd (some is)
one_body method moment bytes _ _ (as_tree some takes) (as_tree also takes_too) = refl
one_body method moment bytes _ _ (as_tree some takes) (as_bytes also not) = absurd (not takes)
one_body method moment bytes _ _ (as_bytes some not) (nothing is) = absurd (some is)
one_body method moment bytes _ _ (as_bytes some not) (as_tree also takes) = absurd (not takes)
one_body method moment bytes _ _ (as_bytes some not) (as_bytes also not_too) = refl

-- a head is handed in as one request of the machine
pub one_exchange : (head bytes : List ℕ) (who : Caller) (x y : Exchange) (r : Request) → IsHead head r → IsExchangeOf head bytes who x → IsExchangeOf head bytes who y → x ≡ y
one_exchange head bytes who x y r is a b =
    let method : b.method ≡ a.method = b.is_method r is ∙ sym (a.is_method r is) in
    let body : x.body ≡ y.body = one_body a.method x.moment bytes x.body y.body a.body
    (subst (λ (n : ℕ). IsBodyOf a.method n bytes y.body) (b.moment ∙ sym a.moment) (subst (λ (m : List ℕ). IsBodyOf m y.moment bytes y.body) method b.body)) in
    let token : x.token ≡ y.token = one_token who.token x.token y.token a.token b.token in
    ap (λ (h : List ℕ). record { head = h; body = x.body; principal = x.principal; moment = x.moment; token = x.token }) (a.head_is ∙ sym b.head_is)
    ∙ ap (λ (t : Body). record { head = y.head; body = t; principal = x.principal; moment = x.moment; token = x.token }) body
    ∙ ap (λ (p : Option (List ℕ)). record { head = y.head; body = y.body; principal = p; moment = x.moment; token = x.token }) (a.principal ∙ sym b.principal)
    ∙ ap (λ (m : ℕ). record { head = y.head; body = y.body; principal = y.principal; moment = m; token = x.token }) (a.moment ∙ sym b.moment)
    ∙ ap (λ (t : Option (List ℕ)). record { head = y.head; body = y.body; principal = y.principal; moment = y.moment; token = t }) token

-- bytes that are no head are answered alike, whatever comes with them
headless : (s : Settings) (x y : Exchange) (old new : StoreState) (ls ms : Locks) (reply : Reply) → ((r : Request) → ¬ IsHead x.head r) → y.head ≡ x.head → Steps s y old ls reply new ms
    → Steps s x old ls reply new ms
headless s x y old new ls ms _ none same (steps plan outcome (no_head out) ran) = steps plan outcome (no_head none) ran
headless s x y old new ls ms _ none same (steps plan outcome (no_method r e is gives) ran) = absurd (none r (subst (λ (h : List ℕ). IsHead h r) same is))
headless s x y old new ls ms _ none same (steps plan outcome (known r m is gives means) ran) = absurd (none r (subst (λ (h : List ℕ). IsHead h r) same is))

-- the first of some replies
first_reply : Reply → List Reply → Reply
first_reply other [] = other
first_reply other (r ∷ rs) = r

-- two steps of one request
alike : (s : Settings) (x y : Exchange) (head bytes : List ℕ) (who : Caller) (old new other : StoreState) (ls ks ms : Locks) (reply answer : Reply)
    → IsExchangeOf head bytes who x → IsExchangeOf head bytes who y → Steps s x old ls reply new ks → Steps s y old ls answer other ms → Steps s x old ls answer other ms
alike s x y head bytes who old new other ls ks ms _ answer a b (steps plan outcome (no_head out) ran) step = headless s x y old other ls ms answer out (b.head_is ∙ sym a.head_is) step
alike s x y head bytes who old new other ls ks ms _ answer a b (steps plan outcome (no_method r e is gives) ran) step =
    subst (λ (z : Exchange). Steps s z old ls answer other ms) (sym (one_exchange head bytes who x y r (subst (λ (h : List ℕ). IsHead h r) a.head_is is) a b)) step
alike s x y head bytes who old new other ls ks ms _ answer a b (steps plan outcome (known r m is gives means) ran) step =
    subst (λ (z : Exchange). Steps s z old ls answer other ms) (sym (one_exchange head bytes who x y r (subst (λ (h : List ℕ). IsHead h r) a.head_is is) a b)) step

pub steps_are_one : StepsAreOne
unfolding first_reply
steps_are_one head bytes who old new other one another a b =
    let x = a.exchange in
    let step = alike old.settings x b.exchange head bytes who old.state.store new.state.store other.state.store old.state.locks new.state.locks other.state.locks one another
    a.is_exchange b.is_exchange a.answers b.answers in
    let first : Runs old.settings (turn_of x ∷ []) old.state.store old.state.locks (one ∷ []) new.state.store new.state.locks = one_more a.answers no_more in
    let second : Runs old.settings (turn_of x ∷ []) old.state.store old.state.locks (another ∷ []) other.state.store other.state.locks = one_more step no_more in
    let same = runs_same first a.ample second b.ample in
    let reply : one ≡ another = ap (first_reply one) same.0 in
    let server : new ≡ other =
    ap (λ (s : Settings). record { settings = s; state = new.state }) (a.same ∙ sym b.same)
    ∙ ap (λ (w : StoreState). record { settings = other.settings; state = record { store = w; locks = new.state.locks } }) same.1
    ∙ ap (λ (ls : Locks). record { settings = other.settings; state = record { store = other.state.store; locks = ls } }) same.2 in
    (reply, server)
