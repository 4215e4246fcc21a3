-- Isolation in a run from no locks, from the grant on.
use Rattle.std.proofs.Common.{◌≡◌, ◌≢◌, ◌++◌, ℕ, suc, true, List, [], ◌∷◌, All, AllPairs, Option, Some, None, refl, sym, ap, subst, ◌∙◌, ◌≤◌, arith}
use Rattle.std.proofs.lemmas.List.Elements.{All-contains, All-cons, All-head, All-tail, All-weaker, Contains-append_right}
use Rattle.std.specs.Option.{is_some}
use Rattle.dav_core.specs.Locks.{Lock}
use Rattle.dav_core.specs.LockLaws.{CoveringAreShared}
use Rattle.dav_core.specs.World.{World, Node, node_at, is_folder_node, last_moment}
use Rattle.dav_core.proofs.Theorems.{none_are_shared}
use Rattle.dav_engine.specs.Guard.{folder_of, Guarded}
use Rattle.dav_engine.specs.Plan.{Locks}
use Rattle.dav_engine.specs.Reply.{Reply}
use Rattle.dav_engine.proofs.Theorems.{changes_keep_shared, shared_guards, folders_are_above}
use Rattle.dav_server.specs.Isolation.{AreLoaded, TokenIsFresh, TokensDiffer, IsIsolatedFromGrants}
use Rattle.dav_server.specs.LockLists.{IsHandedIn}
use Rattle.dav_server.specs.Machine.{caller}
use Rattle.dav_server.specs.Run.{Turn, begun, Runs}
use Rattle.dav_server.specs.Server.{Server}
use Rattle.dav_server.specs.TagLaws.{MomentsAreDates}
use Rattle.dav_server.proofs.IsolationLemmas.{holders_are_alone}
use Rattle.dav_server.proofs.ListLemmas.{run_shares, steps_change_lists, tokens_are_handed_in}
use Rattle.dav_server.proofs.MeansWorld.{turn_keeps, run_keeps, all_front, all_back}

-- two turns that hand in different tokens
abbrev pub Differ : Turn → Turn → Type 0
Differ t u = (token : List ℕ) → t.asked.token ≡ Some token → u.asked.token ≢ Some token

-- the tokens of those before a turn differ from its own
pub differ_before : (front rest : List Turn) (u : Turn) → AllPairs Differ (front ++ u ∷ rest) → All (λ t. Differ t u) front
differ_before [] rest u all = λ k d small. absurd (omega (arith, small))
differ_before (t ∷ front) rest u all =
    let here : Differ t u = All-contains (Differ t) (front ++ u ∷ rest) u (λ k d small. all 0 (suc k) d (omega arith) (omega (arith, small))) (Contains-append_right front (u ∷ rest) u (0, omega arith, refl)) in
    All-cons (λ t. Differ t u) t front here (differ_before front rest u (λ i j d less small. all (suc i) (suc j) d (omega (arith, less)) (omega (arith, small))))

other_tokens : (h : Lock) (grant : Turn) (front : List Turn) → grant.asked.token ≡ Some h.token → All (λ t. Differ t grant) front → (l : Lock) → IsHandedIn front l.token → l.token ≢ h.token
other_tokens h grant front own differ l (t, there, is) same = All-contains (λ u. Differ u grant) front t differ there h.token (is ∙ ap Some same) own

-- the tokens of those after a turn differ from its own
none_after : (h : Lock) (grant : Turn) (front later back : List Turn) → grant.asked.token ≡ Some h.token → AllPairs Differ (front ++ grant ∷ (later ++ back)) → TokenIsFresh h later
none_after h grant [] later back own all =
    all_front (λ u. u.asked.token ≢ Some h.token) later back (λ k d small same. all 0 (suc k) d (omega arith) (omega (arith, small)) h.token own same)
none_after h grant (t ∷ front) later back own all = none_after h grant front later back own (λ i j d less small. all (suc i) (suc j) d (omega (arith, less)) (omega (arith, small)))

some_node : (w : World) (p : List (List ℕ)) (o : Option Node) → node_at w p ≡ o → is_folder_node o ≡ true → (n : Node) × (node_at w p ≡ Some n)
some_node w p None is h = cc
some_node w p (Some n) is h = (n, is)

pub is_isolated_from_grants : (old : Server) (ts : List Turn) (replies : List Reply) → MomentsAreDates ts → AreLoaded ts → IsIsolatedFromGrants old ts replies
is_isolated_from_grants old ts replies small loaded front later back us grant h asked granted new ks js ms before given after reply is replied differ world empty ran step guard grants folder under u alone =
    let P = λ (t : Turn). t.asked.moment ≤ last_moment in
    let Q = λ (t : Turn). is_some t.refusals ≡ true in
    let all_small : MomentsAreDates (front ++ grant ∷ (later ++ back)) = subst MomentsAreDates is small in
    let all_loaded : AreLoaded (front ++ grant ∷ (later ++ back)) = subst AreLoaded is loaded in
    let rest_small = all_back P front (grant ∷ (later ++ back)) all_small in
    let rest_loaded = all_back Q front (grant ∷ (later ++ back)) all_loaded in
    let kept = run_keeps world (all_front P front (grant ∷ (later ++ back)) all_small) ran in
    let after_grant = turn_keeps grant asked (All-head P grant (later ++ back) rest_small) kept.world step in
    let from_none = subst (λ (l : Locks). Runs old.settings front old.state.store l before asked (Some ks)) empty ran in
    let shared : CoveringAreShared ks = run_shares old.settings front old.state.store asked [] ks before none_are_shared from_none in
    let still : CoveringAreShared js = changes_keep_shared (caller grant.asked) ks js (steps_change_lists old.settings grant.asked (begun grant.refusals asked) granted ks (Some js) reply step) shared in
    let tokens : All (λ l. IsHandedIn front l.token) ks = tokens_are_handed_in old.settings front old.state.store asked ks before from_none in
    let others : All (λ l. l.token ≢ h.token) ks = All-weaker (λ (l : Lock). IsHandedIn front l.token) (λ (l : Lock). l.token ≢ h.token)
    (other_tokens h grant front grants.token_is (differ_before front (later ++ back) grant (subst TokensDiffer is differ))) ks tokens in
    let guarded : Guarded h (Some js) = subst (λ (l : List Lock). Guarded h (Some l)) (sym grants.listed) (shared_guards h ks guard others (subst CoveringAreShared grants.listed still)) in
    let (n, there) = some_node granted.world (folder_of h) (node_at granted.world (folder_of h)) refl folder in
    holders_are_alone old.settings h later us granted new (Some js) ms given guard guarded (folders_are_above granted.world (folder_of h) n after_grant.world there) after_grant.world
    (all_front P later back (All-tail P grant (later ++ back) rest_small)) (all_front Q later back (All-tail Q grant (later ++ back) rest_loaded))
    (none_after h grant front later back grants.token_is (subst TokensDiffer is differ)) under u alone
