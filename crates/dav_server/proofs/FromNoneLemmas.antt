-- In runs from no locks no request hands in the token of a lock that stands.
use Rattle.std.proofs.Common.{◌≡◌, ◌≢◌, ◌++◌, ℕ, List, [], ◌∷◌, All, Some, None, refl, ap, subst}
use Rattle.std.proofs.lemmas.List.Elements.{All-contains, All-head, All-tail}
use Rattle.dav_core.specs.Asking.{StoreState}
use Rattle.dav_core.specs.Locks.{Lock}
use Rattle.dav_engine.specs.Guard.{IsListed, listed_here, listed_later, Stands}
use Rattle.dav_engine.specs.Plan.{Locks}
use Rattle.dav_engine.specs.Reply.{Reply}
use Rattle.dav_server.specs.EachRequest.{RunStep}
use Rattle.dav_server.specs.Isolation.{TokensDiffer}
use Rattle.dav_server.specs.LockLists.{IsHandedIn}
use Rattle.dav_server.specs.Naming.{NamesToken}
use Rattle.dav_server.specs.Run.{Turn, Runs}
use Rattle.dav_server.specs.Server.{Server}
use Rattle.dav_server.proofs.EndingLemmas.{ends_no_lock}
use Rattle.dav_server.proofs.GrantedRuns.{Differ, differ_before}
use Rattle.dav_server.proofs.ListLemmas.{tokens_are_handed_in}

-- what holds of the tokens of a list holds of that of a lock in it
listed_token : (P : List ℕ → Type 0) (h : Lock) (ls : List Lock) → All (λ l. P l.token) ls → IsListed h ls → P h.token
listed_token P h [] all is = elim is [ ]
listed_token P h (l ∷ ls) all (listed_here same) = subst P (ap (λ (x : Lock). x.token) same) (All-head (λ (l : Lock). P l.token) l ls all)
listed_token P h (l ∷ ls) all (listed_later rest) = listed_token P h ls (All-tail (λ (l : Lock). P l.token) l ls all) rest

-- a token that was handed in before a turn isn't its own
other_than : (h : Lock) (t : Turn) (front : List Turn) → All (λ u. Differ u t) front → IsHandedIn front h.token → t.asked.token ≢ Some h.token
other_than h t front differ (u, there, is) own = All-contains (λ u. Differ u t) front u differ there h.token is own

module _ (old : Server) (front back : List Turn) (t : Turn) (ts : List Turn) (before : List Reply) (mid : StoreState) (ks : List Lock) (h : Lock) (is : ts ≡ front ++ t ∷ back)
    (differ : TokensDiffer ts) (empty : old.state.locks ≡ Some []) (ran : Runs old.settings front old.state.store old.state.locks before mid (Some ks)) (stands : IsListed h ks) where
  own_token : t.asked.token ≢ Some h.token
  own_token =
      let from_none = subst (λ l. Runs old.settings front old.state.store l before mid (Some ks)) empty ran in
      let tokens : All (λ l. IsHandedIn front l.token) ks = tokens_are_handed_in old.settings front old.state.store mid ks before from_none in
      other_than h t front (differ_before front back t (subst TokensDiffer is differ)) (listed_token (IsHandedIn front) h ks tokens stands)

module _ (old : Server) (ts : List Turn) (replies : List Reply) (differ : TokensDiffer ts) (empty : old.state.locks ≡ Some []) (u : RunStep old ts replies) (h : Lock) where
  own_at : (ls : Locks) → u.was.locks ≡ ls → Stands h ls → u.turn.asked.token ≢ Some h.token
  own_at None is stands = absurd stands
  own_at (Some ks) is stands =
      let before_it = subst (λ (l : Locks). Runs old.settings u.front old.state.store old.state.locks u.before u.was.store l) is u.earlier in
      own_token old u.front u.back u.turn ts u.before u.was.store ks h u.turns_are differ empty before_it stands

  -- in a run from no locks with tokens that differ, each request leaves each lock whose token it doesn't name
  pub stands_from_none : Stands h u.was.locks → ¬ NamesToken u.turn.asked h.token → Stands h u.now.locks
  stands_from_none stands other = ends_no_lock u h stands other (own_at u.was.locks refl stands)
