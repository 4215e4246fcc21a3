-- What a server behind another one holds stays in each turn.
use Rattle.std.proofs.Common.{◌≡◌, ℕ, List, [], Option, refl}
use Rattle.http_server.specs.declared.response.Response.{Response}
use Rattle.dav_access.specs.Rules.{Rules}
use Rattle.dav_access.specs.declared.limit.Limit.{Limit}
use Rattle.dav_follow.specs.Following.{behind}
use Rattle.dav_follow.specs.Laws.{Hears}
use Rattle.dav_follow.specs.declared.following.Following.{Following}
use Rattle.dav_follow.proofs.BehindLemmas.{turn_hears, turns_keep_nothing}
use Rattle.dav_kept.specs.Records.{RequestView}
use Rattle.dav_kept.proofs.LifeLemmas.{readers_change_nothing}
use Rattle.dav_server.specs.Head.{Request}
use Rattle.dav_turns.specs.Connections.{TurnsView}
use Rattle.dav_turns.specs.Frames.{Order}
use Rattle.dav_turns.specs.Turns.{Turn}
use Rattle.dav_wire.specs.declared.answer.Asked.{Asked}
use Rattle.dav_wire.specs.declared.answer.Rejection.{Rejection}
use Rattle.dav_live.specs.Runs.{GoesOn}
use Rattle.dav_live.specs.Serving.{IsGreeted, IsJudged, IsListed, IsPassed, IsPlaced, Serves, anew, held_of, kept_of, refused}
use Rattle.dav_live.specs.declared.service.Service.{Service}
use Rattle.dav_live.proofs.RunLemmas.{goes_on_same, goes_on_then}

module _ {H J : Type 0} (answers : H → RequestView → Response → H → Type 0) (is_clean : J → Type 0) (kept : J → List (List ℕ) → Type 0) where
  listed_goes_on : (old new : Service H J) (bytes : List ℕ) → IsListed old bytes new → GoesOn answers is_clean kept (kept_of old) (kept_of new)
  listed_goes_on old new bytes (anew users rules limits reported admission same logins) = goes_on_same answers is_clean kept (kept_of old) (kept_of new) same
  listed_goes_on old new bytes (refused fault faulty stays logins) = goes_on_same answers is_clean kept (kept_of old) (kept_of new) stays.1

  module _ (refuses : Option Rules → List Limit → H → Request → RequestView → ℕ → Type 0) (looks : Rules → H → RequestView → Response → Type 0) (ends : H → ℕ → Option (List ℕ) → Type 0) where
    behind_hears : Hears (λ (old : Service H J) (head : List ℕ) (verdict : Option Rejection) (new : Service H J). IsJudged old head verdict new)
        (λ (old : Service H J) (asked : Asked) (response : Response) (new : Service H J). Serves answers refuses looks is_clean kept old asked response new)
        (λ (old : Service H J) (bytes : List ℕ) (new : Service H J). IsGreeted old bytes new)
        (λ (old : Service H J) (bytes : List ℕ) (new : Service H J). IsListed old bytes new)
        (λ (old : Service H J) (address : List ℕ) (new : Service H J). IsPlaced old address new)
        (λ (old : Service H J) (seconds date : ℕ) (new : Service H J). IsPassed answers is_clean kept ends old seconds date new)
        (λ (a b : Service H J). GoesOn answers is_clean kept (kept_of a) (kept_of b))
    behind_hears = record {
      same = λ s. goes_on_same answers is_clean kept (kept_of s) (kept_of s) refl;
      joined = λ a b c. goes_on_then answers is_clean kept (kept_of a) (kept_of b) (kept_of c);
      judged = λ a head verdict b judges. goes_on_same answers is_clean kept (kept_of a) (kept_of b) judges.same.1;
      answered = λ a asked response b serves. serves.goes_on;
      greets = λ a bytes b greeted. goes_on_same answers is_clean kept (kept_of a) (kept_of b) greeted.1;
      lists = λ a bytes b listed. listed_goes_on a b bytes listed;
      places = λ a address b stays. goes_on_same answers is_clean kept (kept_of a) (kept_of b) stays.0.1;
      passes = λ a seconds date b passed. passed.goes_on;
    }

    -- what is held stays
    pub turn_is_still : (loads : H → List ℕ → H → Type 0) (input : List ℕ) (used : ℕ) (old new : TurnsView) (was now : Following (Service H J)) (orders : List Order)
        → Turn (behind (λ (old : Service H J) (head : List ℕ) (verdict : Option Rejection) (new : Service H J). IsJudged old head verdict new)
        (λ (old : Service H J) (asked : Asked) (response : Response) (new : Service H J). Serves answers refuses looks is_clean kept old asked response new)
        (λ (old : Service H J) (bytes : List ℕ) (new : Service H J). IsGreeted old bytes new)
        (λ (old : Service H J) (bytes : List ℕ) (new : Service H J). IsListed old bytes new)
        (λ (old : Service H J) (address : List ℕ) (new : Service H J). IsPlaced old address new)
        (λ (old : Service H J) (seconds date : ℕ) (new : Service H J). IsPassed answers is_clean kept ends old seconds date new)
        (λ (s : Service H J). (held_of s).batch ≡ [])) input used old was new now orders
        → (held_of was.keeper).batch ≡ [] → held_of now.keeper ≡ held_of was.keeper
    turn_is_still loads input used old new was now orders t empty =
        let goes = turn_hears _ _ _ _ _ _ (λ (s : Service H J). (held_of s).batch ≡ []) (λ (a b : Service H J). GoesOn answers is_clean kept (kept_of a) (kept_of b)) behind_hears
        input used old new was now orders t in
        let rest = turns_keep_nothing _ _ _ _ _ _ (λ (s : Service H J). (held_of s).batch ≡ []) input used old new was now orders t in
        readers_change_nothing answers loads (held_of was.keeper) (held_of now.keeper) goes.follows empty rest
