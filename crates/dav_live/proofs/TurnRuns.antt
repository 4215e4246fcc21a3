-- The run of a live server's records goes on in each turn.
use Rattle.std.proofs.Common.{ℕ, List, Option, refl}
use Rattle.http_server.specs.declared.response.Response.{Response}
use Rattle.dav_access.specs.Rules.{Rules}
use Rattle.dav_access.specs.declared.limit.Limit.{Limit}
use Rattle.dav_kept.specs.Records.{RequestView}
use Rattle.dav_server.specs.Head.{Request}
use Rattle.dav_turns.specs.Turns.{keeping}
use Rattle.dav_turns.proofs.Carried.{Carries}
use Rattle.dav_wire.specs.declared.answer.Asked.{Asked}
use Rattle.dav_wire.specs.declared.answer.Rejection.{Rejection}
use Rattle.dav_live.specs.Runs.{RunGoesOn}
use Rattle.dav_live.specs.Serving.{IsCommitted, IsGreeted, IsListed, IsJudged, IsMarked, IsPassed, IsPlaced, Serves, anew, kept_of, refused}
use Rattle.dav_live.specs.declared.service.Service.{Service}
use Rattle.dav_live.proofs.RunLemmas.{commits_runs, goes_on_runs, kept_runs, runs_then, same_runs}

module _ {H J : Type 0} (answers : H → RequestView → Response → H → Type 0) (saved : H → List ℕ) (is_saveable : H → Type 0) (is_clean : J → Type 0) (kept : J → List (List ℕ) → Type 0) where
  listed_runs : (old new : Service H J) (bytes : List ℕ) → IsListed old bytes new → RunGoesOn answers saved is_saveable is_clean kept (kept_of old) (kept_of new)
  listed_runs old new bytes (anew users rules limits reported admission same logins) = same_runs answers saved is_saveable is_clean kept (kept_of old) (kept_of new) same
  listed_runs old new bytes (refused fault faulty stays logins) = same_runs answers saved is_saveable is_clean kept (kept_of old) (kept_of new) stays.1

  -- what a live server does carries the run of its records on
  pub run_carries : (refuses : Option Rules → List Limit → H → Request → RequestView → ℕ → Type 0) (looks : Rules → H → RequestView → Response → Type 0) (ends : H → ℕ → Option (List ℕ) → Type 0)
      → Carries (keeping (λ (old : Service H J) (head : List ℕ) (verdict : Option Rejection) (new : Service H J). IsJudged old head verdict new)
      (λ (old : Service H J) (asked : Asked) (response : Response) (new : Service H J). Serves answers refuses looks is_clean kept old asked response new)
      (λ (old : Service H J) (bytes : List ℕ) (new : Service H J). IsGreeted old bytes new)
      (λ (old : Service H J) (bytes : List ℕ) (new : Service H J). IsListed old bytes new)
      (λ (old : Service H J) (address : List ℕ) (new : Service H J). IsPlaced old address new)
      (λ (old : Service H J) (seconds date : ℕ) (new : Service H J). IsPassed answers is_clean kept ends old seconds date new)
      (λ (old new : Service H J). IsMarked saved is_saveable is_clean kept old new) (λ (old new : Service H J). IsCommitted is_clean kept old new))
      (λ old new. RunGoesOn answers saved is_saveable is_clean kept (kept_of old) (kept_of new))
  run_carries refuses looks ends = record {
    same = λ s. same_runs answers saved is_saveable is_clean kept (kept_of s) (kept_of s) refl;
    joined = λ a b c. runs_then answers saved is_saveable is_clean kept (kept_of a) (kept_of b) (kept_of c);
    judges = λ a head verdict b judged. same_runs answers saved is_saveable is_clean kept (kept_of a) (kept_of b) judged.same.1;
    answers = λ a asked response b serves. goes_on_runs answers saved is_saveable is_clean kept (kept_of a) (kept_of b) serves.goes_on;
    greeted = λ a bytes b greets. same_runs answers saved is_saveable is_clean kept (kept_of a) (kept_of b) greets.1;
    listed = λ a bytes b lists. listed_runs a b bytes lists;
    placed = λ a address b stays. same_runs answers saved is_saveable is_clean kept (kept_of a) (kept_of b) stays.0.1;
    passed = λ a seconds date b passes. goes_on_runs answers saved is_saveable is_clean kept (kept_of a) (kept_of b) passes.goes_on;
    marked = λ a b marks. kept_runs answers saved is_saveable is_clean kept (kept_of a) (kept_of b) marks.keeps;
    kept = λ a b commits. commits_runs answers saved is_saveable is_clean kept (kept_of a) (kept_of b) commits.commits;
  }
