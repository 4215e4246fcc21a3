-- What a keeper does carries over to what follows another one by it.
use Rattle.std.proofs.Common.{◌≡◌, ℕ, List, Option, sym, subst}
use Rattle.http_server.specs.declared.response.Response.{Response}
use Rattle.dav_wire.specs.declared.answer.Asked.{Asked}
use Rattle.dav_wire.specs.declared.answer.Rejection.{Rejection}
use Rattle.dav_turns.specs.Connections.{TurnsView}
use Rattle.dav_turns.specs.Frames.{Order}
use Rattle.dav_turns.specs.Turns.{Turn}
use Rattle.dav_turns.proofs.Carried.{Carries, turn_carries}
use Rattle.dav_follow.specs.Following.{AnswersBehind, behind, elsewhere, here}
use Rattle.dav_follow.specs.Laws.{Hears, TurnsKeepNothing}
use Rattle.dav_follow.specs.declared.following.Following.{Following}

module _ {K : Type 0} (judges : K → List ℕ → Option Rejection → K → Type 0) (answers : K → Asked → Response → K → Type 0)
    (greeted listed placed : K → List ℕ → K → Type 0) (passed : K → ℕ → ℕ → K → Type 0) (is_at_rest : K → Type 0) where
  answers_carry : (R : K → K → Type 0) → Hears judges answers greeted listed placed passed R
      → (a : Following K) (asked : Asked) (sent : Response) (b : Following K) → AnswersBehind answers a asked sent b → R a.keeper b.keeper
  answers_carry R h a asked sent b (here line own is reads answered says clock) = h.answered a.keeper asked own b.keeper answered
  answers_carry R h a asked sent b (elsewhere line is reads responds same) = subst (λ (f : Following K). R a.keeper f.keeper) (sym same) (h.same a.keeper)

  behind_carries : (R : K → K → Type 0) → Hears judges answers greeted listed placed passed R
      → Carries (behind judges answers greeted listed placed passed is_at_rest) (λ (a b : Following K). R a.keeper b.keeper)
  behind_carries R h = record {
    same = λ a. h.same a.keeper;
    joined = λ a b c. h.joined a.keeper b.keeper c.keeper;
    judges = λ a head verdict b judged. h.judged a.keeper head judged.own b.keeper judged.judged;
    answers = answers_carry R h;
    greeted = λ a bytes b greets. h.greets a.keeper bytes b.keeper greets.0;
    listed = λ a bytes b lists. h.lists a.keeper bytes b.keeper lists.0;
    placed = λ a address b places. h.places a.keeper address b.keeper places.0;
    passed = λ a seconds date b passes. h.passes a.keeper seconds date b.keeper passes.keeper;
    marked = λ a b same. subst (λ (f : Following K). R a.keeper f.keeper) (sym same) (h.same a.keeper);
    kept = λ a b keeps. subst (λ (f : Following K). R a.keeper f.keeper) (sym keeps.0) (h.same a.keeper);
  }

  pub turn_hears : (R : K → K → Type 0) → Hears judges answers greeted listed placed passed R
      → (input : List ℕ) (used : ℕ) (old new : TurnsView) (was now : Following K) (orders : List Order)
      → Turn (behind judges answers greeted listed placed passed is_at_rest) input used old was new now orders → R was.keeper now.keeper
  turn_hears R h input used old new was now orders t =
      turn_carries (behind judges answers greeted listed placed passed is_at_rest) (λ (a b : Following K). R a.keeper b.keeper) (behind_carries R h)
      input used old new was now orders t

  pub turns_keep_nothing : TurnsKeepNothing judges answers greeted listed placed passed is_at_rest
  turns_keep_nothing input used old new was now orders t = subst (λ (f : Following K). is_at_rest f.keeper) (sym t.keeps.0) t.keeps.1
