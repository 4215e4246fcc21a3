-- A live server keeps the promises and the headline over its whole life.
use Rattle.std.proofs.Common.{◌≡◌, ◌≢◌, ℕ, ◌+◌, ◌≤◌, true, List, [], ◌∷◌, Option, Some, None, refl, sym, ◌∙◌, subst, arith}
use Rattle.std.specs.List.{All, AllPairs}
use Rattle.std.specs.Option.{is_some}
use Rattle.std.proofs.lemmas.List.Elements.{All-nil, All-cons}
use Rattle.std.proofs.lemmas.List.Kept.{AllPairs-cons}
use Rattle.dav_core.specs.World.{last_moment}
use Rattle.dav_engine.specs.Reply.{Reply}
use Rattle.dav_http.specs.Steps.{IsStepFor, IsTokenOf, granted, missing, new_server, refused}
use Rattle.dav_kept.specs.Kept.{RecordsRun, answer_step}
use Rattle.dav_kept.specs.Records.{RecordView, token_count}
use Rattle.dav_server.specs.Isolation.{AreLoaded, TokensDiffer}
use Rattle.dav_server.specs.Machine.{Settings}
use Rattle.dav_server.specs.Run.{Runs, Turn, no_more, one_more}
use Rattle.dav_server.specs.Server.{AnswersAll, Server}
use Rattle.dav_server.specs.TagLaws.{MomentsAreDates}
use Rattle.dav_server.proofs.HeadlineLemmas.{headline_holds}
use Rattle.dav_server.proofs.PromiseLemmas.{runs_promise}
use Rattle.dav_live.specs.Answers.{IsAnswer, caller_of}
use Rattle.dav_live.specs.LifePromises.{AreTurnsOf, IsTurnOf, LivesKeepPromises}
use Rattle.dav_live.specs.Numbered.{AreNumbered, HasNumber}
use Rattle.dav_live.specs.Tokens.{token_text}
use Rattle.dav_live.proofs.MachineRuns.{step_of}
use Rattle.dav_live.proofs.TokenLemmas.{tokens_differ}

-- ---- the run, with a list of refusals in each turn

record LoadedRun (first : Server) (records : List RecordView) (last : Server) : Type 0 where
  turns : List Turn
  replies : List Reply
  are : AreTurnsOf records turns
  runs : AnswersAll first turns replies last

-- one step, and then a run: the turn brings the refusals that the store has
one_then : (first mid last : Server) (r : RecordView) (rs : List RecordView) → (reply : Reply) × IsStepFor r.request.head r.request.body (caller_of r.request) first reply mid
    → LoadedRun mid rs last → LoadedRun first (r ∷ rs) last
one_then first mid last r rs (reply, step) later =
    let runs : Runs first.settings later.turns mid.state.store mid.state.locks later.replies last.state.store last.state.locks =
    subst (λ (s : Settings). Runs s later.turns mid.state.store mid.state.locks later.replies last.state.store last.state.locks) step.same later.runs in
    record {
      turns = record { asked = step.exchange; refusals = Some first.state.store.refusals } ∷ later.turns;
      replies = reply ∷ later.replies;
      are = ((step.is_exchange, refl), later.are);
      runs = one_more step.answers runs;
    }

loaded_run : (first last : Server) (records : List RecordView) → RecordsRun (answer_step IsAnswer) first records last → LoadedRun first records last
loaded_run first last [] same = record { turns = []; replies = []; are = tt; runs = subst (λ (s : Server). AnswersAll first [] [] s) (sym same) no_more }
loaded_run first last (r ∷ rs) (mid, (sent, status, is), rest) =
    one_then first mid last r rs (step_of first mid r.request sent is) (loaded_run mid last rs rest)

-- ---- what the headline asks of its turns

moments_are_dates : (rs : List RecordView) (ts : List Turn) → AreTurnsOf rs ts → MomentsAreDates ts
moments_are_dates [] [] are = All-nil (λ (t : Turn). t.asked.moment ≤ last_moment)
moments_are_dates [] (t ∷ ts) are = absurd are
moments_are_dates (r ∷ rs) [] are = absurd are
moments_are_dates (r ∷ rs) (t ∷ ts) are =
    All-cons (λ (t : Turn). t.asked.moment ≤ last_moment) t ts (omega (arith, are.0.0.moment)) (moments_are_dates rs ts are.1)

are_loaded : (rs : List RecordView) (ts : List Turn) → AreTurnsOf rs ts → AreLoaded ts
are_loaded [] [] are = All-nil (λ (t : Turn). is_some t.refusals ≡ true)
are_loaded [] (t ∷ ts) are = absurd are
are_loaded (r ∷ rs) [] are = absurd are
are_loaded (r ∷ rs) (t ∷ ts) are = All-cons (λ (t : Turn). is_some t.refusals ≡ true) t ts are.0.1 (are_loaded rs ts are.1)

-- two turns don't hand in one token
Differ : Turn → Turn → Type 0
Differ t u = (token : List ℕ) → t.asked.token ≡ Some token → u.asked.token ≢ Some token

none_is_none : {A : Type 0} (x : A) → None ≡ Some x → ⊥
none_is_none x e = cc

some_is : {A : Type 0} (x y : A) → Some x ≡ Some y → x ≡ y
some_is x y e = cc

tokens_of : (a b x y : Option (List ℕ)) (n m : ℕ) → IsTokenOf a x → IsTokenOf b y → HasNumber n a → HasNumber m b → n + token_count a ≤ m
    → (token : List ℕ) → x ≡ Some token → y ≢ Some token
tokens_of _ b _ y n m missing other one two below token is also = none_is_none token is
tokens_of _ b _ y n m (refused none) other one two below token is also = none_is_none token is
tokens_of _ _ _ _ n m (granted fits) missing one two below token is also = none_is_none token also
tokens_of _ _ _ _ n m (granted fits) (refused none) one two below token is also = none_is_none token also
tokens_of _ _ _ _ n m (granted {text} fits) (granted {text = other} fits') (random, sixteen, small, named) (random', sixteen', small', named') below token is also =
    let same : token_text random n ≡ token_text random' m = sym named ∙ some_is text token is ∙ sym (some_is other token also) ∙ named' in
    omega (arith, tokens_differ random random' n m small small' same)

later_differ : (r : RecordView) (t : Turn) (n : ℕ) → IsTurnOf r t → HasNumber n r.request.token → (rs : List RecordView) (us : List Turn) (m : ℕ)
    → n + token_count r.request.token ≤ m → AreNumbered m rs → AreTurnsOf rs us → All (Differ t) us
unfolding Differ
later_differ r t n is number [] [] m below numbered are = All-nil (Differ t)
later_differ r t n is number [] (u ∷ us) m below numbered are = absurd are
later_differ r t n is number (q ∷ rs) [] m below numbered are = absurd are
later_differ r t n is number (q ∷ rs) (u ∷ us) m below numbered are =
    All-cons (Differ t) u us (tokens_of r.request.token q.request.token t.asked.token u.asked.token n m is.0.token are.0.0.token number numbered.0 below)
    (later_differ r t n is number rs us (m + token_count q.request.token) (omega (arith, below)) numbered.1 are.1)

tokens_of_turns : (rs : List RecordView) (ts : List Turn) (n : ℕ) → AreNumbered n rs → AreTurnsOf rs ts → AllPairs Differ ts
tokens_of_turns [] [] n numbered are = λ i j d before within. absurd (omega (arith, within))
tokens_of_turns [] (t ∷ ts) n numbered are = absurd are
tokens_of_turns (r ∷ rs) [] n numbered are = absurd are
tokens_of_turns (r ∷ rs) (t ∷ ts) n numbered are =
    AllPairs-cons Differ t ts (later_differ r t n are.0 numbered.0 rs ts (n + token_count r.request.token) (omega arith) numbered.1 are.1)
    (tokens_of_turns rs ts (n + token_count r.request.token) numbered.1 are.1)

differ : (rs : List RecordView) (ts : List Turn) → AreNumbered 0 rs → AreTurnsOf rs ts → TokensDiffer ts
unfolding Differ
differ rs ts numbered are = tokens_of_turns rs ts 0 numbered are

pub lives_keep_promises : LivesKeepPromises
lives_keep_promises prefix records last run numbered =
    let loaded = loaded_run (new_server prefix) last records run in
    let dates = moments_are_dates records loaded.turns loaded.are in
    record {
      turns = loaded.turns;
      replies = loaded.replies;
      are = loaded.are;
      promises = runs_promise (new_server prefix) last loaded.turns loaded.replies dates loaded.runs;
      headline = headline_holds (new_server prefix).settings loaded.turns loaded.replies last dates (are_loaded records loaded.turns loaded.are)
          (differ records loaded.turns numbered loaded.are) loaded.runs;
    }
